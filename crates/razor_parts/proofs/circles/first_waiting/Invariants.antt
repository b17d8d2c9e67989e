use Rattle.std.proofs.Common.{◌≡◌, drop}
use Rattle.std.specs.List.{list_any}
use Rattle.razor_parts.specs.Circles.{is_waiting}
use Rattle.razor_parts.proofs.circles.first_waiting.Given as goal

-- none so far waits
abbrev pub invariant-loop-at : goal.invariant-loop-at
invariant-loop-at l = list_any is_waiting l.marks ≡ list_any is_waiting (drop l.at l.marks)
