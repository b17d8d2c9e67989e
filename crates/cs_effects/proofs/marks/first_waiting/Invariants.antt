use Rattle.std.proofs.Common.{◌≡◌, drop}
use Rattle.std.specs.List.{list_any}
use Rattle.cs_effects.specs.Spreading.{is_waiting}
use Rattle.cs_effects.proofs.marks.first_waiting.Given as goal

-- none so far waits
abbrev pub invariant-loop-at : goal.invariant-loop-at
invariant-loop-at l = list_any is_waiting l.marks ≡ list_any is_waiting (drop l.at l.marks)
