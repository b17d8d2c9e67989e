use Rattle.std.proofs.Common.{◌≡◌, ◌++◌}
use Rattle.std.specs.List.{flat_map}
use Rattle.razor_print.specs.Parts.{doubled}
use Rattle.razor_print.proofs.parts.push_all_doubled.Given as goal

-- the characters so far are written
abbrev pub invariant-loop-character : goal.invariant-loop-character
invariant-loop-character l = l.out ≡ l.initial.out ++ flat_map doubled l.yielded
