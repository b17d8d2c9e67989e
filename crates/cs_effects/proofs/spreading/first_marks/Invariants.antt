use Rattle.std.proofs.Common.{◌≡◌, map, take}
use Rattle.cs_effects.specs.Spreading.{first_mark}
use Rattle.cs_effects.proofs.spreading.first_marks.Given as goal

-- the marks so far
abbrev pub invariant-loop-member : goal.invariant-loop-member
invariant-loop-member l = l.marks ≡ map (first_mark l.deed) (take l.member-index l.members)
