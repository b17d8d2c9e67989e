use Rattle.std.proofs.Common.{◌≡◌, ◌++◌, take}
use Rattle.std.specs.List.{flat_map}
use Rattle.cs_print.specs.PrintedMembers.{member_kinds}
use Rattle.cs_print.specs.Layout.{code_text}
use Rattle.cs_print.proofs.members.push_members.Given as goal

abbrev pub invariant-loop-member : goal.invariant-loop-member
invariant-loop-member l = l.out ≡ l.initial.out ++ flat_map (λ member. code_text (member_kinds member.kind)) (take l.member-index l.members)
