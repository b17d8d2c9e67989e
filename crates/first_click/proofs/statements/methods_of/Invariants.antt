use Rattle.std.proofs.Common.{map, take}
use Rattle.first_click.specs.Statements.{Defines}
use Rattle.first_click.specs.Reading.Views.{member_of}
use Rattle.first_click.proofs.statements.methods_of.Given as goal

-- the members so far define the methods so far
abbrev pub invariant-loop-member : goal.invariant-loop-member
invariant-loop-member l = Defines l.fields (map member_of (take l.member-index l.members)) l.methods
