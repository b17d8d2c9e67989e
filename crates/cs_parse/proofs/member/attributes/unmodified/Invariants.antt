use Rattle.std.proofs.Common.{◌≡◌, length}
use Rattle.cs_parse.specs.MemberReading.{unmodified}
use Rattle.cs_parse.proofs.member.attributes.unmodified.Given as goal

-- the modifiers taken so far leave the same tokens
abbrev pub invariant-loop-t : goal.invariant-loop-t
invariant-loop-t l = unmodified l.left ≡ unmodified l.tokens

abbrev pub decreases-loop-t : goal.decreases-loop-t
decreases-loop-t l = length l.left
