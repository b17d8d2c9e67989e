use Rattle.std.proofs.Common.{◌≡◌, length}
use Rattle.cs_token.specs.Reading.Fronts.{past_end}
use Rattle.cs_token.proofs.front.past_end.Given as goal

-- the end in the rest is the end in the text
abbrev pub invariant-loop-rest : goal.invariant-loop-rest
invariant-loop-rest l = past_end l.in_line l.rest ≡ past_end l.in_line l.text

abbrev pub decreases-loop-rest : goal.decreases-loop-rest
decreases-loop-rest l = length l.rest
