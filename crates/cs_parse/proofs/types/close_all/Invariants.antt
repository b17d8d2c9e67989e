use Rattle.std.proofs.Common.{◌≡◌, length}
use Rattle.std.specs.Prelude.{Some}
use Rattle.cs_parse.specs.OpenTypes.{all_closed}
use Rattle.cs_parse.proofs.types.close_all.Given as goal

-- what waits still is closed round what is written so far
abbrev pub invariant-loop-opened : goal.invariant-loop-opened
invariant-loop-opened l = all_closed l.waiting (Some (l.inner, l.left)) ≡ all_closed l.fn.waiting (Some (l.fn.inner, l.fn.tokens))

abbrev pub decreases-loop-opened : goal.decreases-loop-opened
decreases-loop-opened l = length l.waiting
