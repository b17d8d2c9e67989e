use Rattle.std.proofs.Common.{◌≡◌, take, length}
use Rattle.cs_check.proofs.statements.cut.Given as goal

-- the first ones are as they were
abbrev pub invariant-loop-names : goal.invariant-loop-names
invariant-loop-names l = record { around : l.names.around ≡ l.fn.names.around; kept : take l.depth l.names.locals ≡ take l.depth l.fn.names.locals }

abbrev pub decreases-loop-names : goal.decreases-loop-names
decreases-loop-names l = length l.names.locals
