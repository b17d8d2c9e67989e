use Rattle.std.proofs.Common.{◌≡◌, ◌+◌, length}
use Rattle.cs_parse.specs.ExpressionReading.{expr_first}
use Rattle.cs_parse.specs.Frames.{unwind, meaning, cost}
use Rattle.cs_parse.proofs.expressions.machine.expr_first.Given as goal

abbrev pub invariant-loop-turn : goal.invariant-loop-turn
invariant-loop-turn l = unwind l.stack (meaning l.turn l.left) ≡ expr_first l.level l.tokens

abbrev pub decreases-loop-turn : goal.decreases-loop-turn
decreases-loop-turn l = cost l.turn l.left + length l.stack
