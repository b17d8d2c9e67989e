use Rattle.std.proofs.Common.{◌+◌, ◌*◌}
use Rattle.first_click.proofs.expressions.+expressions.Given as goal

abbrev pub decreases-expression : goal.decreases-expression
decreases-expression l = 4 * l.fuel + 0

abbrev pub decreases-operations : goal.decreases-operations
decreases-operations l = 4 * l.fuel + 0

abbrev pub decreases-bracketed : goal.decreases-bracketed
decreases-bracketed l = 4 * l.fuel + 1

abbrev pub decreases-operated : goal.decreases-operated
decreases-operated l = 4 * l.fuel + 1

abbrev pub decreases-operand : goal.decreases-operand
decreases-operand l = 4 * l.fuel + 2
