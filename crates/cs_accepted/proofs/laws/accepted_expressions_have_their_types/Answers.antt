use Rattle.cs_accepted.proofs.ExpressionLaws.{expression_fits}
use Rattle.cs_accepted.proofs.laws.accepted_expressions_have_their_types.Goals as goal

pub returns : goal.returns
returns c = expression_fits
