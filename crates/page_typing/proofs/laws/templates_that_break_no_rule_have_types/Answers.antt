use Rattle.page_typing.proofs.TemplateNodes.{nodes_fit}
use Rattle.page_typing.proofs.laws.templates_that_break_no_rule_have_types.Goals as goal

pub returns : goal.returns
returns c = λ home types components fits n m nodes g formed template e. nodes_fit home types components fits n m nodes g formed template e
