use Rattle.printing_nodes.proofs.Theorems.{component_again}
use Rattle.printing_nodes.proofs.laws.a_printed_component_is_spelled_again.Goals as goal

pub returns : goal.returns
returns c = component_again
