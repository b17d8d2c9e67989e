use Rattle.printed_pieces.proofs.Theorems.{component_cut}
use Rattle.printed_pieces.proofs.laws.a_printed_component_is_cut_as_meant.Goals as goal

pub returns : goal.returns
returns c = component_cut
