use Rattle.printable_texts.proofs.Theorems.{component_prints}
use Rattle.printable_texts.proofs.laws.what_standing_pieces_spell_is_printable.Goals as goal

pub returns : goal.returns
returns c = component_prints
