use Rattle.printable_texts.proofs.Theorems.{spelled_prints}
use Rattle.printable_texts.proofs.laws.what_a_text_spells_is_printable.Goals as goal

pub returns : goal.returns
returns c = spelled_prints
