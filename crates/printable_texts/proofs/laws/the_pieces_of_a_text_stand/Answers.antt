use Rattle.printable_texts.proofs.Theorems.{cut_stands}
use Rattle.printable_texts.proofs.laws.the_pieces_of_a_text_stand.Goals as goal

pub returns : goal.returns
returns c = cut_stands
