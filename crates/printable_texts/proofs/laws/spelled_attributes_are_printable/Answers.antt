use Rattle.printable_texts.proofs.Theorems.{attributes_printable}
use Rattle.printable_texts.proofs.laws.spelled_attributes_are_printable.Goals as goal

pub returns : goal.returns
returns c = attributes_printable
