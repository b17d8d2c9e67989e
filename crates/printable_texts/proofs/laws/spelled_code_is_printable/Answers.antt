use Rattle.printable_texts.proofs.Theorems.{code_printable}
use Rattle.printable_texts.proofs.laws.spelled_code_is_printable.Goals as goal

pub returns : goal.returns
returns c = code_printable
