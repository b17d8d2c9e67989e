use Rattle.printable_texts.proofs.Theorems.{content_printable}
use Rattle.printable_texts.proofs.laws.spelled_content_is_printable.Goals as goal

pub returns : goal.returns
returns c = content_printable
