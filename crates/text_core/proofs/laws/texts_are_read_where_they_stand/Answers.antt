use Rattle.text_core.proofs.TextByteLemmas.{text_at-text_bytes, begins-text_at}
use Rattle.text_core.proofs.laws.texts_are_read_where_they_stand.Goals as goal

pub returns-clause-read : goal.returns-clause-read
returns-clause-read c = text_at-text_bytes

pub returns-clause-stands : goal.returns-clause-stands
returns-clause-stands c = begins-text_at
