use Rattle.cs_parse.proofs.BodyLemmas.{one_body}
use Rattle.cs_parse.proofs.whole_statements.tokens_spell_one_body.Goals as goal

pub returns : goal.returns
returns c = one_body
