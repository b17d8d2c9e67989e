use Rattle.cs_token.proofs.DecidedLemmas.{decided}
use Rattle.cs_token.proofs.laws.a_text_spells_tokens_or_goes_wrong.Goals as goal

pub returns : goal.returns
returns c = decided
