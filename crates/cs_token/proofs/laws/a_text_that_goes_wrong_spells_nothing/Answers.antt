use Rattle.cs_token.proofs.LawLemmas.{wrong_spells_nothing}
use Rattle.cs_token.proofs.laws.a_text_that_goes_wrong_spells_nothing.Goals as goal

pub returns : goal.returns
returns c = wrong_spells_nothing
