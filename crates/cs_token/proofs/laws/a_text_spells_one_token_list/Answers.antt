use Rattle.cs_token.proofs.LawLemmas.{one_list}
use Rattle.cs_token.proofs.laws.a_text_spells_one_token_list.Goals as goal

pub returns : goal.returns
returns c = one_list
