use Rattle.cs_token.proofs.LawLemmas.{one_fault}
use Rattle.cs_token.proofs.laws.a_text_goes_wrong_in_one_way.Goals as goal

pub returns : goal.returns
returns c = one_fault
