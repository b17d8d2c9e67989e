use Rattle.razor_token.proofs.CutLemmas.{one_cutting}
use Rattle.razor_token.proofs.laws.a_text_is_cut_in_one_way.Goals as goal

pub returns : goal.returns
returns c = one_cutting
