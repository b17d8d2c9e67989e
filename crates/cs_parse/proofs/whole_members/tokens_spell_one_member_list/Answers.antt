use Rattle.cs_parse.proofs.WholeMemberLemmas.{one_list}
use Rattle.cs_parse.proofs.whole_members.tokens_spell_one_member_list.Goals as goal

pub returns : goal.returns
returns c = one_list
