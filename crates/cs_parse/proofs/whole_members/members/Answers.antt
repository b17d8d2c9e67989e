use Rattle.std.proofs.Common.{rules, ◌≡◌, Some, None}
use Rattle.cs_grammar.specs.Nesting.{too_deep}
use Rattle.cs_parse.specs.MemberReading.{whole_members}
use Rattle.cs_parse.proofs.WholeMemberLemmas.{members_sound, no_list}
use Rattle.cs_parse.proofs.whole_members.members.Goals as goal

pub returns-in-Ok-clause-tree : goal.returns-in-Ok-clause-tree
returns-in-Ok-clause-tree c =
    let ts = c.args.tokens.now in
    let e : whole_members ts ≡ Some c.in-Ok.found = search rules in
    let d : too_deep ts ≡ None = search rules in
    (d, members_sound ts c.in-Ok.found e)

pub returns-in-Err-Syntax-clause-tree : goal.returns-in-Err-Syntax-clause-tree
returns-in-Err-Syntax-clause-tree c =
    let ts = c.args.tokens.now in
    let e : whole_members ts ≡ None = search rules in
    let d : too_deep ts ≡ None = search rules in
    (d, no_list ts e)
