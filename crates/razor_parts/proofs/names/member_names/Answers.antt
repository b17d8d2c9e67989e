use Rattle.std.proofs.Common.{◌≡◌, ◌+◌, ◌<◌, List, ◌∷◌, ◌++◌, length, drop, reverse, rules, sym, ap, ◌∙◌}
use Rattle.std.proofs.lemmas.List.{drop_more}
use Rattle.cs_ast.specs.declared.member.Member.{Member}
use Rattle.cs_ast.specs.declared.scope.Named.{Named}
use Rattle.razor_rules.specs.Members.{Before, named, names_behind}
use Rattle.razor_parts.specs.Views.{before_of}
use Rattle.razor_parts.proofs.NameLemmas.{names_more}
use Rattle.razor_parts.proofs.names.member_names.Goals as goal

pub loop-member-preserved : goal.loop-member-preserved
loop-member-preserved c =
    let first = c.args.first in
    let members = c.args.members.now in
    let before : Before = before_of c.loop-member.before in
    let one = c.member-item.result in
    let rest = drop (c.loop-member.member-index + 1) members in
    let names = c.loop-member.names in
    let within : c.loop-member.member-index < length members = search rules in
    let here : drop c.loop-member.member-index members ≡ one ∷ rest =
    drop_more members c.loop-member.member-index one within ∙ ap (λ (x : Member). x ∷ rest) (sym c.member-item.is) in
    c.loop-member.invariant
    ∙ ap (λ (xs : List Member). names_behind first before xs ++ reverse names) here
    ∙ names_more first before one rest names
    ∙ ap (λ (b : Before). names_behind first b rest ++ reverse (names ++ named first before one.kind)) (sym c.in_ok-before.ensures)
    ∙ ap (λ (ns : List Named). names_behind first (before_of c.in_ok-before.before) rest ++ reverse ns) (sym c.in_ok-push_named.ensures)
