use Rattle.std.proofs.Common.{ℕ, List, map, sym, ap, ◌∙◌}
use Rattle.cs_ast.specs.declared.scope.Scope.{Scope}
use Rattle.razor_ast.specs.declared.node.TNode.{TNode}
use Rattle.razor_rules.specs.declared.ground.Ground.{Ground}
use Rattle.razor_rules.specs.Declarations as spec
use Rattle.razor_rules.specs.Findings.{also}
use Rattle.razor_rules.specs.Grounds.{top}
use Rattle.razor_rules.specs.Parts.{in_order}
use Rattle.razor_rules.specs.Programs.{name_rules}
use Rattle.razor_rules.specs.Scopes.{records_of}
use Rattle.razor_rules.specs.Templates.{part_of}
use Rattle.rule_findings.specs.Views.{text_of}
use Rattle.razor_parts.specs.Views.{home_of}
use Rattle.razor_check.specs.Members.{among, members_rules}
use Rattle.razor_check.proofs.FileLaws.{file_found}
use Rattle.razor_check.proofs.MemberLaws.{members_law}
use Rattle.razor_check.proofs.programs.file_rules.Goals as goal

pub returns-clause-does : goal.returns-clause-does
returns-clause-does c =
    let home = home_of c.args.home.now in
    let invoking = c.args.home.now.invoking in
    let circular = among c.args.circular.now in
    let earlier = records_of c.args.earlier.now in
    let named = c.name_rules.new.found.first in
    let checked = c.members_rules.new.found.first in
    let here = top home c.args.home.now.impure in
    let texts = ap (map text_of) c.as_slice.ensures.value ∙ c.in_ok-before.ensures in
    let ground = ap (λ (scope : Scope). record c.begin.new.g { scope = scope }) c.in_ok-members_rules.ensures.same ∙ c.in_ok-begin.ensures in
    file_found c.new-found.result.first named checked c.nodes_rules.new.found.first (name_rules c.args.earlier.now c.args.component.now) (spec.members_rules home invoking circular earlier)
    (in_order (map (part_of home) c.args.component.now.nodes) here) c.new-found.ensures c.in_ok-name_rules.ensures
    (c.in_ok-members_rules.ensures.does
    ∙ ap (λ (names : List (List ℕ)). also named (members_rules home invoking circular names)) texts
    ∙ ap (also named) (sym (members_law home invoking circular earlier)))
    (c.in_ok-nodes_rules.ensures.does
    ∙ ap (λ (g : Ground). also checked (in_order (map (part_of home) c.as_slice-2.result.now) g)) ground
    ∙ ap (λ (nodes : List TNode). also checked (in_order (map (part_of home) nodes) here)) c.as_slice-2.ensures)
