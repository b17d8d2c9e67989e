use Rattle.std.proofs.Common.{◌∙◌, List, ap, map, subst, sym}
use Rattle.cs_forms.specs.Agrees.{AgreesBy}
use Rattle.cs_rules.specs.Judged.{Judged}
use Rattle.drawing_meaning.specs.Acts.{Act}
use Rattle.frame_program.specs.Operations.{act_of}
use Rattle.page_meaning.specs.Parts.{part_of}
use Rattle.razor_ast.specs.declared.node.TNode.{TNode}
use Rattle.razor_ast.specs.declared.node.TNode.TheVariants as nd
use Rattle.frame_parts.specs.Steps.{Numbered, step}
use Rattle.frame_parts.specs.Views.{home_in, numbered}
use Rattle.frame_parts.proofs.NodeLaws.{if_law}
use Rattle.frame_compiler.proofs.+nodes.Goals as goal

pub nodes::node-returns-in-If-clause-does : goal.nodes::node-returns-in-If-clause-does
nodes::node-returns-in-If-clause-does t c =
    let home = home_in c.args.site.now in
    let s = c.args.scope.now in
    let before = numbered c.args.making.now in
    subst (λ (it : Judged (List Act × Numbered)). AgreesBy (λ all. (map act_of all, numbered c.branch-site.new.making)) c.branch-site.result it)
    (sym (if_law home s c.in-If.place c.in-If.condition c.get.result.now c.in-If.no before)
    ∙ ap (λ (yes : TNode). step ((part_of (nd.If c.in-If.place c.in-If.condition yes c.in-If.no)).makes home s) before) c.get.ensures
    ∙ ap (λ (node : TNode). step ((part_of node).makes home s) before) (sym c.in-If.is))
    c.branch-site.ensures.does
