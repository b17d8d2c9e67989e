use Rattle.std.proofs.Common.{◌≡◌, Bool, IfOk, sym, ap, subst, ◌∙◌}
use Rattle.razor_ast.specs.declared.node.TNode.{TNode}
use Rattle.razor_ast.specs.declared.node.TNode.TheVariants as nd
use Rattle.razor_rules.specs.Templates.{part_of}
use Rattle.razor_parts.specs.Views.{home_of}
use Rattle.razor_parts.proofs.DeedLaws.{if_does}
use Rattle.razor_parts.proofs.deeds.+deeds.Goals as goal

pub node-returns-in-If : goal.node-returns-in-If
node-returns-in-If t c =
    let home = home_of c.args.home.now in
    let deed = c.args.deed.now in
    let place = c.in-If.place in
    let test = c.in-If.condition in
    let fails = c.in-If.no in
    subst (λ (does : Bool). IfOk c.branches.result (λ (yes : Bool). yes ≡ does))
    (sym (if_does deed home place test c.get.result.now fails)
    ∙ ap (λ (holds : TNode). (part_of home (nd.If place test holds fails)).does deed) c.get.ensures
    ∙ ap (λ (node : TNode). (part_of home node).does deed) (sym c.in-If.is))
    c.branches.ensures
