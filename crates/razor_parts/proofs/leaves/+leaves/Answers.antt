use Rattle.std.proofs.Common.{sym, ap, ◌∙◌}
use Rattle.std.specs.Prelude.{option_map}
use Rattle.cs_ast.specs.declared.expression.Stmt.{Stmt}
use Rattle.cs_accepted.specs.Leaves.{Leaves, leaves, looped, started}
use Rattle.razor_parts.proofs.LeavesLaws.{leaves_for}
use Rattle.razor_parts.proofs.leaves.+leaves.Goals as goal

pub leaves_of-returns-in-For-clause-breaks : goal.leaves_of-returns-in-For-clause-breaks
leaves_of-returns-in-For-clause-breaks t c =
    c.for_loop.ensures.breaks
    ∙ ap (λ (body : Stmt). (started (option_map leaves c.in-For.start) (looped c.always.result (leaves body))).breaks) c.get-in-For.ensures
    ∙ ap (λ (it : Leaves). it.breaks) (sym (leaves_for c.args.one.now c.in-For.start c.in-For.condition c.in-For.step c.in-For.body c.always.result c.in-For.is c.always.ensures))

pub leaves_of-returns-in-For-clause-ends : goal.leaves_of-returns-in-For-clause-ends
leaves_of-returns-in-For-clause-ends t c =
    c.for_loop.ensures.ends
    ∙ ap (λ (body : Stmt). (started (option_map leaves c.in-For.start) (looped c.always.result (leaves body))).ends) c.get-in-For.ensures
    ∙ ap (λ (it : Leaves). it.ends) (sym (leaves_for c.args.one.now c.in-For.start c.in-For.condition c.in-For.step c.in-For.body c.always.result c.in-For.is c.always.ensures))
