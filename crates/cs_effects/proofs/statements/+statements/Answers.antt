use Rattle.std.proofs.Common.{◌≡◌, ℕ, ◌+◌, ◌<◌, List, ◌∷◌, ◌++◌, Bool, false, length, drop, map, rules, refl, sym, ap, ◌∙◌}
use Rattle.std.proofs.lemmas.List.{at_drop_more}
use Rattle.cs_ast.specs.declared.expression.Stmt.{Stmt}
use Rattle.cs_ast.specs.declared.expression.StmtKind.{StmtKind}
use Rattle.cs_effects.specs.Deeds.{in_order, of_statement, of_statement_kind}
use Rattle.cs_effects.proofs.DeedLaws.{if_statement, for_statement, behind_one}
use Rattle.cs_effects.proofs.statements.+statements.Goals as goal

pub form-returns-in-If : goal.form-returns-in-If
form-returns-in-If t c =
    let form = ap (λ (kind : StmtKind). (of_statement_kind c.args.deed.now kind).done c.args.locals.now) c.in-If.is
    ∙ if_statement c.args.deed.now c.in-If.condition c.in-If.yes c.in-If.no c.args.locals.now in
    rw form (search rules)

pub form-returns-in-For : goal.form-returns-in-For
form-returns-in-For t c =
    let form = ap (λ (kind : StmtKind). (of_statement_kind c.args.deed.now kind).done c.args.locals.now) c.in-For.is
    ∙ for_statement c.args.deed.now c.in-For.start c.in-For.condition c.in-For.step c.in-For.body c.args.locals.now in
    rw form (search rules)

pub in_order-loop-one-preserved : goal.in_order-loop-one-preserved
in_order-loop-one-preserved t c =
    let all : List Stmt → Bool = λ body. in_order (map (of_statement c.args.deed.now) body) c.loop-one.inner in
    let rest : List Stmt = drop (c.loop-one.one-index + 1) c.args.body.now in
    let within : c.loop-one.one-index < length c.args.body.now = search rules in
    let off : (of_statement c.args.deed.now c.one-item.result).done c.loop-one.inner ≡ false = search rules in
    let declared : c.declare.new.locals ≡ c.loop-one.inner ++ (of_statement_kind c.args.deed.now c.one-item.result.kind).declares = search rules in
    c.loop-one.invariant
    ∙ at_drop_more all c.args.body.now c.loop-one.one-index c.one-item.result within
    ∙ ap (λ (one : Stmt). all (one ∷ rest)) (sym c.one-item.is)
    ∙ behind_one c.args.deed.now c.one-item.result (map (of_statement c.args.deed.now) rest) c.loop-one.inner off
    ∙ ap (in_order (map (of_statement c.args.deed.now) rest)) (sym declared)
