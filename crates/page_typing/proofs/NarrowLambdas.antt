-- Bodies that break no rule where some things are forbidden break none where nothing is, in a scope in which their names mean the same.
use Rattle.std.proofs.Common.{◌≡◌, ℕ, List, [], ◌∷◌, map, refl, sym, ap, subst, ◌∙◌, ◌⊎◌, inl, inr}
use Rattle.std.specs.Prelude.{Bool, true, false, if◌then◌else◌}
use Rattle.cs_ast.specs.declared.code.Code.{Code}
use Rattle.cs_ast.specs.declared.code.Code.TheVariants as c
use Rattle.cs_ast.specs.declared.cs_type.CsType.{CsType}
use Rattle.cs_ast.specs.declared.cs_type.CsType.TheVariants as t
use Rattle.cs_ast.specs.declared.expression.Body.{Body, Body-F, out-Body}
use Rattle.cs_ast.specs.declared.expression.Body.TheVariants as bo
use Rattle.cs_ast.specs.declared.expression.Body.TheViews.{roll-Body, roll-out-Body}
use Rattle.cs_ast.specs.declared.expression.Expr.{Expr}
use Rattle.cs_ast.specs.declared.expression.Stmt.{Stmt}
use Rattle.cs_ast.specs.declared.scope.Named.{Named}
use Rattle.cs_ast.specs.declared.scope.Scope.{Scope}
use Rattle.cs_effects.specs.declared.deed.Deed.{Deed}
use Rattle.cs_effects.specs.Deeds as does
use Rattle.cs_effects.specs.Deeds.{Done, of_body, of_expr, of_statement}
use Rattle.cs_effects.proofs.DeedLaws as deeds
use Rattle.cs_rules.specs.declared.checked.Checked.{Checked}
use Rattle.cs_rules.specs.declared.rule.Rule.TheVariants.{TypeMismatch}
use Rattle.cs_rules.specs.Judged.{Judged, fine, breaks, ◌>>=◌}
use Rattle.cs_rules.specs.Types.{fits, has_values, wants}
use Rattle.cs_rules.specs.Statements as st
use Rattle.cs_rules.specs.Trees as trees
use Rattle.cs_rules.specs.Trees.{Uses, uses, statement}
use Rattle.cs_accepted.specs.Bodies.{body_leaves, Accepts}
use Rattle.cs_accepted.specs.Bodies as accept
use Rattle.cs_accepted.proofs.TypeLemmas as ty
use Rattle.cs_accepted.proofs.TypeLemmas.{Form, form}
use Rattle.cs_forbidden.specs.declared.forbidden.Forbidden.{Forbidden}
use Rattle.cs_forbidden.specs.Roots.{nothing}
use Rattle.cs_forbidden.specs.Trees as forbidding
use Rattle.cs_forbidden.proofs.Nothing.{same_uses, same_statement}
use Rattle.razor_rules.specs.Bodies.{Level, result_fits, judged_level, judged_body, level_ends, reaches_end}
use Rattle.page_typing.specs.Formed.{NoJumps}
use Rattle.page_typing.specs.Narrowing.{at_names, Narrows, Follows, SameValue, Both}
use Rattle.page_typing.proofs.Following.{then_follows, then_value, then_same}
use Rattle.page_typing.proofs.NarrowTrees.{part_narrows, expression_tree}
use Rattle.page_typing.proofs.NarrowBodies.{statements_tree}

-- where nothing is forbidden
same_statements : (body : List Stmt) → map (forbidding.statement nothing) body ≡ map statement body
same_statements [] = refl
same_statements (one ∷ others) = ap (λ z. z ∷ map (forbidding.statement nothing) others) (same_statement one) ∙ ap (λ z. statement one ∷ z) (same_statements others)

pub same_value_in : (s : Scope) (a : Expr) → forbidding.value_in nothing s a ≡ trees.value_in s a
same_value_in s a = ap (λ (u : Uses). u.value s) (same_uses a)

pub same_body_in : (s : Scope) (body : List Stmt) → forbidding.body_in nothing s body ≡ trees.body_in s body
same_body_in s body = ap (λ z. st.in_order z s >>= λ codes. fine (c.Block codes)) (same_statements body)

level_follows : (l : Level) (body : Body) (f : Forbidden) (s : Scope) (others : List Named) (locals : Deed → List (List ℕ)) → roll-Body l ≡ body → Narrows (λ deed. of_body deed body) locals s.names others → Follows Both (judged_level f s l) (judged_level nothing (at_names others s) l)
level_follows (Body-F.Value a) body f s others locals is n =
    let same : bo.Value a ≡ body = sym (bo.rolls-Value a) ∙ is in
    let k = (expression_tree a f s others locals (part_narrows (λ deed. (of_expr deed a).done) (λ deed. of_body deed body) locals s.names others (λ deed h. ap (λ z. of_body deed z (locals deed)) (sym same) ∙ deeds.value_done deed a (locals deed) ∙ h) n)).0 in
    then_value Both (forbidding.value_in f s a) (forbidding.value_in nothing (at_names others s) a) _ _ (subst (λ z. Follows SameValue (forbidding.value_in f s a) z) (sym (same_value_in (at_names others s) a)) k)
    (λ x code. then_same Both (result_fits s.result x) _ _ (λ u. (_, refl, tt)))
level_follows (Body-F.Body::Block body) whole f s others locals is n =
    let same : bo.Block body ≡ whole = sym (bo.rolls-Block body) ∙ is in
    then_follows Both Both (st.in_order (map (forbidding.statement f) body) s) (st.in_order (map (forbidding.statement nothing) body) (at_names others s)) _ _
    (subst (λ z. Follows Both (st.in_order (map (forbidding.statement f) body) s) (st.in_order z (at_names others s))) (sym (same_statements body))
    (statements_tree body f s others locals (part_narrows (λ deed. does.in_order (map (of_statement deed) body)) (λ deed. of_body deed whole) locals s.names others (λ deed h. ap (λ z. of_body deed z (locals deed)) (sym same) ∙ deeds.body_block_done deed body (locals deed) ∙ h) n)))
    (λ x y k. (_, refl, tt))

pub body_follows : (body : Body) (f : Forbidden) (s : Scope) (others : List Named) (locals : Deed → List (List ℕ)) → Narrows (λ deed. of_body deed body) locals s.names others → Follows Both (judged_body f s body) (judged_body nothing (at_names others s) body)
unfolding judged_body
body_follows body f s others locals n = level_follows (out-Body body) body f s others locals (roll-out-Body body) n

-- what comes of two things one after the other, where both are fine
pub both_fine : {A B : Type 0} (j : Judged A) (n : A → Judged B) (y : B) → (j >>= n) ≡ fine y → (x : A) × (j ≡ fine x) × (n x ≡ fine y)
both_fine (fine x) n y e = (x, refl, e)
both_fine (breaks rule place) n y e = absurd (cc)

no_values : (type : CsType) → Form type → has_values type ≡ false → type ≡ t.Nothing
unfolding has_values
no_values type ty.int e = absurd (cc)
no_values type ty.bool e = absurd (cc)
no_values type ty.text e = absurd (cc)
no_values type (ty.record_of name) e = absurd (cc)
no_values type (ty.list item) e = absurd (cc)
no_values type (ty.callback argument) e = absurd (cc)
no_values type (ty.fragment argument) e = absurd (cc)
no_values type ty.change e = absurd (cc)
no_values type ty.args e = absurd (cc)
no_values type ty.nothing e = refl

fit_or_dropped : (result : CsType) (x : Checked) (u : Unit {0}) → result_fits result x ≡ fine u → (fits x.expr_type result ≡ true) ⊎ (result ≡ t.Nothing)
unfolding wants
fit_or_dropped result x u e = by (has_values result) refl e
  where
    fit : (b : Bool) → (if b then fine (tt {0}) else breaks TypeMismatch x.place) ≡ fine u → b ≡ true
    fit true e2 = refl
    fit false e2 = absurd (cc)

    by : (b : Bool) → has_values result ≡ b → (if b then wants result x.place x.expr_type else fine (tt {0})) ≡ fine u → (fits x.expr_type result ≡ true) ⊎ (result ≡ t.Nothing)
    by true is e1 = inl (fit (fits x.expr_type result) e1)
    by false is e1 = inr (no_values result (form result) is)

level_accepts : (l : Level) (body : Body) (s : Scope) (code : Code) → roll-Body l ≡ body → judged_level nothing s l ≡ fine code → NoJumps body → (s.result ≡ t.Nothing) ⊎ (level_ends l ≡ false) → Accepts s body code
level_accepts (Body-F.Value a) body s code is e jumps ends =
    let same : bo.Value a ≡ body = sym (bo.rolls-Value a) ∙ is in
    let one = both_fine (forbidding.value_in nothing s a) (λ x. result_fits s.result x >>= λ u. fine x.code) code e in
    let two = both_fine (result_fits s.result one.0) (λ u. fine one.0.code) code one.2 in
    let judged : trees.value_in s a ≡ fine one.0 = sym (same_value_in s a) ∙ one.1 in
    let code_is : one.0.code ≡ code = cc in
    subst (λ z. Accepts s z code) same (subst (λ z. Accepts s (bo.Value a) z) code_is
    (elim (fit_or_dropped s.result one.0 two.0 two.1) [ inl k ↦ accept.value a one.0 judged k | inr k ↦ accept.dropped a one.0 judged k ]))
level_accepts (Body-F.Body::Block body) whole s code is e jumps ends =
    let same : bo.Block body ≡ whole = sym (bo.rolls-Block body) ∙ is in
    let k = jumps body (sym same) in
    subst (λ z. Accepts s z code) same (accept.block body code (sym (same_body_in s body) ∙ e) k.0 k.1 ends)

-- a body that breaks no rule is accepted, where no jump leaves it and its end can't be reached if it has a result
pub judged_accepts : (s : Scope) (body : Body) (code : Code) → judged_body nothing s body ≡ fine code → NoJumps body → (s.result ≡ t.Nothing) ⊎ (reaches_end body ≡ false) → Accepts s body code
unfolding judged_body reaches_end
judged_accepts s body code e jumps ends = level_accepts (out-Body body) body s code (roll-out-Body body) e jumps ends
