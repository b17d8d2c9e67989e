-- Expressions in templates that break no rule come to code of their types.
use Rattle.std.proofs.Common.{◌≡◌, ℕ, List, [], ◌∷◌, ◌++◌, refl, sym, ap, subst, ◌∙◌}
use Rattle.std.specs.Prelude.{Bool, true, false, if◌then◌else◌, Some, None}
use Rattle.text_core.specs.declared.place.Place.{Place}
use Rattle.cs_ast.specs.declared.code.Code.{Code}
use Rattle.cs_ast.specs.declared.cs_type.CsType.{CsType, out-CsType}
use Rattle.cs_ast.specs.declared.cs_type.CsType.TheOpen.{CsType-F}
use Rattle.cs_ast.specs.declared.cs_type.CsType.TheVariants as t
use Rattle.cs_ast.specs.declared.cs_type.CsType.TheViews.{roll-CsType, roll-out-CsType}
use Rattle.cs_ast.specs.declared.expression.Expr.{Expr}
use Rattle.cs_ast.specs.declared.scope.Named.{Named}
use Rattle.cs_ast.specs.declared.scope.Scope.{Scope}
use Rattle.cs_effects.specs.declared.deed.Deed.{Deed}
use Rattle.cs_effects.specs.Deeds.{Done}
use Rattle.cs_rules.specs.declared.checked.Checked.{Checked}
use Rattle.cs_rules.specs.declared.checked.ExprType.{ExprType}
use Rattle.cs_rules.specs.declared.checked.ExprType.TheVariants.{Of, Null, Markup}
use Rattle.cs_rules.specs.declared.rule.Rule.{Rule}
use Rattle.cs_rules.specs.Judged.{Judged, fine, breaks}
use Rattle.cs_rules.specs.Trees.{value_in}
use Rattle.cs_forbidden.specs.declared.forbidden.Forbidden.{Forbidden}
use Rattle.cs_forbidden.specs.Trees as forbidding
use Rattle.cs_typing.specs.Types.{Types}
use Rattle.cs_typing.specs.Operators as shows
use Rattle.cs_typing.specs.Expressions.{Surroundings, CodeHas}
use Rattle.cs_accepted.specs.Scopes.{ScopeFits}
use Rattle.cs_accepted.specs.Accepted.{HasType}
use Rattle.cs_accepted.proofs.ExpressionLaws.{expression_fits}
use Rattle.drawing_meaning.specs.Acts.{Act}
use Rattle.drawing_meaning.specs.Nodes.{as_fragment}
use Rattle.razor_rules.specs.Findings.{found}
use Rattle.razor_rules.specs.Values.{is_content, is_content_level}
use Rattle.page_meaning.specs.Nodes.{appears, appears_level}
use Rattle.page_meaning.specs.Resolved.{judged, value_code}
use Rattle.page_typing.specs.Acts.{AppearsAs, ActHas, ActsHave}
use Rattle.page_typing.specs.Acts as acts
use Rattle.page_typing.specs.Narrowing.{Narrows, Follows, SameValue}
use Rattle.page_typing.specs.Resolving.{Resolved}
use Rattle.page_typing.proofs.NarrowTrees.{expression_tree}
use Rattle.page_typing.proofs.NarrowExpressions.{like}
use Rattle.page_typing.proofs.ResolvedParts.{one_resolved, judged_resolved}

-- code that breaks no rule is fine
pub found_nothing : {A : Type 0} (j : Judged A) → found j ≡ [] → (x : A) × (j ≡ fine x)
found_nothing (fine x) e = (x, refl)
found_nothing (breaks rule place) e = absurd (cc)

pub no_first : {A : Type 0} (xs ys : List A) → xs ++ ys ≡ [] → xs ≡ []
no_first [] ys e = refl
no_first (x ∷ xs) ys e = absurd (cc)

pub no_second : {A : Type 0} (xs ys : List A) → xs ++ ys ≡ [] → ys ≡ []
no_second [] ys e = e
no_second (x ∷ xs) ys e = absurd (cc)

-- a test that a fine judgement passed
pub test_passed : (b : Bool) (rule : Rule) (place : Place) (u : Unit {0}) → (if b then fine (tt {0}) else breaks rule place) ≡ fine u → b ≡ true
test_passed true rule place u e = refl
test_passed false rule place u e = absurd (cc)

-- each scope is as narrow as itself
pub narrows_self : (does : Deed → Done) (locals : Deed → List (List ℕ)) (names : List Named) → Narrows does locals names names
narrows_self does locals names =
    record {
      used = λ deed name u h one e. (one, e, (one.name, one.place, refl));
      own = λ deed name h one e. (one, e, (one.name, one.place, refl));
      fewer = λ name e. e;
    }

-- what an expression comes to where nothing is forbidden
pub record ValueAt (at : Surroundings) (locals : List CsType) (s : Scope) (a : Expr) (x : Checked) : Type 0 where
  pub code : Code
  pub is : value_in s a ≡ fine (like x code)
  pub has : HasType at locals x.expr_type code

pub value_at : (at : Surroundings) (locals : List CsType) (s : Scope) (f : Forbidden) (a : Expr) (x : Checked) → ScopeFits at locals s → forbidding.value_in f s a ≡ fine x → ValueAt at locals s a x
value_at at locals s f a x fits e =
    let k : Follows SameValue (fine x) (value_in s a) = subst (λ j. Follows SameValue j (value_in s a)) e (expression_tree a f s s.names (λ deed. []) (narrows_self _ _ s.names)).0 in
    let is : value_in s a ≡ fine (like x k.2.0) = k.1 ∙ ap fine k.2.1 in
    record { code = k.2.0; is = is; has = expression_fits a s (like x k.2.0) at locals is fits }

module _ (types : Types) (components : Bool) where
  -- its code
  pub code_resolved : (at : Surroundings) (locals : List CsType) (s : Scope) (a : Expr) (x : Checked) (P : Code → Type 0) (v : ValueAt at locals s a x) → P v.code → Resolved types components P (value_code s a)
  code_resolved at locals s a x P v h =
      one_resolved types components (λ y. y ≡ like x v.code) P (judged (value_in s a)) (λ y. y.code) (judged_resolved types components (λ y. y ≡ like x v.code) (value_in s a) (like x v.code) v.is refl)
      (λ y e. subst P (sym (ap (λ (z : Checked). z.code) e)) h)

-- one part
pub one_act : (at : Surroundings) (components b : Bool) (locals inner : List CsType) (act : Act) → ActHas at components b locals inner act → ActsHave at components b locals inner (act ∷ [])
one_act at components b locals inner act h = acts.more b locals inner inner act [] h (acts.none b inner)

-- how content of a type is shown
level_appears : (type : CsType) (l : CsType-F CsType) → roll-CsType l ≡ type → is_content_level l ≡ true → AppearsAs type (appears_level l)
level_appears type CsType-F.Int is e = subst (λ z. AppearsAs z (appears_level CsType-F.Int)) is (subst (λ z. AppearsAs z (appears_level CsType-F.Int)) (sym t.rolls-Int) (acts.text t.Int shows.int))
level_appears type CsType-F.Bool is e = subst (λ z. AppearsAs z (appears_level CsType-F.Bool)) is (subst (λ z. AppearsAs z (appears_level CsType-F.Bool)) (sym t.rolls-Bool) (acts.text t.Bool shows.bool))
level_appears type CsType-F.Text is e = subst (λ z. AppearsAs z (appears_level CsType-F.Text)) is (subst (λ z. AppearsAs z (appears_level CsType-F.Text)) (sym t.rolls-Text) (acts.text t.Text shows.text))
level_appears type (CsType-F.Fragment None) is e = subst (λ z. AppearsAs z as_fragment) is (subst (λ z. AppearsAs z as_fragment) (sym (t.rolls-Fragment None)) acts.fragment)
level_appears type (CsType-F.Fragment (Some argument)) is e = absurd (cc)
level_appears type (CsType-F.Rec name) is e = absurd (cc)
level_appears type (CsType-F.List item) is e = absurd (cc)
level_appears type (CsType-F.Callback argument) is e = absurd (cc)
level_appears type CsType-F.Change is e = absurd (cc)
level_appears type CsType-F.Args is e = absurd (cc)
level_appears type CsType-F.Nothing is e = absurd (cc)

-- a type that content has
pub record Shown (at : Surroundings) (locals : List CsType) (given : ExprType) (code : Code) : Type 0 where
  pub type : CsType
  pub appears_so : AppearsAs type (appears given)
  pub has : CodeHas at locals type code

pub content_has : (at : Surroundings) (locals : List CsType) (given : ExprType) (code : Code) → is_content given ≡ true → HasType at locals given code → Shown at locals given code
unfolding is_content
content_has at locals (Of type) code e h = record { type = type; appears_so = level_appears type (out-CsType type) (roll-out-CsType type) e; has = h }
content_has at locals Null code e h = absurd (cc)
content_has at locals Markup code e h = record { type = t.Text; appears_so = acts.markup; has = h }
