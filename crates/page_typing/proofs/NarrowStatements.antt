-- Each form of statement in two scopes, where its parts follow.
use Rattle.std.proofs.Common.{◌≡◌, ℕ, List, [], ◌∷◌, refl, sym, subst}
use Rattle.std.specs.Prelude.{Bool, true, false, not, ◌||◌, if◌then◌else◌, Option, Some, None, bytes_eq}
use Rattle.text_core.specs.declared.place.Place.{Place}
use Rattle.cs_ast.specs.declared.code.Code.{Code}
use Rattle.cs_ast.specs.declared.code.Code.TheVariants as c
use Rattle.cs_ast.specs.declared.cs_type.CsType.{CsType}
use Rattle.cs_ast.specs.declared.cs_type.CsType.TheVariants as t
use Rattle.cs_ast.specs.declared.cs_type.TypeExpr.{TypeExpr}
use Rattle.cs_ast.specs.declared.expression.Label.{Label}
use Rattle.cs_ast.specs.declared.identifier.Ident.{Ident}
use Rattle.cs_ast.specs.declared.scope.Named.{Named}
use Rattle.cs_ast.specs.declared.scope.Scope.{Scope}
use Rattle.cs_effects.specs.declared.deed.Deed.{Deed}
use Rattle.cs_effects.specs.Deeds.{is_free}
use Rattle.cs_rules.specs.declared.checked.Checked.{Checked}
use Rattle.cs_rules.specs.declared.checked.ExprType.{ExprType}
use Rattle.cs_rules.specs.declared.checked.ExprType.TheVariants.{Of}
use Rattle.cs_rules.specs.Judged.{Judged, fine, mismatch, each, if_there, ◌>>=◌}
use Rattle.cs_rules.specs.Names.{is_new, with_local}
use Rattle.cs_rules.specs.Types.{fits, fitting}
use Rattle.cs_rules.specs.Written.{written}
use Rattle.cs_rules.specs.Expressions.{Value, items_of}
use Rattle.cs_rules.specs.Statements as st
use Rattle.cs_rules.specs.Statements.{Done, done, Statement, condition, initial, local_type, stepped, decides, constants, has_default, return_nothing}
use Rattle.page_typing.specs.Narrowing.{at_names, Fewer, Follows, SameValue, Both, SameDone}
use Rattle.page_typing.proofs.Following.{then_follows, then_value, then_same, either_follows, new_follows, means_behind, means_new, fewer_behind}
use Rattle.page_typing.proofs.NarrowExpressions.{like, fitting_follows}

pub none_declared : {A : Type 0} (name : List ℕ) → is_free name [] ≡ false → A
unfolding is_free
none_declared name e = absurd (cc)

pub one_declared : (name other : List ℕ) → is_free name (other ∷ []) ≡ false → bytes_eq other name ≡ true
unfolding is_free
one_declared name other e = by (bytes_eq other name) e
  where
    by : (b : Bool) → not (b || false) ≡ false → b ≡ true
    by true e1 = refl
    by false e1 = absurd (cc)

module _ (s : Scope) (others : List Named) (fewer : Fewer s.names others) where
  abbrev s' : Scope
  s' = at_names others s

  abbrev Values : Value → Value → Type 0
  Values a b = Follows SameValue (a s) (b s')

  abbrev Behind : (Deed → List (List ℕ)) → Judged Done → Judged Done → Type 0
  Behind declares j k = Follows (SameDone s.names others declares) j k

  -- a statement that declares nothing
  pub stays : (declares : Deed → List (List ℕ)) (code other : Code) → ((deed : Deed) → declares deed ≡ []) → SameDone s.names others declares (done s code) (done s' other)
  stays declares code other none =
      record { code = other; after = others; is = refl; keeps = λ name h. h; declared = λ deed name e. none_declared name (subst (λ z. is_free name z ≡ false) (none deed) e); fewer = fewer }

  pub stay : (declares : Deed → List (List ℕ)) (code other : Code) → ((deed : Deed) → declares deed ≡ []) → Behind declares (fine (done s code)) (fine (done s' other))
  stay declares code other none = (done s' other, refl, stays declares code other none)

  pub condition_follows : (a b : Value) → Values a b → Follows Both (condition a s) (condition b s')
  unfolding condition
  condition_follows a b h = then_value Both (a s) (b s') _ _ h (λ x code. fitting_follows t.Bool x code)

  -- what may be absent
  pub data OptionFollows : Option Value → Option Value → Type 0 where
    no_value : OptionFollows None None
    a_value : (a b : Value) → Values a b → OptionFollows (Some a) (Some b)

  initial_follows : (name : Ident) (a b : Option Value) → OptionFollows a b → Follows SameValue (initial name a s) (initial name b s')
  initial_follows name a b no_value = tt
  initial_follows name a b (a_value a1 b1 h) = h

  type_follows : (type : Option CsType) (x : Checked) (code : Code) → local_type type (like x code) ≡ local_type type x
  unfolding local_type
  type_follows None x code = refl
  type_follows (Some type) x code = refl

  pub local_follows : (declares : Deed → List (List ℕ)) (type : Option TypeExpr) (name : Ident) (a b : Option Value) → ((deed : Deed) → declares deed ≡ name.name ∷ []) → OptionFollows a b → Behind declares (st.local type name a s) (st.local type name b s')
  unfolding st.local with_local
  local_follows declares type name a b one h =
      then_same (SameDone s.names others declares) (if_there (written s.records) type) _ _
      (λ declared. then_follows Both (SameDone s.names others declares) (is_new s name) (is_new s' name) _ _ (new_follows s.names others s name fewer)
      (λ u v w. then_value (SameDone s.names others declares) (initial name a s) (initial name b s') _ _ (initial_follows name a b h)
      (λ x code. subst (λ j. Follows (SameDone s.names others declares) (local_type declared x >>= λ given. fine (done (with_local s name.name given) (c.Declare x.code))) (j >>= λ given. fine (done (with_local s' name.name given) (c.Declare code)))) (sym (type_follows declared x code))
      (then_same (SameDone s.names others declares) (local_type declared x) _ _
      (λ given. (
        _,
        refl,
        record {
          code = c.Declare code;
          after = _;
          is = refl;
          keeps = means_behind s.names others name.name given;
          declared = λ deed n e. means_new s.names others name.name given n (one_declared n name.name (subst (λ z. is_free n z ≡ false) (one deed) e));
          fewer = fewer_behind s.names others name.name given fewer;
        },
      ))))))

  pub block_follows : (declares : Deed → List (List ℕ)) (us vs : List Statement) → ((deed : Deed) → declares deed ≡ []) → Follows Both (st.in_order us s) (st.in_order vs s') → Behind declares (st.block us s) (st.block vs s')
  unfolding st.block
  block_follows declares us vs none h = then_follows Both (SameDone s.names others declares) (st.in_order us s) (st.in_order vs s') _ _ h (λ x y k. stay declares (c.Block x) (c.Block y) none)

  pub alone_follows : (declares : Deed → List (List ℕ)) (a b : Statement) → Behind declares (a s) (b s') → Follows Both (st.alone a s) (st.alone b s')
  alone_follows declares a b h = then_follows (SameDone s.names others declares) Both (a s) (b s') _ _ h (λ x y k. (_, refl, tt))

  -- a branch that may be absent
  pub data BranchFollows : Option Statement → Option Statement → Type 0 where
    no_branch : BranchFollows None None
    a_branch : (a b : Statement) → Follows Both (st.alone a s) (st.alone b s') → BranchFollows (Some a) (Some b)

  branch_follows : (a b : Option Statement) → BranchFollows a b → Follows Both (if_there (λ one. st.alone one s) a) (if_there (λ one. st.alone one s') b)
  branch_follows a b no_branch = (_, refl, tt)
  branch_follows a b (a_branch a1 b1 h) = then_follows Both Both (st.alone a1 s) (st.alone b1 s') _ _ h (λ x y k. (_, refl, tt))

  pub if_follows : (declares : Deed → List (List ℕ)) (a a' : Value) (b b' : Statement) (d d' : Option Statement) → ((deed : Deed) → declares deed ≡ []) → Values a a' → Follows Both (st.alone b s) (st.alone b' s') → BranchFollows d d' → Behind declares (st.if_else a b d s) (st.if_else a' b' d' s')
  unfolding st.if_else
  if_follows declares a a' b b' d d' none h g k =
      then_follows Both (SameDone s.names others declares) (condition a s) (condition a' s') _ _ (condition_follows a a' h)
      (λ x y u. then_follows Both (SameDone s.names others declares) (st.alone b s) (st.alone b' s') _ _ g
      (λ z w v. then_follows Both (SameDone s.names others declares) (if_there (λ one. st.alone one s) d) (if_there (λ one. st.alone one s') d') _ _ (branch_follows d d' k) (λ p q r. stay declares _ _ none)))

  pub while_follows : (declares : Deed → List (List ℕ)) (a a' : Value) (b b' : Statement) → ((deed : Deed) → declares deed ≡ []) → Values a a' → Follows Both (st.alone b s) (st.alone b' s') → Behind declares (st.while_loop a b s) (st.while_loop a' b' s')
  unfolding st.while_loop
  while_follows declares a a' b b' none h g =
      then_follows Both (SameDone s.names others declares) (condition a s) (condition a' s') _ _ (condition_follows a a' h)
      (λ x y u. then_follows Both (SameDone s.names others declares) (st.alone b s) (st.alone b' s') _ _ g (λ z w v. stay declares _ _ none))

  pub for_each_follows : (declares : Deed → List (List ℕ)) (name : Ident) (a a' : Value) (b b' : Statement) → ((deed : Deed) → declares deed ≡ []) → Values a a'
      → ((type : CsType) → Follows Both (st.alone b (with_local s name.name type)) (st.alone b' (with_local s' name.name type))) → Behind declares (st.for_each name a b s) (st.for_each name a' b' s')
  unfolding st.for_each
  for_each_follows declares name a a' b b' none h g =
      then_follows Both (SameDone s.names others declares) (is_new s name) (is_new s' name) _ _ (new_follows s.names others s name fewer)
      (λ u v w. then_value (SameDone s.names others declares) (a s) (a' s') _ _ h
      (λ x code. then_same (SameDone s.names others declares) (items_of x.place x.expr_type) _ _
      (λ item. then_follows Both (SameDone s.names others declares) (st.alone b (with_local s name.name item)) (st.alone b' (with_local s' name.name item)) _ _ (g item) (λ z y k. stay declares _ _ none))))

  -- sections that follow, one by one
  pub data SectionsFollow : List (ExprType → Scope → Judged Code) → List (ExprType → Scope → Judged Code) → Type 0 where
    no_section : SectionsFollow [] []
    a_section : (a b : ExprType → Scope → Judged Code) (us vs : List (ExprType → Scope → Judged Code)) → ((decided : ExprType) → Follows Both (a decided s) (b decided s')) → SectionsFollow us vs → SectionsFollow (a ∷ us) (b ∷ vs)

  sections_follow : (decided : ExprType) (us vs : List (ExprType → Scope → Judged Code)) → SectionsFollow us vs → Follows Both (each (λ one. one decided s) us) (each (λ one. one decided s') vs)
  sections_follow decided us vs no_section = (_, refl, tt)
  sections_follow decided us vs (a_section a b us1 vs1 h hs) =
      then_follows Both Both (a decided s) (b decided s') _ _ (h decided) (λ x y u. then_follows Both Both (each (λ one. one decided s) us1) (each (λ one. one decided s') vs1) _ _ (sections_follow decided us1 vs1 hs) (λ xs ys k. (_, refl, tt)))

  pub switch_follows : (declares : Deed → List (List ℕ)) (a a' : Value) (us vs : List (ExprType → Scope → Judged Code)) → ((deed : Deed) → declares deed ≡ []) → Values a a' → SectionsFollow us vs → Behind declares (st.switch_of a us s) (st.switch_of a' vs s')
  unfolding st.switch_of
  switch_follows declares a a' us vs none h hs =
      then_value (SameDone s.names others declares) (a s) (a' s') _ _ h
      (λ x code. then_same (SameDone s.names others declares) (if decides x.expr_type then fine x.expr_type else mismatch x.place) _ _
      (λ decided. then_follows Both (SameDone s.names others declares) (each (λ one. one decided s) us) (each (λ one. one decided s') vs) _ _ (sections_follow decided us vs hs) (λ xs ys k. stay declares _ _ none)))

  pub section_follows : (labels : List Label) (us vs : List Statement) (decided : ExprType) → Follows Both (st.in_order us s) (st.in_order vs s') → Follows Both (st.section labels us decided s) (st.section labels vs decided s')
  unfolding st.section
  section_follows labels us vs decided h = then_same Both (constants decided labels) _ _ (λ values. then_follows Both Both (st.in_order us s) (st.in_order vs s') _ _ h (λ xs ys k. (_, refl, tt)))

  pub return_follows : (declares : Deed → List (List ℕ)) (a b : Option Value) (place : Place) → ((deed : Deed) → declares deed ≡ []) → OptionFollows a b → Behind declares (st.return_of a place s) (st.return_of b place s')
  unfolding st.return_of
  return_follows declares a b place none no_value = either_follows (SameDone s.names others declares) (fits (Of t.Nothing) s.result) _ _ _ _ (stay declares _ _ none) tt
  return_follows declares a b place none (a_value a1 b1 h) =
      then_value (SameDone s.names others declares) (a1 s) (b1 s') _ _ h (λ x code. then_follows Both (SameDone s.names others declares) (fitting s.result x) (fitting s.result (like x code)) _ _ (fitting_follows s.result x code) (λ y z k. stay declares _ _ none))

  pub perform_follows : (declares : Deed → List (List ℕ)) (a b : Value) → ((deed : Deed) → declares deed ≡ []) → Values a b → Behind declares (st.perform a s) (st.perform b s')
  unfolding st.perform
  perform_follows declares a b none h = then_value (SameDone s.names others declares) (a s) (b s') _ _ h (λ x code. stay declares _ _ none)

  -- the step of a `for`
  step_follows : (a b : Value) → Values a b → Follows Both (stepped a s) (stepped b s')
  step_follows a b h = then_value Both (a s) (b s') _ _ h (λ x code. (_, refl, tt))

  pub tests_follow : (a b : Option Value) → OptionFollows a b → Follows Both (if_there (λ z. condition z s) a) (if_there (λ z. condition z s') b)
  tests_follow a b no_value = (_, refl, tt)
  tests_follow a b (a_value a1 b1 h) = then_follows Both Both (condition a1 s) (condition b1 s') _ _ (condition_follows a1 b1 h) (λ x y k. (_, refl, tt))

  pub steps_follow : (a b : Option Value) → OptionFollows a b → Follows Both (if_there (λ z. stepped z s) a) (if_there (λ z. stepped z s') b)
  steps_follow a b no_value = (_, refl, tt)
  steps_follow a b (a_value a1 b1 h) = then_follows Both Both (stepped a1 s) (stepped b1 s') _ _ (step_follows a1 b1 h) (λ x y k. (_, refl, tt))
