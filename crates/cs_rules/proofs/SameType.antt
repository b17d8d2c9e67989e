-- Types are the same exactly where they are equal.
use Rattle.std.proofs.Common.{◌≡◌, List, sym, ap, subst, refl, ◌∙◌, ℕ, arith}
use Rattle.std.proofs.lemmas.Slice.Eq.{bytes_eq-Decides}
use Rattle.std.specs.Prelude.{Option, Some, None, Bool, true, false, bytes_eq, IsTrue, ◌↔◌}
use Rattle.cs_ast.specs.declared.cs_type.CsType.{CsType, out-CsType}
use Rattle.cs_ast.specs.declared.cs_type.CsType.TheOpen.{CsType-F}
use Rattle.cs_ast.specs.declared.cs_type.CsType.TheViews.{roll-CsType, out-roll-CsType, roll-out-CsType}
use Rattle.cs_ast.specs.declared.cs_type.CsType.TheFolds.{map-CsType, ind-CsType, fold-roll-CsType}
use Rattle.cs_rules.specs.Types.{same_level, same_type}

abbrev Decided : CsType → Type 0
Decided a = ((b : CsType) → same_type a b ≡ true → a ≡ b) × (same_type a a ≡ true)

abbrev Such : Type 0
Such = (a : CsType) × Decided a

abbrev trees : CsType-F Such → CsType-F CsType
trees = map-CsType Such CsType (λ e. e.0)

at_root : (x : CsType-F CsType) (b : CsType) → same_type (roll-CsType x) b ≡ same_level (map-CsType CsType (CsType → Bool) same_type x) (out-CsType b)
unfolding same_type
at_root x b = ap (λ f. f b) (fold-roll-CsType (CsType → Bool) (λ level other. same_level level (out-CsType other)) x)

text_of : (x y : List ℕ) → bytes_eq x y ≡ true → x ≡ y
text_of x y h = grind (arith, bytes_eq-Decides x y)

text_self : (x : List ℕ) → bytes_eq x x ≡ true
text_self x = grind (arith, bytes_eq-Decides x x)

level : (y : CsType-F Such) (z : CsType-F CsType) → same_level (map-CsType CsType (CsType → Bool) same_type (trees y)) z ≡ true → trees y ≡ z
level CsType-F.Int CsType-F.Int h = refl
level CsType-F.Bool CsType-F.Bool h = refl
level CsType-F.Text CsType-F.Text h = refl
level (CsType-F.Rec name) (CsType-F.Rec other) h = ap CsType-F.Rec (text_of name other h)
level (CsType-F.List e) (CsType-F.List other) h = ap CsType-F.List (e.1.0 other h)
level (CsType-F.Callback None) (CsType-F.Callback None) h = refl
level (CsType-F.Callback (Some e)) (CsType-F.Callback (Some other)) h = ap (λ (a : CsType). CsType-F.Callback (Some a)) (e.1.0 other h)
level (CsType-F.Fragment None) (CsType-F.Fragment None) h = refl
level (CsType-F.Fragment (Some e)) (CsType-F.Fragment (Some other)) h = ap (λ (a : CsType). CsType-F.Fragment (Some a)) (e.1.0 other h)
level CsType-F.Change CsType-F.Change h = refl
level CsType-F.Args CsType-F.Args h = refl
level CsType-F.Nothing CsType-F.Nothing h = refl
level _ _ h = absurd (cc)

self : (y : CsType-F Such) → same_level (map-CsType CsType (CsType → Bool) same_type (trees y)) (trees y) ≡ true
self CsType-F.Int = refl
self CsType-F.Bool = refl
self CsType-F.Text = refl
self (CsType-F.Rec name) = text_self name
self (CsType-F.List e) = e.1.1
self (CsType-F.Callback None) = refl
self (CsType-F.Callback (Some e)) = e.1.1
self (CsType-F.Fragment None) = refl
self (CsType-F.Fragment (Some e)) = e.1.1
self CsType-F.Change = refl
self CsType-F.Args = refl
self CsType-F.Nothing = refl

decided : (a : CsType) → Decided a
decided = ind-CsType Decided (λ x y is. subst (λ z. Decided (roll-CsType z)) is (by y))
  where
    by : (y : CsType-F Such) → Decided (roll-CsType (trees y))
    by y = (
      (λ b h. ap roll-CsType (level y (out-CsType b) (sym (at_root (trees y) b) ∙ h)) ∙ roll-out-CsType b),
      at_root (trees y) (roll-CsType (trees y)) ∙ ap (same_level (map-CsType CsType (CsType → Bool) same_type (trees y))) (out-roll-CsType (trees y)) ∙ self y,
    )

pub same_equal : (a b : CsType) → same_type a b ≡ true → a ≡ b
same_equal a b h = (decided a).0 b h

pub same_self : (a : CsType) → same_type a a ≡ true
same_self a = (decided a).1

agree : (P : Type 0) (r q : Bool) → IsTrue r ↔ P → (q ≡ true → P) → (P → q ≡ true) → r ≡ q
agree P true true is to from = refl
agree P false false is to from = refl
agree P true false is to from = sym (from (is.0 refl))
agree P false true is to from = is.1 (to refl)

-- a test that is true exactly for equal types
pub same_decided : (a b : CsType) (r : Bool) → IsTrue r ↔ (a ≡ b) → r ≡ same_type a b
same_decided a b r is = agree (a ≡ b) r (same_type a b) is (same_equal a b) (λ e. subst (λ z. same_type a z ≡ true) e (same_self a))
