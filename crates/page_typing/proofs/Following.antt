-- How judgements in two scopes are put together.
use Rattle.std.proofs.Common.{◌≡◌, ℕ, List, [], ◌∷◌, ◌++◌, refl, sym, ap, subst, ◌∙◌}
use Rattle.std.proofs.lemmas.List.{reverse-append}
use Rattle.std.proofs.lemmas.List.Folds.{list_any-append}
use Rattle.std.specs.Prelude.{Bool, true, false, ◌||◌, if◌then◌else◌, Option, Some, None, bytes_eq}
use Rattle.cs_ast.specs.declared.code.Code.{Code}
use Rattle.cs_ast.specs.declared.cs_type.CsType.{CsType}
use Rattle.cs_ast.specs.declared.identifier.Ident.{Ident}
use Rattle.cs_ast.specs.declared.scope.Named.{Named}
use Rattle.cs_ast.specs.declared.scope.Scope.{Scope}
use Rattle.cs_rules.specs.declared.checked.Checked.{Checked}
use Rattle.cs_rules.specs.declared.rule.Rule.TheVariants.{DuplicateName, UnknownName}
use Rattle.cs_rules.specs.Judged.{Judged, fine, breaks, known, ◌>>=◌}
use Rattle.cs_rules.specs.Names.{first_named, meant, meant_by, is_new, local}
use Rattle.page_typing.specs.Narrowing.{at_names, SameNamed, Means, is_taken, Fewer, Follows, SameValue, Both}

-- one after the other
pub then_follows : {A B C D : Type 0} (P : A → B → Type 0) (Q : C → D → Type 0) (j : Judged A) (k : Judged B) (n : A → Judged C) (m : B → Judged D) → Follows P j k → ((x : A) (y : B) → P x y → Follows Q (n x) (m y)) → Follows Q (j >>= n) (k >>= m)
then_follows P Q (fine x) k n m h g = subst (λ z. Follows Q (n x) (z >>= m)) (sym h.1) (g x h.0 h.2)
then_follows P Q (breaks rule place) k n m h g = tt

pub then_value : {C D : Type 0} (Q : C → D → Type 0) (j k : Judged Checked) (n : Checked → Judged C) (m : Checked → Judged D) → Follows SameValue j k → ((x : Checked) (code : Code) → Follows Q (n x) (m (record { place = x.place; code = code; expr_type = x.expr_type }))) → Follows Q (j >>= n) (k >>= m)
then_value Q j k n m h g = then_follows SameValue Q j k n m h (λ x y s. subst (λ z. Follows Q (n x) (m z)) (sym s.1) (g x s.0))

-- the same judgement
pub then_same : {A C D : Type 0} (Q : C → D → Type 0) (j : Judged A) (n : A → Judged C) (m : A → Judged D) → ((x : A) → Follows Q (n x) (m x)) → Follows Q (j >>= n) (j >>= m)
then_same Q (fine x) n m g = g x
then_same Q (breaks rule place) n m g = tt

-- one of two
pub either_follows : {A B : Type 0} (Q : A → B → Type 0) (b : Bool) (one other : Judged A) (one' other' : Judged B) → Follows Q one one' → Follows Q other other' → Follows Q (if b then one else other) (if b then one' else other')
either_follows Q true one other one' other' h g = h
either_follows Q false one other one' other' h g = g

-- the same judgements elsewhere
pub same_follows : {A B : Type 0} (Q : A → B → Type 0) (a b : Judged A) (c d : Judged B) → a ≡ b → c ≡ d → Follows Q b d → Follows Q a c
same_follows Q a b c d e f h = subst (λ z. Follows Q z c) (sym e) (subst (λ z. Follows Q b z) (sym f) h)

-- what a name means
pub meant_follows : (names others : List Named) (s : Scope) (name : Ident) → Means names others name.name → Follows SameNamed (meant_by (at_names names s) name) (meant_by (at_names others s) name)
unfolding meant_by
meant_follows names others s name h = by (meant names name.name) refl
  where
    by : (o : Option Named) → meant names name.name ≡ o → Follows SameNamed (known UnknownName name.place o) (known UnknownName name.place (meant others name.name))
    by None e = tt
    by (Some one) e = let k = h one e in (k.0, ap (known UnknownName name.place) k.1, k.2)

-- a new local
pub new_follows : (names others : List Named) (s : Scope) (name : Ident) → Fewer names others → Follows Both (is_new (at_names names s) name) (is_new (at_names others s) name)
unfolding is_new
new_follows names others s name h = by (is_taken names name.name) refl
  where
    by : (b : Bool) → is_taken names name.name ≡ b → Follows Both (if b then breaks DuplicateName name.place else fine (tt {0})) (if is_taken others name.name then breaks DuplicateName name.place else fine (tt {0}))
    by true e = tt
    by false e = (tt, ap (λ (z : Bool). if z then breaks DuplicateName name.place else fine (tt {0})) (h name.name e), tt)

-- behind a new local of one name and type
module _ (names others : List Named) (name : List ℕ) (type : CsType) where
  abbrev more : List Named → List Named
  more before = before ++ local before name type ∷ []

  first_after : (before : List Named) (n : List ℕ) → meant (more before) n ≡ (if bytes_eq name n then Some (local before name type) else meant before n)
  unfolding meant
  first_after before n = ap (first_named n) (reverse-append before (local before name type ∷ []))

  pub means_behind : (n : List ℕ) → Means names others n → Means (more names) (more others) n
  means_behind n h one e = by (bytes_eq name n) (sym (first_after names n) ∙ e) (first_after others n)
    where
      by : (b : Bool) → (if b then Some (local names name type) else meant names n) ≡ Some one → meant (more others) n ≡ (if b then Some (local others name type) else meant others n) → (other : Named) × (meant (more others) n ≡ Some other) × SameNamed one other
      by true e1 e2 = let same : local names name type ≡ one = cc in (local others name type, e2, (name, (local others name type).place, subst (λ (z : Named). local others name type ≡ record { name = name; cs_type = z.cs_type; kind = z.kind; place = (local others name type).place }) same refl))
      by false e1 e2 = let k = h one e1 in (k.0, e2 ∙ k.1, k.2)

  pub means_new : (n : List ℕ) → bytes_eq name n ≡ true → Means (more names) (more others) n
  means_new n is one e =
      let found : Some (local names name type) ≡ Some one = sym (first_after names n ∙ ap (λ (z : Bool). if z then Some (local names name type) else meant names n) is) ∙ e in
      let same : local names name type ≡ one = cc in
      (local others name type, first_after others n ∙ ap (λ (z : Bool). if z then Some (local others name type) else meant others n) is, (name, (local others name type).place, subst (λ (z : Named). local others name type ≡ record { name = name; cs_type = z.cs_type; kind = z.kind; place = (local others name type).place }) same refl))

  pub fewer_behind : Fewer names others → Fewer (more names) (more others)
  fewer_behind h n e = by (is_taken names n) refl (sym (list_any-append _ names (local names name type ∷ [])) ∙ e) (list_any-append _ others (local others name type ∷ []))
    where
      by : (b : Bool) → is_taken names n ≡ b → (b || is_taken (local names name type ∷ []) n) ≡ false → is_taken (more others) n ≡ (is_taken others n || is_taken (local others name type ∷ []) n) → is_taken (more others) n ≡ false
      by true e1 e2 e3 = absurd (cc)
      by false e1 e2 e3 = e3 ∙ ap (λ z. z || is_taken (local others name type ∷ []) n) (h n e1) ∙ e2
