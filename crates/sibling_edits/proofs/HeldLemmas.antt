-- Lists of places, each with the node that stands there in the end, and the source of each place in their permutation.
use Rattle.std.proofs.Common.{◌≡◌, ℕ, zero, suc, ◌+◌, ◌<◌, ◌≤◌, ◌==◌, ◌⊎◌, Bool, true, false, List, [], ◌∷◌, ◌++◌, length, get_or, drop, slice_get, Option, Some, None, refl, sym, ap, ◌∙◌, subst, inl, inr, arith, add-one, add-zero, drop-cons, eqb}
use Rattle.std.specs.Option.{unwrap_or}
use Rattle.std.specs.List.{AllByRecursion}
use Rattle.std.proofs.lemmas.List.{drop_all}
use Rattle.std.proofs.lemmas.Bool.{eq-eqb}
use Rattle.std.proofs.lemmas.Bool.Decides.{eqb_tells}
use Rattle.std.proofs.lemmas.Option.{slice_get-get_or}
use Rattle.edit_meaning.specs.Permutations.{source, placed}
use Rattle.pairing_meaning.specs.Order.{partners, merged, numbered}
use Rattle.sibling_edits.specs.Plan.{entry_of, entries_from}
use Rattle.sibling_edits.proofs.TurnLemmas.{kept}

-- each item stands in the end at its place
abbrev pub Held : {X : Type 0} → List X → List ℕ → List X → Type 0
Held ys [] [] = Unit {0}
Held ys [] (x ∷ xs) = ⊥
Held ys (t ∷ ts) [] = ⊥
Held ys (t ∷ ts) (x ∷ xs) = (slice_get ys t ≡ Some x) × Held ys ts xs

pub held-kept : {X : Type 0} (ys : List X) (to : List (Option ℕ)) (xs : List X) → length xs ≡ length to
    → ((i j : ℕ) (x : X) → slice_get to i ≡ Some (Some j) → slice_get xs i ≡ Some x → slice_get ys j ≡ Some x) → Held ys (partners to) (kept to xs)
held-kept ys [] xs n h = tt
held-kept ys (t ∷ to) [] n h = absurd (omega arith)
held-kept ys (None ∷ to) (x ∷ xs) n h = held-kept ys to xs (omega arith) (λ i j y. h (suc i) j y)
held-kept ys (Some j ∷ to) (x ∷ xs) n h = (h 0 j x refl refl, held-kept ys to xs (omega arith) (λ i j y. h (suc i) j y))

pub shift : (k j : ℕ) → k + suc j ≡ k + 1 + j
shift k j = omega arith

pub held-merged : {X : Type 0} (ys : List X) (k : ℕ) (from : List (Option ℕ)) (news : List X) (ts : List ℕ) (olds : List X) → length news ≡ length from → length ts ≡ length (partners from)
    → ((j : ℕ) (x : X) → slice_get from j ≡ Some None → slice_get news j ≡ Some x → slice_get ys (k + j) ≡ Some x)
    → Held ys ts olds → Held ys (merged from (numbered k from) ts) (merged from news olds)
held-merged ys k [] news ts olds n m h held = tt
held-merged ys k (f ∷ from) [] ts olds n m h held = absurd (omega arith)
held-merged ys k (None ∷ from) (x ∷ news) ts olds n m h held =
    (subst (λ p. slice_get ys p ≡ Some x) (add-zero k) (h 0 x refl refl), held-merged ys (k + 1) from news ts olds (omega arith) m (λ j y a b. subst (λ p. slice_get ys p ≡ Some y) (shift k j) (h (suc j) y a b)) held)
held-merged ys k (Some i ∷ from) (x ∷ news) [] olds n m h held = absurd (omega arith)
held-merged ys k (Some i ∷ from) (x ∷ news) (t ∷ ts) [] n m h held = absurd held
held-merged ys k (Some i ∷ from) (x ∷ news) (t ∷ ts) (y ∷ olds) n m h held =
    (held.0, held-merged ys (k + 1) from news ts olds (omega arith) (omega arith) (λ j z a b. subst (λ p. slice_get ys p ≡ Some z) (shift k j) (h (suc j) z a b)) held.1)

held-get : {X : Type 0} (ys : List X) (m : List ℕ) (xs : List X) (j t : ℕ) → Held ys m xs → slice_get m j ≡ Some t → slice_get xs j ≡ slice_get ys t
held-get ys [] xs j t h e = absurd (cc)
held-get ys (a ∷ m) [] j t h e = absurd h
held-get ys (a ∷ m) (x ∷ xs) zero t h e = let same : a ≡ t = cc in subst (λ q. Some x ≡ slice_get ys q) same (sym h.0)
held-get ys (a ∷ m) (x ∷ xs) (suc j) t h e = held-get ys m xs j t h.1 e

-- no slot belongs there
abbrev pub Absent : ℕ → List ℕ → Type 0
Absent q = AllByRecursion (λ y. eqb q y ≡ false)

abbrev pub Distinct : List ℕ → Type 0
Distinct [] = Unit {0}
Distinct (x ∷ xs) = Absent x xs × Distinct xs

pub flip : (a b : ℕ) → eqb a b ≡ false → eqb b a ≡ false
flip a b e = elim (eqb_tells b a) [ inl h ↦ (let hit : eqb a b ≡ true = eq-eqb a b (sym h.1) in cc) | inr h ↦ h.0 ]

pub absent-get : (q : ℕ) (m : List ℕ) (j : ℕ) → Absent q m → slice_get m j ≡ Some q → ⊥
absent-get q [] j a e = cc
absent-get q (x ∷ m) zero a e = let same : x ≡ q = cc in let hit = eq-eqb q x (sym same) in cc (a.0, hit)
absent-get q (x ∷ m) (suc j) a e = absent-get q m j a.1 e

source-absent : (k : ℕ) (m : List ℕ) (q : ℕ) → Absent q m → source (entries_from k m) q ≡ q
source-absent k [] q a = refl
source-absent k (t ∷ m) q a = elim (eqb_tells t k) [
  | inl h ↦ rw h.0 (source-absent (k + 1) m q a.1)
  | inr h ↦ rw h.0 (let other : eqb t q ≡ false = flip q t a.0 in rw other (source-absent (k + 1) m q a.1))
]

source-found : (k : ℕ) (m : List ℕ) (q j : ℕ) → Distinct m → slice_get m j ≡ Some q → source (entries_from k m) q ≡ k + j
source-found k [] q j d e = absurd (cc)
source-found k (t ∷ m) q zero d e =
    let same : t ≡ q = cc in
    elim (eqb_tells t k) [
      | inl h ↦ rw h.0 (source-absent (k + 1) m q (subst (λ z. Absent z m) same d.0) ∙ omega arith)
      | inr h ↦ rw h.0 (rw (eq-eqb t q same) (omega arith))
    ]
source-found k (t ∷ m) q (suc j) d e =
    let rest : source (entries_from (k + 1) m) q ≡ k + suc j = source-found (k + 1) m q j d.1 e ∙ omega arith in
    elim (eqb_tells t k) [
      | inl h ↦ rw h.0 rest
      | inr h ↦ rw h.0 (elim (eqb_tells t q) [
        | inl g ↦ absurd (absent-get q m j (subst (λ z. Absent z m) g.1 d.0) e)
        | inr g ↦ rw g.0 rest
      ])
    ]

-- a list of places that has each one once
pub record IsFull (n : ℕ) (m : List ℕ) : Type 0 where
  pub short : length m ≡ n
  pub below : (j q : ℕ) → slice_get m j ≡ Some q → q < n
  pub once : Distinct m
  pub hits : (q : ℕ) → q < n → (j : ℕ) × (slice_get m j ≡ Some q)

pub placed-is : {X : Type 0} (ys xs : List X) (m : List ℕ) (k : ℕ) (zs : List X) → IsFull (length ys) m → Held ys m xs → k + length zs ≡ length ys
    → placed (entries_from 0 m) xs k zs ≡ drop k ys
placed-is ys xs m k [] full held e = sym (drop_all k ys (omega arith))
placed-is {X} ys xs m k (z ∷ zs) full held e =
    let hit = full.hits k (omega arith) in
    let from : source (entries_from 0 m) k ≡ hit.0 = source-found 0 m k hit.0 full.once hit.1 ∙ omega arith in
    let there : slice_get xs hit.0 ≡ Some (get_or ys k z) = held-get ys m xs hit.0 k held hit.1 ∙ slice_get-get_or ys k z (omega arith) in
    let read : unwrap_or (slice_get xs (source (entries_from 0 m) k)) z ≡ get_or ys k z = ap (λ p. unwrap_or (slice_get xs p) z) from ∙ ap (λ (o : Option X). unwrap_or o z) there in
    ap (λ y. y ∷ placed (entries_from 0 m) xs (k + 1) zs) read ∙ ap (λ r. get_or ys k z ∷ r) (placed-is ys xs m (k + 1) zs full held (omega arith) ∙ ap (λ p. drop p ys) (add-one k)) ∙ sym (drop-cons ys k z (omega arith))
