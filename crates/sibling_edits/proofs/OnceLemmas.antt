-- The list M has each place of the new list once.
use Rattle.std.proofs.Common.{◌≡◌, ℕ, zero, suc, ◌+◌, ◌<◌, ◌≤◌, ◌⊎◌, Bool, true, false, ◌||◌, List, [], ◌∷◌, length, slice_get, Option, Some, None, refl, sym, ap, ◌∙◌, subst, inl, inr, arith, add-zero, eqb}
use Rattle.std.specs.List.{list_any, AllByRecursion, IsDistinct}
use Rattle.std.specs.Cmp.{nat_eq_equiv}
use Rattle.std.proofs.lemmas.Bool.{eq-eqb}
use Rattle.std.proofs.lemmas.Bool.Decides.{eqb_tells}
use Rattle.std.proofs.lemmas.Option.{slice_get_within}
use Rattle.std.proofs.lemmas.Map.Steps.{length-le_from_distinct_below}
use Rattle.std.proofs.lemmas.Map.Made.{length-le_from_is_member}
use Rattle.pairing_meaning.specs.Order.{partners, merged, numbered, list_M}
use Rattle.sibling_edits.specs.Matched.{Matched}
use Rattle.sibling_edits.proofs.HeldLemmas.{Absent, Distinct, IsFull, absent-get, shift}

absent-from : (q : ℕ) (m : List ℕ) → ((j : ℕ) → slice_get m j ≡ Some q → ⊥) → Absent q m
absent-from q [] h = tt
absent-from q (x ∷ m) h =
    (elim (eqb_tells q x) [ inl a ↦ absurd (h 0 (ap Some (sym a.1))) | inr a ↦ a.0 ], absent-from q m (λ j. h (suc j)))

found : (q : ℕ) (m : List ℕ) → Absent q m ⊎ ((j : ℕ) × (slice_get m j ≡ Some q))
found q [] = inl tt
found q (x ∷ m) = elim (eqb_tells q x) [
  | inl a ↦ inr (0, ap Some (sym a.1))
  | inr a ↦ elim (found q m) [ inl h ↦ inl (a.0, h) | inr h ↦ inr (suc h.0, h.1) ]
]

any-get : (q : ℕ) (m : List ℕ) → list_any (eqb q) m ≡ true → (j : ℕ) × (slice_get m j ≡ Some q)
any-get q [] e = absurd (cc)
any-get q (x ∷ m) e = elim (eqb_tells q x) [
  | inl a ↦ (0, ap Some (sym a.1))
  | inr a ↦ (let rest = any-get q m (rw a.0 at e) in (suc rest.0, rest.1))
]

get-any : (q : ℕ) (m : List ℕ) (j : ℕ) → slice_get m j ≡ Some q → list_any (eqb q) m ≡ true
get-any q [] j e = absurd (cc)
get-any q (x ∷ m) zero e = (let same : q ≡ x = cc in rw (eq-eqb q x same) refl)
get-any q (x ∷ m) (suc j) e = elim (eqb_tells q x) [ inl a ↦ rw a.0 refl | inr a ↦ rw a.0 (get-any q m j e) ]

distinct-std : (m : List ℕ) → Distinct m → IsDistinct eqb m
unfolding IsDistinct
distinct-std [] d = tt
distinct-std (x ∷ m) d = (d.0, distinct-std m d.1)

partners-get : (ts : List (Option ℕ)) (r q : ℕ) → slice_get (partners ts) r ≡ Some q → (i : ℕ) × (slice_get ts i ≡ Some (Some q))
partners-get [] r q e = absurd (cc)
partners-get (None ∷ ts) r q e = let rest = partners-get ts r q e in (suc rest.0, rest.1)
partners-get (Some j ∷ ts) zero q e = (0, ap Some e)
partners-get (Some j ∷ ts) (suc r) q e = let rest = partners-get ts r q e in (suc rest.0, rest.1)

distinct-partners : (ts : List (Option ℕ)) → ((i j q : ℕ) → slice_get ts i ≡ Some (Some q) → slice_get ts j ≡ Some (Some q) → i ≡ j) → Distinct (partners ts)
distinct-partners [] h = tt
distinct-partners (None ∷ ts) h = distinct-partners ts (λ i j q a b. omega (arith, h (suc i) (suc j) q a b))
distinct-partners (Some q ∷ ts) h = (
  absent-from q (partners ts) (λ r e. let there = partners-get ts r q e in let same : 0 ≡ suc there.0 = h 0 (suc there.0) q refl there.1 in omega arith),
  distinct-partners ts (λ i j p a b. omega (arith, h (suc i) (suc j) p a b)),
)

-- the places from k on that have a pair
having : ℕ → List (Option ℕ) → List ℕ
having k [] = []
having k (None ∷ ts) = having (k + 1) ts
having k (Some j ∷ ts) = k ∷ having (k + 1) ts

length-having : (k : ℕ) (ts : List (Option ℕ)) → length (having k ts) ≡ length (partners ts)
unfolding having
length-having k [] = refl
length-having k (None ∷ ts) = length-having (k + 1) ts
length-having k (Some j ∷ ts) = ap suc (length-having (k + 1) ts)

having-get : (k : ℕ) (ts : List (Option ℕ)) (i j : ℕ) → slice_get ts i ≡ Some (Some j) → (r : ℕ) × (slice_get (having k ts) r ≡ Some (k + i))
unfolding having
having-get k [] i j e = absurd (cc)
having-get k (None ∷ ts) zero j e = absurd (cc)
having-get k (None ∷ ts) (suc i) j e = let rest = having-get (k + 1) ts i j e in (rest.0, rest.1 ∙ ap Some (sym (shift k i)))
having-get k (Some x ∷ ts) zero j e = (0, ap Some (sym (add-zero k)))
having-get k (Some x ∷ ts) (suc i) j e = let rest = having-get (k + 1) ts i j e in (suc rest.0, rest.1 ∙ ap Some (sym (shift k i)))

few : (from to : List (Option ℕ)) → ((j i : ℕ) → slice_get from j ≡ Some (Some i) → slice_get to i ≡ Some (Some j))
    → ((i j : ℕ) → slice_get to i ≡ Some (Some j) → slice_get from j ≡ Some (Some i)) → length (partners to) ≤ length (partners from)
few from to there back =
    let apart = distinct-partners to (λ i j q a b. let one = back i q a in let two = back j q b in cc) in
    let all : (q : ℕ) → list_any (eqb q) (partners to) ≡ true → list_any (eqb q) (having 0 from) ≡ true = λ q e.
    let r = any-get q (partners to) e in
    let i = partners-get to r.0 q r.1 in
    let h = having-get 0 from q i.0 (back i.0 q i.1) in
    let zero_more : 0 + q ≡ q = omega arith in
    get-any q (having 0 from) h.0 (h.1 ∙ ap Some zero_more) in
    let le : length (partners to) ≤ length (having 0 from) = length-le_from_is_member nat_eq_equiv (partners to) (having 0 from) (distinct-std (partners to) apart) all in
    subst (λ n. length (partners to) ≤ n) (length-having 0 from) le

pub as-many : (from to : List (Option ℕ)) → Matched from to → length (partners to) ≡ length (partners from)
as-many from to m = let a = few from to m.there m.back in let b = few to from m.back m.there in omega arith

M-get : (k : ℕ) (from : List (Option ℕ)) (ts : List ℕ) (j q : ℕ) → slice_get (merged from (numbered k from) ts) j ≡ Some q
    → ((i : ℕ) × (q ≡ k + i) × (slice_get from i ≡ Some None)) ⊎ ((r : ℕ) × (slice_get ts r ≡ Some q))
M-get k [] ts j q e = absurd (cc)
M-get k (None ∷ from) ts zero q e = inl (0, (let same : q ≡ k = cc in same ∙ sym (add-zero k)), refl)
M-get k (None ∷ from) ts (suc j) q e = elim (M-get (k + 1) from ts j q e) [
  | inl w ↦ inl (suc w.0, w.1 ∙ sym (shift k w.0), w.2)
  | inr w ↦ inr w
]
M-get k (Some i ∷ from) [] j q e = absurd (cc)
M-get k (Some i ∷ from) (t ∷ ts) zero q e = inr (0, e)
M-get k (Some i ∷ from) (t ∷ ts) (suc j) q e = elim (M-get (k + 1) from ts j q e) [
  | inl w ↦ inl (suc w.0, w.1 ∙ sym (shift k w.0), w.2)
  | inr w ↦ inr (suc w.0, w.1)
]

distinct-M : (k : ℕ) (from : List (Option ℕ)) (ts : List ℕ) → Distinct ts
    → ((i r : ℕ) → slice_get from i ≡ Some None → slice_get ts r ≡ Some (k + i) → ⊥) → Distinct (merged from (numbered k from) ts)
distinct-M k [] ts d h = tt
distinct-M k (None ∷ from) ts d h = (
  absent-from k (merged from (numbered (k + 1) from) ts) (λ j e. elim (M-get (k + 1) from ts j k e) [
    | inl w ↦ (let off : k ≡ k + 1 + w.0 = w.1 in omega arith)
    | inr w ↦ h 0 w.0 refl (w.1 ∙ ap Some (sym (add-zero k)))
  ]),
  distinct-M (k + 1) from ts d (λ i r a b. h (suc i) r a (b ∙ ap Some (sym (shift k i)))),
)
distinct-M k (Some x ∷ from) [] d h = tt
distinct-M k (Some x ∷ from) (t ∷ ts) d h = (
  absent-from t (merged from (numbered (k + 1) from) ts) (λ j e. elim (M-get (k + 1) from ts j t e) [
    | inl w ↦ h (suc w.0) 0 w.2 (ap Some (w.1 ∙ sym (shift k w.0)))
    | inr w ↦ absent-get t ts w.0 d.0 w.1
  ]),
  distinct-M (k + 1) from ts d.1 (λ i r a b. h (suc i) (suc r) a (b ∙ ap Some (sym (shift k i)))),
)

length-M : (k : ℕ) (from : List (Option ℕ)) (ts : List ℕ) → length ts ≡ length (partners from) → length (merged from (numbered k from) ts) ≡ length from
length-M k [] ts e = refl
length-M k (None ∷ from) ts e = ap suc (length-M (k + 1) from ts e)
length-M k (Some x ∷ from) [] e = absurd (omega arith)
length-M k (Some x ∷ from) (t ∷ ts) e = ap suc (length-M (k + 1) from ts (omega arith))

pub M-full : (from to : List (Option ℕ)) → Matched from to → IsFull (length from) (list_M from to)
M-full from to m =
    let long = length-M 0 from (partners to) (as-many from to m) in
    let apart = distinct-partners to (λ i j q a b. let one = m.back i q a in let two = m.back j q b in cc) in
    let once = distinct-M 0 from (partners to) apart (λ i r a b.
    let there = partners-get to r (0 + i) b in
    let one = m.back there.0 (0 + i) there.1 in
    let zero_more : 0 + i ≡ i = omega arith in
    let two : slice_get from i ≡ Some (Some there.0) = subst (λ p. slice_get from p ≡ Some (Some there.0)) zero_more one in cc) in
    let below : (j q : ℕ) → slice_get (list_M from to) j ≡ Some q → q < length from = λ j q e. elim (M-get 0 from (partners to) j q e) [
      | inl w ↦ (let zero_more : q ≡ w.0 = w.1 ∙ omega arith in subst (λ p. p < length from) (sym zero_more) (slice_get_within from w.0 None w.2))
      | inr w ↦ (let there = partners-get to w.0 q w.1 in slice_get_within from q (Some there.0) (m.back there.0 q there.1))
    ] in
    record {
      short = long;
      below = below;
      once = once;
      hits = λ q h. elim (found q (list_M from to)) [
        | inr w ↦ w
        | inl w ↦ (
            let more : length (q ∷ list_M from to) ≤ length from = length-le_from_distinct_below (q ∷ list_M from to) (length from) (distinct-std (q ∷ list_M from to) (w, once))
            (λ p e. let at = any-get p (q ∷ list_M from to) e in within q (list_M from to) (length from) h below at.0 p at.1) in
            absurd (omega arith))
      ];
    }
  where
    within : (q : ℕ) (xs : List ℕ) (n : ℕ) → q < n → ((j p : ℕ) → slice_get xs j ≡ Some p → p < n) → (j p : ℕ) → slice_get (q ∷ xs) j ≡ Some p → p < n
    within q xs n h below zero p e = (let same : q ≡ p = cc in subst (λ z. z < n) same h)
    within q xs n h below (suc j) p e = below j p e

pub M-short : (from to : List (Option ℕ)) → Matched from to → length (list_M from to) ≡ length from
M-short from to m = length-M 0 from (partners to) (as-many from to m)
