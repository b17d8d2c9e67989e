-- The places that are found are those of the pairs.
use Rattle.std.proofs.Common.{◌≡◌, ℕ, zero, suc, ◌+◌, ◌-◌, ◌<◌, ◌==◌, ◌⊎◌, Bool, true, false, List, [], ◌∷◌, ◌++◌, length, take, slice_get, Option, Some, None, refl, sym, ap, ◌∙◌, subst, inl, inr, arith, append_assoc, append-nil, eqb}
use Rattle.std.proofs.lemmas.Bool.Decides.{eqb_tells}
use Rattle.std.proofs.lemmas.Bool.{eq-eqb}
use Rattle.std.proofs.lemmas.Option.{slice_get_within}
use Rattle.pairing_meaning.specs.Labels.{like}
use Rattle.pairing_meaning.specs.Pairs.{Pair, Tells}
use Rattle.item_pairing.specs.Found.{kth, found_for}

told : (test : Bool) → (test ≡ true) ⊎ (test ≡ false)
told true = inl refl
told false = inr refl

not_beyond : {X : Type 0} (xs : List X) (i : ℕ) → slice_get xs i ≡ None → i < length xs → ⊥
not_beyond [] i none within = omega arith
not_beyond (x ∷ xs) zero none within = cc
not_beyond (x ∷ xs) (suc i) none within = not_beyond xs i none (omega arith)

module _ {X : Type 0} (same : X → X → Bool) (tells : (a b : X) → same a b ≡ true → a ≡ b) (self : (a : X) → same a a ≡ true) where
  -- it stands at a place, behind so many of the same
  pub record Stands (one : X) (before : ℕ) (xs : List X) (place : ℕ) : Type 0 where
    pub there : slice_get xs place ≡ Some one
    pub behind : like same one (take place xs) ≡ before

  kth-sound : (q : X) (n k : ℕ) (xs : List X) (i : ℕ) → kth same q n k xs ≡ Some i → (j : ℕ) × (i ≡ k + j) × Stands q n xs j
  kth-sound q n k [] i e = absurd (cc)
  kth-sound q n k (x ∷ xs) i e = elim (told (same x q)) [
    | inr s ↦ (
        let rest = kth-sound q n (k + 1) xs i (rw s at e) in
        (suc rest.0, rest.1 ∙ omega arith, record { there = rest.2.there; behind = rw s rest.2.behind }))
    | inl s ↦ elim (eqb_tells n 0) [
      | inl a ↦ (0, (let f = rw (s, a.0) at e in let g : k ≡ i = cc in omega arith), record { there = ap Some (tells x q s); behind = sym a.1 })
      | inr a ↦ (
          let rest = kth-sound q (n - 1) (k + 1) xs i (rw (s, a.0) at e) in
          (suc rest.0, rest.1 ∙ omega arith, record { there = rest.2.there; behind = rw s (let b = rest.2.behind in let other = a.1 in omega arith) }))
    ]
  ]

  kth-complete : (q : X) (n k : ℕ) (xs : List X) (j : ℕ) → Stands q n xs j → kth same q n k xs ≡ Some (k + j)
  kth-complete q n k [] j s = absurd (let e = s.there in cc)
  kth-complete q n k (x ∷ xs) zero s =
      let e = s.there in let is : q ≡ x = cc in
      let hit : same x q ≡ true = subst (λ z. same x z ≡ true) (sym is) (self x) in
      let none : n ≡ 0 = sym s.behind in
      rw (hit, eq-eqb n 0 none) (ap Some (let z : k ≡ k + 0 = omega arith in z))
  kth-complete q n k (x ∷ xs) (suc j) s = elim (told (same x q)) [
    | inr a ↦ (
        let b = rw a at s.behind in
        rw a (kth-complete q n (k + 1) xs j (record { there = s.there; behind = b }) ∙ ap Some (let z : k + 1 + j ≡ k + suc j = omega arith in z)))
    | inl a ↦ (
        let b = rw a at s.behind in
        let some : n ≡ 0 → ⊥ = λ z. omega arith in
        let not_none : eqb n 0 ≡ false = elim (eqb_tells n 0) [ inl c ↦ absurd (some c.1) | inr c ↦ c.0 ] in
        let less : like same q (take j xs) ≡ n - 1 = omega arith in
        rw (a, not_none) (kth-complete q (n - 1) (k + 1) xs j (record { there = s.there; behind = less }) ∙ ap Some (let z : k + 1 + j ≡ k + suc j = omega arith in z)))
  ]

  found-some : (olds before news : List X) (j i : ℕ) → slice_get (found_for same olds before news) j ≡ Some (Some i)
      → (y : X) × (slice_get news j ≡ Some y) × (kth same y (like same y (before ++ take j news)) 0 olds ≡ Some i)
  found-some olds before [] j i e = absurd (cc)
  found-some olds before (x ∷ news) zero i e = (x, refl, (let f : kth same x (like same x before) 0 olds ≡ Some i = cc in subst (λ z. kth same x (like same x z) 0 olds ≡ Some i) (sym (append-nil before)) f))
  found-some olds before (x ∷ news) (suc j) i e =
      let rest = found-some olds (before ++ x ∷ []) news j i e in
      (rest.0, rest.1, subst (λ z. kth same rest.0 (like same rest.0 z) 0 olds ≡ Some i) (append_assoc before (x ∷ []) (take j news)) rest.2)

  found-at : (olds before news : List X) (j : ℕ) (y : X) → slice_get news j ≡ Some y
      → slice_get (found_for same olds before news) j ≡ Some (kth same y (like same y (before ++ take j news)) 0 olds)
  found-at olds before [] j y e = absurd (cc)
  found-at olds before (x ∷ news) zero y e =
      let is : x ≡ y = cc in
      ap (λ z. Some (kth same z (like same z before) 0 olds)) is ∙ ap (λ z. Some (kth same y (like same y z) 0 olds)) (sym (append-nil before))
  found-at olds before (x ∷ news) (suc j) y e =
      found-at olds (before ++ x ∷ []) news j y e ∙ ap (λ z. Some (kth same y (like same y z) 0 olds)) (append_assoc before (x ∷ []) (take j news))

  length-found : (olds before news : List X) → length (found_for same olds before news) ≡ length news
  length-found olds before [] = refl
  length-found olds before (x ∷ news) = ap suc (length-found olds (before ++ x ∷ []) news)

  pub found-tells : (olds news : List X) → Tells same olds news (found_for same olds [] news)
  found-tells olds news = record { long = length-found olds [] news; paired = paired; alone = alone }
    where
      paired : (i j : ℕ) → slice_get (found_for same olds [] news) j ≡ Some (Some i) → Pair same olds news i j
      paired i j e =
          let w = found-some olds [] news j i e in
          let s = kth-sound w.0 (like same w.0 (take j news)) 0 olds i w.2 in
          let is : s.0 ≡ i = sym (s.1 ∙ omega arith) in
          record {
            one = w.0;
            old = subst (λ z. slice_get olds z ≡ Some w.0) is s.2.there;
            new = w.1;
            before = subst (λ z. like same w.0 (take z olds) ≡ like same w.0 (take j news)) is s.2.behind;
          }

      alone : (i j : ℕ) → slice_get (found_for same olds [] news) j ≡ Some None → Pair same olds news i j → ⊥
      alone i j e p =
          let at = found-at olds [] news j p.one p.new in
          let none : kth same p.one (like same p.one (take j news)) 0 olds ≡ None = cc in
          let some = kth-complete p.one (like same p.one (take j news)) 0 olds i (record { there = p.old; behind = p.before }) in
          cc

  -- the one of so many stands at one place
  once : (q : X) (xs : List X) (i j : ℕ) → slice_get xs i ≡ Some q → slice_get xs j ≡ Some q → like same q (take i xs) ≡ like same q (take j xs) → i ≡ j
  once q xs i j a b e =
      let one = kth-complete q (like same q (take j xs)) 0 xs i (record { there = a; behind = e }) in
      let two = kth-complete q (like same q (take j xs)) 0 xs j (record { there = b; behind = refl }) in
      let is : 0 + i ≡ 0 + j = cc in
      omega arith

  abbrev turned : {olds news : List X} {i j : ℕ} → Pair same olds news i j → Pair same news olds j i
  turned p = record { one = p.one; old = p.new; new = p.old; before = sym p.before }

  -- told from both sides, the pairs are the same
  pub tells-back : (olds news : List X) (from to : List (Option ℕ)) → Tells same olds news from → Tells same news olds to → (j i : ℕ) → slice_get from j ≡ Some (Some i) → slice_get to i ≡ Some (Some j)
  tells-back olds news from to there back j i e = by_answer (slice_get to i) refl
    where
      pair : Pair same olds news i j
      pair = there.paired i j e

      by_answer : (answer : Option (Option ℕ)) → slice_get to i ≡ answer → slice_get to i ≡ Some (Some j)
      by_answer None is = absurd (not_beyond to i is (let long = back.long in let within = slice_get_within olds i pair.one pair.old in omega arith))
      by_answer (Some None) is = absurd (back.alone j i is (turned pair))
      by_answer (Some (Some k)) is =
          let other = back.paired k i is in
          let one : pair.one ≡ other.one = (let a = pair.old in let b = other.new in cc) in
          let same_place : k ≡ j = once other.one news k j other.old (subst (λ z. slice_get news j ≡ Some z) one pair.new)
          (other.before ∙ subst (λ z. like same z (take i olds) ≡ like same z (take j news)) one pair.before) in
          is ∙ ap (λ z. Some (Some z)) same_place
