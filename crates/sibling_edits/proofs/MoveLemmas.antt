-- The entries of a permutation bring each slot to its place.
use Rattle.std.proofs.Common.{◌≡◌, ℕ, zero, suc, ◌+◌, ◌<◌, ◌≤◌, ◌==◌, ◌⊎◌, Bool, true, false, List, [], ◌∷◌, ◌++◌, length, map, slice_get, Option, Some, None, Result, Ok, Err, refl, sym, ap, ◌∙◌, subst, inl, inr, arith, append_assoc, append-nil, eqb}
use Rattle.std.specs.Option.{unwrap_or}
use Rattle.std.specs.List.{list_any, list_all, AllByRecursion}
use Rattle.std.proofs.lemmas.Bool.{lt-ltb, eq-eqb}
use Rattle.std.proofs.lemmas.Bool.Decides.{eqb_tells}
use Rattle.std.proofs.Math.Bool.{or-true}
use Rattle.std.proofs.lemmas.Option.{slice_get_within}
use Rattle.page_core.specs.declared.faults.ApplyFault.{ApplyFault}
use Rattle.frame_core.specs.declared.edit.Edit.TheVariants.{Move, MoveEnd}
use Rattle.edit_meaning.specs.declared.browser_node.BrowserNode.{BrowserNode}
use Rattle.edit_meaning.specs.declared.level.Level.{Level}
use Rattle.edit_meaning.specs.declared.entry.Entry.{Entry}
use Rattle.edit_meaning.specs.Permutations.{placed, moved, is_apart, is_closed}
use Rattle.edit_meaning.specs.Focus.{Tree, Focus}
use Rattle.edit_meaning.specs.Edits.{and_then, goes_on, edited, all_edited}
use Rattle.pairing_meaning.specs.Turning.{all_put_in, focused, Turns}
use Rattle.sibling_edits.specs.Plan.{entry_of, entries_from, move_of, ended}
use Rattle.sibling_edits.proofs.TurnLemmas.{edited-append, turns-none, turns-same, turns-still}
use Rattle.sibling_edits.proofs.HeldLemmas.{Held, Absent, Distinct, IsFull, placed-is}

-- in an open permutation
abbrev moving : List BrowserNode → List Level → List Entry → Tree → Focus
moving xs above entries tree = record { here = xs; above = above; entries = entries; tree = tree }

abbrev Past : ℕ → List ℕ → List Entry → Type 0
Past k m = AllByRecursion (λ entry. (entry.from < k) × Absent entry.to m)

is_apart-past : (k t : ℕ) (m : List ℕ) (done : List Entry) → Past k (t ∷ m) done → is_apart (entry_of k t) done ≡ true
is_apart-past k t m [] h = refl
is_apart-past k t m (d ∷ done) h =
    let low : d.from < k = h.0.0 in
    let other : eqb d.from k ≡ false = elim (eqb_tells d.from k) [ inl a ↦ absurd (let same : d.from ≡ k = a.1 in omega arith) | inr a ↦ a.0 ] in
    rw (other, h.0.1.0) (is_apart-past k t m done h.1)

past-on : (k t : ℕ) (m : List ℕ) (done : List Entry) → Past k (t ∷ m) done → Past (k + 1) m done
past-on k t m [] h = tt
past-on k t m (d ∷ done) h = ((let low : d.from < k = h.0.0 in omega arith, h.0.1.1), past-on k t m done h.1)

past-push : (k t : ℕ) (m : List ℕ) (done : List Entry) → Past (k + 1) m done → Absent t m → Past (k + 1) m (done ++ entry_of k t ∷ [])
past-push k t m [] h a = ((omega arith, a), tt)
past-push k t m (d ∷ done) h a = (h.0, past-push k t m done h.1 a)

goes_on-move : (from to : ℕ) (done : List Entry) → goes_on (Move from to) done ≡ true
goes_on-move from to [] = refl
goes_on-move from to (d ∷ done) = refl

move-step : (batch k t : ℕ) (xs : List BrowserNode) (above : List Level) (done : List Entry) (tree : Tree) → k < length xs → t < length xs → is_apart (entry_of k t) done ≡ true
    → edited batch (Move k t) (moving xs above done tree) ≡ Ok (moving xs above (done ++ entry_of k t ∷ []) tree)
move-step batch k t xs above done tree p q r = rw (goes_on-move k t done, lt-ltb k (length xs) p, lt-ltb t (length xs) q, r) refl

moves-run : (batch : ℕ) (xs : List BrowserNode) (above : List Level) (tree : Tree) (k : ℕ) (m : List ℕ) (done : List Entry) → Distinct m → ((j q : ℕ) → slice_get m j ≡ Some q → q < length xs)
    → k + length m ≤ length xs → Past k m done → all_edited batch (map move_of (entries_from k m)) (moving xs above done tree) ≡ Ok (moving xs above (done ++ entries_from k m) tree)
moves-run batch xs above tree k [] done d h n past = ap (λ (es : List Entry). Ok (moving xs above es tree)) (sym (append-nil done))
moves-run batch xs above tree k (t ∷ m) done d h n past = elim (eqb_tells t k) [
  | inl a ↦ rw a.0 (moves-run batch xs above tree (k + 1) m done d.1 (λ j q. h (suc j) q) (omega arith) (past-on k t m done past))
  | inr a ↦ rw a.0 (
      let first = move-step batch k t xs above done tree (omega arith) (h 0 t refl) (is_apart-past k t m done past) in
      let rest = moves-run batch xs above tree (k + 1) m (done ++ entry_of k t ∷ []) d.1 (λ j q. h (suc j) q) (omega arith)
      (past-push k t m done (past-on k t m done past) d.0) in
      ap (λ (r : Result Focus ApplyFault). and_then r (all_edited batch (map move_of (entries_from (k + 1) m)))) first
      ∙ rest ∙ ap (λ (es : List Entry). Ok (moving xs above es tree)) (append_assoc done (entry_of k t ∷ []) (entries_from (k + 1) m)))
]

any-entry : (k : ℕ) (m : List ℕ) (j q : ℕ) → slice_get m j ≡ Some q → (q ≡ k + j → ⊥) → list_any (λ (d : Entry). d.to == q) (entries_from k m) ≡ true
any-entry k [] j q e h = absurd (cc)
any-entry k (t ∷ m) zero q e h =
    let same : t ≡ q = cc in
    elim (eqb_tells t k) [
      | inl a ↦ absurd (h (let here : t ≡ k = a.1 in omega arith))
      | inr a ↦ rw a.0 (rw (eq-eqb t q same) refl)
    ]
any-entry k (t ∷ m) (suc j) q e h =
    let rest = any-entry (k + 1) m j q e (λ a. h (omega arith)) in
    elim (eqb_tells t k) [ inl a ↦ rw a.0 rest | inr a ↦ rw a.0 (rw rest (or-true (t == q))) ]

all-entries : (p : Entry → Bool) (k : ℕ) (m : List ℕ) → ((j t : ℕ) → slice_get m j ≡ Some t → (t ≡ k + j → ⊥) → p (entry_of (k + j) t) ≡ true) → list_all p (entries_from k m) ≡ true
all-entries p k [] h = refl
all-entries p k (t ∷ m) h =
    let rest = all-entries p (k + 1) m (λ j q e n. subst (λ x. p (entry_of x q) ≡ true) (let s : k + suc j ≡ k + 1 + j = omega arith in s) (h (suc j) q e (λ a. n (omega arith)))) in
    elim (eqb_tells t k) [
      | inl a ↦ rw a.0 rest
      | inr a ↦ rw a.0 (
          let first : p (entry_of k t) ≡ true = subst (λ x. p (entry_of x t) ≡ true) (let z : k + 0 ≡ k = omega arith in z) (h 0 t refl (λ e. a.1 (e ∙ (let z : k + 0 ≡ k = omega arith in z)))) in
          rw first rest)
    ]

is_closed-full : (n : ℕ) (m : List ℕ) → IsFull n m → is_closed (entries_from 0 m) ≡ true
is_closed-full n m full = all-entries (λ e. list_any (λ (d : Entry). d.to == e.from) (entries_from 0 m)) 0 m (λ j t e other.
    let hit = full.hits (0 + j) (get-within j t e) in
    any-entry 0 m hit.0 (0 + j) hit.1 (λ here.
    let same : j ≡ hit.0 = omega arith in
    let one : slice_get m j ≡ Some (0 + j) = subst (λ x. slice_get m x ≡ Some (0 + j)) (sym same) hit.1 in
    other (cc)))
  where
    get-within : (j t : ℕ) → slice_get m j ≡ Some t → 0 + j < n
    get-within j t e = let short = full.short in let low = slice_get_within m j t e in omega arith

placed-none : {X : Type 0} (xs zs : List X) (k : ℕ) → ((i : ℕ) (z : X) → slice_get zs i ≡ Some z → slice_get xs (k + i) ≡ Some z) → placed [] xs k zs ≡ zs
placed-none xs [] k h = refl
placed-none {X} xs (z ∷ zs) k h =
    let here : slice_get xs k ≡ Some z = subst (λ x. slice_get xs x ≡ Some z) (let e : k + 0 ≡ k = omega arith in e) (h 0 z refl) in
    let read : unwrap_or (slice_get xs k) z ≡ z = ap (λ (o : Option X). unwrap_or o z) here in
    let rest = placed-none xs zs (k + 1) (λ i y e. subst (λ x. slice_get xs x ≡ Some y) (let s : k + suc i ≡ k + 1 + i = omega arith in s) (h (suc i) y e)) in
    ap (λ y. y ∷ placed [] xs (k + 1) zs) read ∙ ap (λ ys. z ∷ ys) rest

moved-none : {X : Type 0} (xs : List X) → moved [] xs ≡ xs
moved-none xs = placed-none xs xs 0 (λ i z e. subst (λ x. slice_get xs x ≡ Some z) (let s : i ≡ 0 + i = omega arith in s) e)

moved-is : {X : Type 0} (ys xs : List X) (m : List ℕ) → IsFull (length ys) m → Held ys m xs → length xs ≡ length ys → moved (entries_from 0 m) xs ≡ ys
moved-is ys xs m full held n = placed-is ys xs m 0 xs full held (omega arith)

-- moves put no component in
moves-put_in : (entries : List Entry) → all_put_in (map move_of entries ++ MoveEnd ∷ []) ≡ []
moves-put_in [] = refl
moves-put_in (entry ∷ entries) = moves-put_in entries

-- with no entry the list stands
ended-turns : (batch : ℕ) (ys xs : List BrowserNode) (entries : List Entry) → moved entries xs ≡ ys → is_closed entries ≡ true
    → ((above : List Level) (tree : Tree) → all_edited batch (map move_of entries) (moving xs above [] tree) ≡ Ok (moving xs above entries tree)) → Turns batch (ended entries) xs ys
ended-turns batch ys xs [] e c go = turns-same batch [] xs xs xs ys refl (sym (moved-none xs) ∙ e) (turns-none batch xs)
ended-turns batch ys xs (x ∷ entries) e c go = turns-still batch (ended (x ∷ entries)) xs ys (moves-put_in (x ∷ entries)) (λ above tree.
    let last : and_then (Ok (moving xs above (x ∷ entries) tree)) (all_edited batch (MoveEnd ∷ [])) ≡ Ok (focused ys above tree) = rw c (ap (λ (zs : List BrowserNode). Ok (focused zs above tree)) e) in
    edited-append batch (map move_of (x ∷ entries)) (MoveEnd ∷ []) (focused xs above tree)
    ∙ ap (λ (r : Result Focus ApplyFault). and_then r (all_edited batch (MoveEnd ∷ []))) (go above tree) ∙ last)

pub moves-turn : (batch : ℕ) (ys xs : List BrowserNode) (m : List ℕ) → IsFull (length ys) m → Held ys m xs → length xs ≡ length ys → Turns batch (ended (entries_from 0 m)) xs ys
moves-turn batch ys xs m full held n =
    let short = full.short in
    let fits : (j q : ℕ) → slice_get m j ≡ Some q → q < length xs = λ j q e. subst (λ x. q < x) (sym n) (full.below j q e) in
    ended-turns batch ys xs (entries_from 0 m) (moved-is ys xs m full held n) (is_closed-full (length ys) m full)
    (λ above tree. moves-run batch xs above tree 0 m [] full.once fits (omega arith) tt)
