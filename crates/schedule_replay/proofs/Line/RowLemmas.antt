-- Batches, by their numbers.
use Rattle.std.proofs.Common.{◌≡◌, ◌<◌, ◌≤◌, ℕ, zero, suc, ◌+◌, ◌-◌, List, [], ◌∷◌, ◌++◌, length, slice_get, Some, None, refl, ap, sym, ◌∙◌, subst, arith, true, false, eqb, ne_eqb, length-append, inl, inr}
use Rattle.std.proofs.lemmas.Bool.{cases_lt}
use Rattle.std.specs.declared.option.Option.{Option}
use Rattle.std.proofs.lemmas.Bool.{eqb-false}
use Rattle.hub_messages.specs.Stage.{Machine}
use Rattle.circuit_meaning.specs.Circuit.State.{BatchRow}
use Rattle.schedule_replay.specs.Line.InStep.{tree_of, tree_after, Chains, AreShort}
use Rattle.schedule_replay.specs.Line.Lines.{batch_row}
use Rattle.schedule_replay.specs.Line.Steps.{Ends}

pub get-front : {A : Type 0} (xs ys : List A) (place : ℕ) → place < length xs → slice_get (xs ++ ys) place ≡ slice_get xs place
get-front [] ys place within = absurd (omega arith)
get-front (x ∷ xs) ys zero within = refl
get-front (x ∷ xs) ys (suc place) within = get-front xs ys place (omega arith)

pub get-behind : {A : Type 0} (xs : List A) (y : A) → slice_get (xs ++ y ∷ []) (length xs) ≡ Some y
get-behind [] y = refl
get-behind (x ∷ xs) y = get-behind xs y

pub get-last : {A : Type 0} (xs : List A) (y z : A) (place : ℕ) → slice_get (xs ++ y ∷ []) place ≡ Some z → length xs ≤ place → (place ≡ length xs) × (y ≡ z)
get-last [] y z zero found past = (refl, cc)
get-last [] y z (suc place) found past = absurd (cc)
get-last (x ∷ xs) y z zero found past = absurd (omega arith)
get-last (x ∷ xs) y z (suc place) found past =
    let inner = get-last xs y z place found (omega arith) in
    let at = inner.0 in
    (omega arith, inner.1)

pub get-within : {A : Type 0} (xs : List A) (place : ℕ) (x : A) → slice_get xs place ≡ Some x → place < length xs
get-within [] place x found = absurd (cc)
get-within (y ∷ xs) zero x found = omega arith
get-within (y ∷ xs) (suc place) x found = let inner = get-within xs place x found in omega arith

-- the batch behind this number
pub row-next : {Stage : Type 0} (rows : List (BatchRow Stage)) (place : ℕ) → batch_row rows (place + 1) ≡ slice_get rows place
row-next rows place =
    let some = ne_eqb (place + 1) 0 (λ e. omega arith) in
    let back : place + 1 - 1 ≡ place = omega arith in
    rw (some, back) refl

-- earlier batches stay
pub row-front : {Stage : Type 0} (rows more : List (BatchRow Stage)) (number : ℕ) → number ≤ length rows → batch_row (rows ++ more) number ≡ batch_row rows number
row-front rows more zero within = refl
row-front rows more (suc number) within =
    let at : suc number ≡ number + 1 = omega arith in
    subst (λ (n : ℕ). batch_row (rows ++ more) n ≡ batch_row rows n) (sym at)
    (row-next (rows ++ more) number ∙ get-front rows more number (omega arith) ∙ sym (row-next rows number))

pub row-found : {Stage : Type 0} (rows : List (BatchRow Stage)) (number : ℕ) (row : BatchRow Stage) → batch_row rows number ≡ Some row → number ≤ length rows
row-found rows zero row found = absurd (cc)
row-found rows (suc number) row found =
    let at : suc number ≡ number + 1 = omega arith in
    let there : slice_get rows number ≡ Some row = sym (row-next rows number) ∙ subst (λ (n : ℕ). batch_row rows n ≡ Some row) at found in
    let within = get-within rows number row there in
    omega arith

pub row-kept : {Stage : Type 0} (rows more : List (BatchRow Stage)) (number : ℕ) (row : BatchRow Stage) → batch_row rows number ≡ Some row → batch_row (rows ++ more) number ≡ Some row
row-kept rows more number row found = row-front rows more number (row-found rows number row found) ∙ found

pub after-front : {Tree : Type 0} (machine : Machine Tree) (first : Tree) (rows more : List (BatchRow machine.State)) (number : ℕ) → number ≤ length rows
    → tree_after machine first (rows ++ more) number ≡ tree_after machine first rows number
after-front machine first rows more number within = ap (tree_of machine first) (row-front rows more number within)

pub after-next : {Tree : Type 0} (machine : Machine Tree) (first : Tree) (rows : List (BatchRow machine.State)) (place : ℕ) (row : BatchRow machine.State) → slice_get rows place ≡ Some row
    → tree_after machine first rows (place + 1) ≡ machine.tree row.stage
after-next machine first rows place row found = ap (tree_of machine first) (row-next rows place ∙ found)

-- one more batch, which turns the last tree into its own
abbrev Turns : {Tree : Type 0} (ends : Ends Tree) → ℕ → BatchRow ends.machine.State → Tree → Type 0
Turns ends number row before = ends.turns number row.bytes before (ends.machine.tree row.stage) (ends.machine.counts row.stage)

pub chain-more : {Tree : Type 0} (ends : Ends Tree) (first : Tree) (rows : List (BatchRow ends.machine.State)) (row : BatchRow ends.machine.State) → Chains ends first rows
    → Turns ends (length rows + 1) row (tree_after ends.machine first rows (length rows))
    → Chains ends first (rows ++ row ∷ [])
chain-more {Tree} ends first rows row chain turned place found at =
    let State : Type 0 = ends.machine.State in
    let tree : ℕ → Tree = λ n. tree_after ends.machine first (rows ++ row ∷ []) n in
    elim (cases_lt place (length rows)) [
      | inl early ↦
          subst (λ (t : Tree). Turns ends (place + 1) found t) (sym (after-front ends.machine first rows (row ∷ []) place (omega arith)))
          (chain place found (sym (get-front rows (row ∷ []) place early) ∙ at))
      | inr late ↦
          let last = get-last rows row found place at late in
          let moved : Turns ends (length rows + 1) row (tree (length rows)) =
          subst (λ (t : Tree). Turns ends (length rows + 1) row t) (sym (after-front ends.machine first rows (row ∷ []) (length rows) (omega arith))) turned in
          let placed : Turns ends (place + 1) row (tree place) = subst (λ (n : ℕ). Turns ends (n + 1) row (tree n)) (sym last.0) moved in
          subst (λ (r : BatchRow ends.machine.State). Turns ends (place + 1) r (tree place)) last.1 placed
    ]

-- one more batch that fits a message
pub short-more : {Stage : Type 0} (rows : List (BatchRow Stage)) (row : BatchRow Stage) → AreShort rows → length row.bytes ≤ 33554368 → AreShort (rows ++ row ∷ [])
short-more {Stage} rows row short fits place found at =
    elim (cases_lt place (length rows)) [
      | inl early ↦ short place found (sym (get-front rows (row ∷ []) place early) ∙ at)
      | inr late ↦ subst (λ (r : BatchRow Stage). length r.bytes ≤ 33554368) (get-last rows row found place at late).1 fits
    ]

-- a batch that was made fits a message
pub row-short : {Stage : Type 0} (rows : List (BatchRow Stage)) (number : ℕ) (row : BatchRow Stage) → AreShort rows → batch_row rows number ≡ Some row → length row.bytes ≤ 33554368
row-short rows zero row short found = absurd (cc)
row-short rows (suc number) row short found =
    let at : suc number ≡ number + 1 = omega arith in
    short number row (sym (row-next rows number) ∙ subst (λ (n : ℕ). batch_row rows n ≡ Some row) at found)
