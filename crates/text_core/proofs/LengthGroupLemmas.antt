-- Lengths in groups.
use Rattle.std.proofs.Common.{◌≡◌, ◌≢◌, ℕ, zero, suc, ◌+◌, ◌-◌, ◌*◌, ◌/◌, ◌%◌, ◌^◌, ◌<◌, ◌≤◌, Bool, true, false, List, [], ◌∷◌, ◌++◌, length, drop, Result, Ok, Err, get_or, inl, inr, arith, refl, sym, ◌∙◌, ap, lit≤}
use Rattle.std.specs.Prelude.{nat_lt, ◌||◌, ◌&&◌, if◌then◌else◌}
use Rattle.std.proofs.lemmas.Bool.{le-ltb, lt-ltb, ltb-true, ltb-false, cases_Bool, ne_eqb}
use Rattle.text_core.specs.declared.wire_fault.WireFault.{WireFault}
use Rattle.text_core.specs.declared.wire_fault.WireFault.TheVariants.{BadLength, Short}
use Rattle.text_core.specs.LengthGroups.{groups, announcing, said, ends_in_zero, length_at}

-- a number that fits the groups that are left fits those behind the first
pub fits_next : (more n : ℕ) → 0 < more → more ≤ 3 → n < 128 ^ (more + 1) → n / 128 < 128 ^ (more - 1 + 1)
fits_next zero n some most small = absurd (omega arith)
fits_next (suc zero) n some most small = let p : n < 128 ^ 2 = small in omega arith
fits_next (suc (suc zero)) n some most small = let p : n < 128 ^ 3 = small in omega arith
fits_next (suc (suc (suc zero))) n some most small = let p : n < 128 ^ 4 = small in omega arith
fits_next (suc (suc (suc (suc more)))) n some most small = absurd (omega arith)

-- with one more group before it, it fits one group more
pub grows : (more n group : ℕ) → 0 < more → more ≤ 3 → n < 128 ^ (more - 1 + 1) → 128 ≤ group → group < 256 → (group - 128 + 128 * n < 128 ^ (more + 1)) × (group - 128 + 128 * n < 2 ^ 28)
grows zero n group some most small low high = absurd (omega arith)
grows (suc zero) n group some most small low high = let p : n < 128 = small in (omega arith, omega arith)
grows (suc (suc zero)) n group some most small low high = let p : n < 128 ^ 2 = small in (omega arith, omega arith)
grows (suc (suc (suc zero))) n group some most small low high = let p : n < 128 ^ 3 = small in (omega arith, omega arith)
grows (suc (suc (suc (suc more)))) n group some most small low high = absurd (omega arith)

-- the first of several groups
pub groups-more : (more n : ℕ) → 0 < more → 128 ≤ n → groups more n ≡ (n % 128 + 128) ∷ groups (more - 1) (n / 128)
groups-more zero n some big = absurd (omega arith)
groups-more (suc more) n some big = let e : suc more - 1 ≡ more = omega arith in rw (le-ltb n 128 big, e) refl

-- a group fits
pub least : (more : ℕ) → more ≤ 3 → 128 ≤ 128 ^ (more + 1)
least zero most = lit≤ tt
least (suc zero) most = lit≤ tt
least (suc (suc zero)) most = lit≤ tt
least (suc (suc (suc zero))) most = lit≤ tt
least (suc (suc (suc (suc more)))) most = absurd (omega arith)

-- a length behind one group more
abbrev pub behind_group : ℕ → Result (ℕ × List ℕ) WireFault → Result (ℕ × List ℕ) WireFault
behind_group group (Ok found) = Ok (group - 128 + 128 * found.0, found.1)
behind_group group (Err fault) = Err fault

next_below : (a b : ℕ) → nat_lt (suc a) (suc b) ≡ nat_lt a b
next_below a b =
    elim (cases_Bool (nat_lt a b)) [
      | inl below ↦ lt-ltb (suc a) (suc b) (omega (arith, ltb-true a b below)) ∙ sym below
      | inr above ↦ le-ltb (suc a) (suc b) (omega (arith, ltb-false a b above)) ∙ sym above
    ]

tested : (over several ends within : Bool) (group n : ℕ) (rest : List ℕ) → (if over || (several || true) && ends then Err BadLength else if within then Ok (group - 128 + 128 * n, rest) else Err Short) ≡ behind_group group (if over || ends then Err BadLength else if within then Ok (n, rest) else Err Short)
tested true several ends within group n rest = refl
tested false true true within group n rest = refl
tested false false true within group n rest = refl
tested false true false true group n rest = refl
tested false false false true group n rest = refl
tested false true false false group n rest = refl
tested false false false false group n rest = refl

-- no group
pub length_at-none : (more : ℕ) (several : Bool) → length_at more several [] ≡ Err Short
unfolding length_at
length_at-none more true = rw (le-ltb more 0 (omega arith)) refl
length_at-none more false = rw (le-ltb more 0 (omega arith)) refl

-- a group that announces another, where one more may follow
pub length_at-more : (more : ℕ) (several : Bool) (group : ℕ) (bytes : List ℕ) → 128 ≤ group → length_at (suc more) several (group ∷ bytes) ≡ behind_group group (length_at more true bytes)
unfolding length_at
length_at-more more several group bytes big =
    rw (le-ltb group 128 big, next_below more (announcing bytes), next_below (announcing bytes) (length bytes), lt-ltb 0 (suc (announcing bytes)) (omega arith))
    (tested (nat_lt more (announcing bytes)) several (ends_in_zero bytes) (nat_lt (announcing bytes) (length bytes)) group (said bytes) _)

-- a group that announces another, where none may follow
pub length_at-over : (several : Bool) (group : ℕ) (bytes : List ℕ) → 128 ≤ group → length_at 0 several (group ∷ bytes) ≡ Err BadLength
unfolding length_at
length_at-over several group bytes big =
    rw (le-ltb group 128 big, lt-ltb 0 (suc (announcing bytes)) (omega arith)) refl

-- a group that announces none
pub length_at-last : (more : ℕ) (several : Bool) (group : ℕ) (bytes : List ℕ) → group < 128 → (several ≡ true → 0 < group) → length_at more several (group ∷ bytes) ≡ Ok (group, bytes)
unfolding length_at
length_at-last more true group bytes small some =
    let differs : group ≢ 0 = let positive : 0 < group = some refl in omega arith in
    rw (lt-ltb group 128 small, le-ltb more 0 (omega arith), ne_eqb group 0 differs, lt-ltb 0 (suc (length bytes)) (omega arith)) refl
length_at-last more false group bytes small some =
    rw (lt-ltb group 128 small, le-ltb more 0 (omega arith), lt-ltb 0 (suc (length bytes)) (omega arith)) refl

-- a last group that is 0
pub length_at-zero : (more : ℕ) (bytes : List ℕ) → length_at more true (0 ∷ bytes) ≡ Err BadLength
unfolding length_at
length_at-zero more bytes = rw (le-ltb more 0 (omega arith)) refl

-- the same by the first byte of a slice
pub none_first : (more : ℕ) (several : Bool) (bytes : List ℕ) → length bytes < 1 → length_at more several bytes ≡ Err Short
none_first more several [] short = length_at-none more several
none_first more several (group ∷ bytes) short = absurd (omega arith)

pub more_first : (more : ℕ) (several : Bool) (bytes : List ℕ) → 0 < length bytes → 128 ≤ get_or bytes 0 0 → 0 < more → length_at more several bytes ≡ behind_group (get_or bytes 0 0) (length_at (more - 1) true (drop 1 bytes))
more_first more several [] some big follow = absurd (omega arith)
more_first zero several (group ∷ bytes) some big follow = absurd (omega arith)
more_first (suc more) several (group ∷ bytes) some big follow =
    let e : suc more - 1 ≡ more = omega arith in rw e (length_at-more more several group bytes big)

pub over_first : (several : Bool) (bytes : List ℕ) → 0 < length bytes → 128 ≤ get_or bytes 0 0 → length_at 0 several bytes ≡ Err BadLength
over_first several [] some big = absurd (omega arith)
over_first several (group ∷ bytes) some big = length_at-over several group bytes big

pub last_first : (more : ℕ) (several : Bool) (bytes : List ℕ) → 0 < length bytes → get_or bytes 0 0 < 128 → (several ≡ true → 0 < get_or bytes 0 0) → length_at more several bytes ≡ Ok (get_or bytes 0 0, drop 1 bytes)
last_first more several [] some small positive = absurd (omega arith)
last_first more several (group ∷ bytes) some small positive = length_at-last more several group bytes small positive

pub zero_first : (more : ℕ) (bytes : List ℕ) → 0 < length bytes → get_or bytes 0 0 ≡ 0 → length_at more true bytes ≡ Err BadLength
zero_first more [] some is = absurd (omega arith)
zero_first more (group ∷ bytes) some is = let e : group ≡ 0 = is in rw e (length_at-zero more bytes)

-- a length that was put is taken back
pub length_at-groups : (more n : ℕ) (several : Bool) (rest : List ℕ) → more ≤ 3 → n < 128 ^ (more + 1) → (several ≡ true → 0 < n) → length_at more several (groups more n ++ rest) ≡ Ok (n, rest)
length_at-groups zero n several rest most small some = let p : n < 128 = small in length_at-last 0 several n rest p some
length_at-groups (suc more) n several rest most small some =
    elim (cases_Bool (nat_lt n 128)) [
      | inl below ↦ rw below (length_at-last (suc more) several n rest (ltb-true n 128 below) some)
      | inr above ↦ (
          let big : 128 ≤ n = ltb-false n 128 above in
          let e : suc more - 1 ≡ more = omega arith in
          let next : n / 128 < 128 ^ (suc more - 1 + 1) = fits_next (suc more) n (omega arith) most small in
          let positive : 0 < n / 128 = omega arith in
          rw above
          (length_at-more more several (n % 128 + 128) (groups more (n / 128) ++ rest) (omega arith)
          ∙ ap (behind_group (n % 128 + 128)) (length_at-groups more (n / 128) true rest (omega arith) (rw e at next) (λ _. positive))
          ∙ ap (λ (k : ℕ). Ok (k, rest)) (omega arith))
          )
    ]

-- what a length that was taken says of the bytes
pub record Begins (more n : ℕ) (several : Bool) (bytes rest : List ℕ) : Type 0 where
  pub begins : bytes ≡ groups more n ++ rest
  pub small : n < 128 ^ (more + 1)
  pub some : several ≡ true → 0 < n

groups-last : (more n : ℕ) → n < 128 → groups more n ≡ n ∷ []
groups-last zero n small = refl
groups-last (suc more) n small = rw (lt-ltb n 128 small) refl

ok_is : (n k : ℕ) (rest more : List ℕ) (read : Result (ℕ × List ℕ) WireFault) → read ≡ Ok (n, rest) → read ≡ Ok (k, more) → (n ≡ k) × (rest ≡ more)
ok_is n k rest more (Ok found) e f =
    let p : found ≡ (n, rest) = cc in
    let q : found ≡ (k, more) = cc in
    (sym (ap (λ (x : ℕ × List ℕ). x.0) p) ∙ ap (λ (x : ℕ × List ℕ). x.0) q, sym (ap (λ (x : ℕ × List ℕ). x.1) p) ∙ ap (λ (x : ℕ × List ℕ). x.1) q)
ok_is n k rest more (Err fault) e f = cc

pub not_ok : {X : Type 0} (x : X) (fault : WireFault) (read : Result X WireFault) → read ≡ Ok x → read ≡ Err fault → ⊥
not_ok x fault read e f = cc

behind_ok : (group n : ℕ) (rest : List ℕ) (read : Result (ℕ × List ℕ) WireFault) → behind_group group read ≡ Ok (n, rest) → (k : ℕ) × (read ≡ Ok (k, rest)) × (n ≡ group - 128 + 128 * k)
behind_ok group n rest (Ok found) e =
    let both = ok_is (group - 128 + 128 * found.0) n found.1 rest (behind_group group (Ok found)) refl e in
    (found.0, ap (λ (r : List ℕ). Ok (found.0, r)) both.1, sym both.0)
behind_ok group n rest (Err fault) e = cc

last_begins : (more n : ℕ) (several : Bool) (group : ℕ) (bytes rest : List ℕ) → more ≤ 3 → group < 128 → (several ≡ true → 0 < group) → length_at more several (group ∷ bytes) ≡ Ok (n, rest) → Begins more n several (group ∷ bytes) rest
last_begins more n several group bytes rest most small some e =
    let both = ok_is group n bytes rest (length_at more several (group ∷ bytes)) (length_at-last more several group bytes small some) e in
    record {
      begins = rw (← both.0, groups-last more group small, both.1) refl;
      small = rw (← both.0) (omega (arith, least more most));
      some = rw (← both.0) some;
    }

short_begins : (more n : ℕ) (several : Bool) (group : ℕ) (bytes rest : List ℕ) → more ≤ 3 → group < 128 → length_at more several (group ∷ bytes) ≡ Ok (n, rest) → Begins more n several (group ∷ bytes) rest
short_begins more n false group bytes rest most small e =
    last_begins more n false group bytes rest most small (λ wrong. cc) e
short_begins more n true zero bytes rest most small e = absurd (not_ok (n, rest) BadLength (length_at more true (0 ∷ bytes)) e (length_at-zero more bytes))
short_begins more n true (suc group) bytes rest most small e =
    last_begins more n true (suc group) bytes rest most small (λ _. omega arith) e

more_begins : (more n k : ℕ) (several : Bool) (group : ℕ) (bytes rest : List ℕ) → suc more ≤ 3 → 128 ≤ group → group < 256 → n ≡ group - 128 + 128 * k → Begins more k true bytes rest → Begins (suc more) n several (group ∷ bytes) rest
more_begins more n k several group bytes rest most low high number found =
    let positive : 0 < k = found.some refl in
    let e : suc more - 1 ≡ more = omega arith in
    let head : n % 128 + 128 ≡ group = omega arith in
    let tail : n / 128 ≡ k = omega arith in
    let fits = grows (suc more) k group (omega arith) most (rw e found.small) low high in
    record {
      begins = rw (found.begins, groups-more (suc more) n (omega arith) (omega arith), e, head, tail) refl;
      small = rw number fits.0;
      some = λ _. omega arith;
    }

-- a length that was taken stands at the front
pub begins-length_at : (more n : ℕ) (several : Bool) (bytes rest : List ℕ) → more ≤ 3 → ((i : ℕ) → get_or bytes i 0 < 256) → length_at more several bytes ≡ Ok (n, rest) → Begins more n several bytes rest
begins-length_at more n several [] rest most bounds e = absurd (not_ok (n, rest) Short (length_at more several []) e (length_at-none more several))
begins-length_at zero n several (group ∷ bytes) rest most bounds e =
    elim (cases_Bool (nat_lt group 128)) [
      | inl below ↦ short_begins 0 n several group bytes rest most (ltb-true group 128 below) e
      | inr above ↦ absurd (not_ok (n, rest) BadLength (length_at 0 several (group ∷ bytes)) e (length_at-over several group bytes (ltb-false group 128 above)))
    ]
begins-length_at (suc more) n several (group ∷ bytes) rest most bounds e =
    elim (cases_Bool (nat_lt group 128)) [
      | inl below ↦ short_begins (suc more) n several group bytes rest most (ltb-true group 128 below) e
      | inr above ↦ (
          let big : 128 ≤ group = ltb-false group 128 above in
          let found = behind_ok group n rest (length_at more true bytes) (sym (length_at-more more several group bytes big) ∙ e) in
          more_begins more n found.0 several group bytes rest most big (bounds 0) found.2 (begins-length_at more found.0 true bytes rest (omega arith) (λ i. bounds (suc i)) found.1)
          )
    ]
