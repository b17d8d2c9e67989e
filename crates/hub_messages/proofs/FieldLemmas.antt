-- Fields: what was put is what is read, and the other way round.
use Rattle.std.proofs.Common.{◌≡◌, ◌≢◌, ℕ, suc, ◌^◌, ◌<◌, ◌≤◌, List, [], ◌∷◌, ◌++◌, length, drop, get_or, Some, None, inl, inr, eqb, arith, refl, sym, ◌∙◌, ap}
use Rattle.std.specs.declared.option.Option.{Option}
use Rattle.std.specs.Prelude.{nat_lt, encode_utf8_all}
use Rattle.std.proofs.lemmas.Bool.{ltb-false, cases_Bool, eqb-true, ne_eqb}
use Rattle.std.proofs.lemmas.List.{length-append}
use Rattle.std.proofs.lemmas.Option.{some_pair_parts}
use Rattle.std.proofs.Math.Seq.{drop-append_seam}
use Rattle.text_core.specs.Words.{u32_bytes, u32_at, u64_bytes, u64_at}
use Rattle.text_core.specs.TextBytes.{text_bytes, text_at}
use Rattle.text_core.proofs.WordLemmas.{length-u32_bytes, length-u64_bytes, u64_at-u64_bytes, begins-u64_at}
use Rattle.text_core.proofs.TextByteLemmas.{text_at-text_bytes, begins-text_at}
use Rattle.hub_messages.specs.Options.{◌>>=◌}
use Rattle.hub_messages.specs.Spelling.Fields.{carried, coded}
use Rattle.hub_messages.specs.Spelling.Spells.{IsText, IsCarried, IsCoded}
use Rattle.hub_messages.specs.Reading.Fields.{byte_at, number_at, pair_at, name_at, nothing_in, carried_in, number_in}
use Rattle.hub_messages.proofs.OptionLemmas.{bind_some, some_is, some_none, chosen, kept, ok_from_some}
use mathlib.Core.List.{append-nil}

-- bytes are below 256
abbrev pub Bounded : List ℕ → Type 0
Bounded bytes = (i : ℕ) → get_or bytes i 0 < 256

pub bounded_behind : (front rest : List ℕ) → Bounded (front ++ rest) → Bounded rest
bounded_behind [] rest bounds = bounds
bounded_behind (byte ∷ front) rest bounds = bounded_behind front rest (λ i. bounds (suc i))

-- where a number was read there are so many bytes
pub long_u64_at : (bytes : List ℕ) (value : ℕ) → u64_at bytes ≡ Some value → 8 ≤ length bytes
unfolding u64_at
long_u64_at bytes value e =
    elim (cases_Bool (nat_lt (length bytes) 8)) [
      | inl short ↦ some_none value (rw short at e)
      | inr long ↦ ltb-false (length bytes) 8 long
    ]

pub long_u32_at : (bytes : List ℕ) (value : ℕ) → u32_at bytes ≡ Some value → 4 ≤ length bytes
unfolding u32_at
long_u32_at bytes value e =
    elim (cases_Bool (nat_lt (length bytes) 4)) [
      | inl short ↦ some_none value (rw short at e)
      | inr long ↦ ltb-false (length bytes) 4 long
    ]

drop_u64 : (value : ℕ) (rest : List ℕ) → drop 8 (u64_bytes value ++ rest) ≡ rest
drop_u64 value rest =
    ap (λ (n : ℕ). drop n (u64_bytes value ++ rest)) (sym (length-u64_bytes value)) ∙ drop-append_seam (u64_bytes value) rest

pub drop_u32 : (value : ℕ) (rest : List ℕ) → drop 4 (u32_bytes value ++ rest) ≡ rest
drop_u32 value rest =
    ap (λ (n : ℕ). drop n (u32_bytes value ++ rest)) (sym (length-u32_bytes value)) ∙ drop-append_seam (u32_bytes value) rest

-- a number
pub number_at-u64_bytes : (value : ℕ) (rest : List ℕ) → value < 2 ^ 64 → number_at (u64_bytes value ++ rest) ≡ Some (value, rest)
unfolding number_at
number_at-u64_bytes value rest fits = rw (u64_at-u64_bytes value rest fits, drop_u64 value rest) refl

pub record NumberStands (bytes : List ℕ) (value : ℕ) (rest : List ℕ) : Type 0 where
  pub begins : bytes ≡ u64_bytes value ++ rest
  pub fits : value < 2 ^ 64
  pub bounds : Bounded rest

pub number_stands : (bytes : List ℕ) (value : ℕ) (rest : List ℕ) → Bounded bytes → number_at bytes ≡ Some (value, rest) → NumberStands bytes value rest
unfolding number_at
number_stands bytes value rest bounds e =
    let found = bind_some (u64_at bytes) (λ (v : ℕ). Some (v, drop 8 bytes)) (value, rest) e in
    let stands = begins-u64_at bytes found.0 bounds found.1 in
    let parts = some_pair_parts found.0 value (drop 8 bytes) rest found.2 in
    let begins : bytes ≡ u64_bytes value ++ rest = cc (stands.begins) in
    record {
      begins = begins;
      fits = rw (← parts.0) stands.fits;
      bounds = bounded_behind (u64_bytes value) rest (rw begins at bounds);
    }

-- two numbers
pub pair_at-u64_bytes : (first second : ℕ) (rest : List ℕ) → first < 2 ^ 64 → second < 2 ^ 64 → pair_at (u64_bytes first ++ (u64_bytes second ++ rest)) ≡ Some ((first, second), rest)
unfolding pair_at
pair_at-u64_bytes first second rest fits more =
    rw (number_at-u64_bytes first (u64_bytes second ++ rest) fits, number_at-u64_bytes second rest more) refl

pub record PairStands (bytes : List ℕ) (first second : ℕ) (rest : List ℕ) : Type 0 where
  pub begins : bytes ≡ u64_bytes first ++ (u64_bytes second ++ rest)
  pub first_fits : first < 2 ^ 64
  pub second_fits : second < 2 ^ 64
  pub bounds : Bounded rest

pub pair_stands : (bytes : List ℕ) (pair : ℕ × ℕ) (rest : List ℕ) → Bounded bytes → pair_at bytes ≡ Some (pair, rest) → PairStands bytes pair.0 pair.1 rest
unfolding pair_at
pair_stands bytes pair rest bounds e =
    let one = bind_some (number_at bytes) (λ (a : ℕ × List ℕ). number_at a.1 >>= λ b. Some ((a.0, b.0), b.1)) (pair, rest) e in
    let two = bind_some (number_at one.0.1) (λ (b : ℕ × List ℕ). Some ((one.0.0, b.0), b.1)) (pair, rest) one.2 in
    let parts = some_pair_parts (one.0.0, two.0.0) pair two.0.1 rest two.2 in
    let front = number_stands bytes one.0.0 one.0.1 bounds one.1 in
    let back = number_stands one.0.1 two.0.0 two.0.1 front.bounds two.1 in
    let first : one.0.0 ≡ pair.0 = ap (λ (p : ℕ × ℕ). p.0) parts.0 in
    let second : two.0.0 ≡ pair.1 = ap (λ (p : ℕ × ℕ). p.1) parts.0 in
    let behind : two.0.1 ≡ rest = parts.1 in
    record {
      begins = cc (front.begins, back.begins);
      first_fits = rw (← first) front.fits;
      second_fits = rw (← second) back.fits;
      bounds = rw (← behind) back.bounds;
    }

-- a text
pub name_at-text_bytes : (text rest : List ℕ) → IsText text → name_at (text_bytes text ++ rest) ≡ Some (text, rest)
unfolding name_at
name_at-text_bytes text rest is = rw (text_at-text_bytes text rest is.scalars is.short) refl

pub record TextStands (bytes text rest : List ℕ) : Type 0 where
  pub begins : bytes ≡ text_bytes text ++ rest
  pub is : IsText text
  pub bounds : Bounded rest

pub text_stands : (bytes text rest : List ℕ) → Bounded bytes → name_at bytes ≡ Some (text, rest) → TextStands bytes text rest
unfolding name_at
text_stands bytes text rest bounds e =
    let stands = begins-text_at bytes text rest bounds (ok_from_some (text_at bytes) (text, rest) e) in
    record {
      begins = stands.begins;
      is = record { scalars = stands.scalars; short = stands.short };
      bounds = bounded_behind (text_bytes text) rest (rw stands.begins at bounds);
    }

-- a byte
pub byte_stands : (bytes : List ℕ) (read : ℕ × List ℕ) → byte_at bytes ≡ Some read → bytes ≡ read.0 ∷ read.1
byte_stands [] read e = some_none read e
byte_stands (byte ∷ bytes) read e = ap (λ (r : ℕ × List ℕ). r.0 ∷ r.1) (some_is (byte, bytes) read e)

-- nothing
pub nothing_is : (bytes : List ℕ) (u : Unit {0}) → nothing_in bytes ≡ Some u → bytes ≡ []
nothing_is [] u e = refl
nothing_is (byte ∷ bytes) u e = some_none u e

-- what an event carries
pub carried_in-carried : (text : Option (List ℕ)) → IsCarried text → carried_in (carried text) ≡ Some text
unfolding carried_in
carried_in-carried None is = refl
carried_in-carried (Some text) is =
    let read : name_at (text_bytes text) ≡ Some (text, []) = rw (append-nil (text_bytes text)) at (name_at-text_bytes text [] is) in
    rw read refl

pub record CarriedStands (bytes : List ℕ) (text : Option (List ℕ)) : Type 0 where
  pub is : bytes ≡ carried text
  pub sayable : IsCarried text

carried_none : (rest : List ℕ) (text : Option (List ℕ)) → (nothing_in rest >>= λ _. Some None) ≡ Some text → CarriedStands (0 ∷ rest) text
carried_none rest text e =
    let found = bind_some (nothing_in rest) (λ (_ : Unit {0}). Some None) text e in
    let nothing = nothing_is rest found.0 found.1 in
    let absent : None ≡ text = some_is None text found.2 in
    record { is = rw (← absent, nothing) refl; sayable = rw (← absent) tt }

carried_some : (rest : List ℕ) (text : Option (List ℕ)) → Bounded rest → (name_at rest >>= λ found. nothing_in found.1 >>= λ _. Some (Some found.0)) ≡ Some text → CarriedStands (1 ∷ rest) text
carried_some rest text bounds e =
    let one = bind_some (name_at rest) (λ (found : List ℕ × List ℕ). nothing_in found.1 >>= λ _. Some (Some found.0)) text e in
    let two = bind_some (nothing_in one.0.1) (λ (_ : Unit {0}). Some (Some one.0.0)) text one.2 in
    let nothing = nothing_is one.0.1 two.0 two.1 in
    let stands = text_stands rest one.0.0 one.0.1 bounds one.1 in
    let present : Some one.0.0 ≡ text = some_is (Some one.0.0) text two.2 in
    let whole : rest ≡ text_bytes one.0.0 = stands.begins ∙ ap (λ (b : List ℕ). text_bytes one.0.0 ++ b) nothing ∙ append-nil (text_bytes one.0.0) in
    record { is = ap (λ (b : List ℕ). 1 ∷ b) whole ∙ ap carried present; sayable = rw (← present) stands.is }

pub carried_stands : (bytes : List ℕ) (text : Option (List ℕ)) → Bounded bytes → carried_in bytes ≡ Some text → CarriedStands bytes text
unfolding carried_in
carried_stands [] text bounds e = some_none text e
carried_stands (flag ∷ rest) text bounds e =
    elim (chosen (eqb flag 0) _ _ text e) [
      | inl absent ↦ (let is : flag ≡ 0 = eqb-true flag 0 absent.0 in rw is (carried_none rest text absent.1))
      | inr other ↦ (
          let present = kept (eqb flag 1) _ text other.1 in
          let is : flag ≡ 1 = eqb-true flag 1 present.0 in
          rw is (carried_some rest text (λ i. bounds (suc i)) present.1)
          )
    ]

-- a code and the number that comes with it
pub record CodedReads (bytes : List ℕ) (code : ℕ) (value : Option ℕ) : Type 0 where
  pub rest : List ℕ
  pub first : bytes ≡ code ∷ rest
  pub second : number_in rest ≡ Some value

number_in-u64_bytes : (value : ℕ) → value < 2 ^ 64 → number_in (u64_bytes value) ≡ Some (Some value)
unfolding number_in
number_in-u64_bytes value fits =
    let some : length (u64_bytes value) ≢ 0 = omega (arith, length-u64_bytes value) in
    let read : number_at (u64_bytes value) ≡ Some (value, []) = rw (append-nil (u64_bytes value)) at (number_at-u64_bytes value [] fits) in
    rw (ne_eqb (length (u64_bytes value)) 0 some, read) refl

pub coded_reads : (p : ℕ × Option ℕ) → IsCoded p → CodedReads (coded p) p.0 p.1
unfolding number_in
coded_reads (code, None) is = record { rest = []; first = refl; second = refl }
coded_reads (code, Some value) is = record { rest = u64_bytes value; first = refl; second = number_in-u64_bytes value is }

pub record CodedStands (bytes : List ℕ) (code : ℕ) (value : Option ℕ) : Type 0 where
  pub is : code ∷ bytes ≡ coded (code, value)
  pub sayable : IsCoded (code, value)

pub coded_stands : (bytes : List ℕ) (code : ℕ) (value : Option ℕ) → Bounded bytes → number_in bytes ≡ Some value → CodedStands bytes code value
unfolding number_in
coded_stands [] code value bounds e =
    let absent : None ≡ value = some_is None value e in
    record { is = rw (← absent) refl; sayable = rw (← absent) tt }
coded_stands (byte ∷ bytes) code value bounds e =
    let some : suc (length bytes) ≢ 0 = omega arith in
    let read : (number_at (byte ∷ bytes) >>= λ found. nothing_in found.1 >>= λ _. Some (Some found.0)) ≡ Some value = rw (ne_eqb (suc (length bytes)) 0 some) at e in
    let one = bind_some (number_at (byte ∷ bytes)) (λ (found : ℕ × List ℕ). nothing_in found.1 >>= λ _. Some (Some found.0)) value read in
    let two = bind_some (nothing_in one.0.1) (λ (_ : Unit {0}). Some (Some one.0.0)) value one.2 in
    let nothing = nothing_is one.0.1 two.0 two.1 in
    let stands = number_stands (byte ∷ bytes) one.0.0 one.0.1 bounds one.1 in
    let present : Some one.0.0 ≡ value = some_is (Some one.0.0) value two.2 in
    let whole : byte ∷ bytes ≡ u64_bytes one.0.0 = stands.begins ∙ ap (λ (b : List ℕ). u64_bytes one.0.0 ++ b) nothing ∙ append-nil (u64_bytes one.0.0) in
    record { is = ap (λ (b : List ℕ). code ∷ b) whole ∙ ap (λ (v : Option ℕ). coded (code, v)) present; sayable = rw (← present) stands.fits }

-- a text has no more bytes than its spelling
pub short_text : (text : List ℕ) → length (encode_utf8_all text) ≤ length (text_bytes text)
unfolding text_bytes
short_text text = omega (arith, length-append {A = ℕ})
