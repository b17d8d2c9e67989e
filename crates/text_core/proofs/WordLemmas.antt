-- Numbers as bytes: what was put is what is taken, and the other way round.
use Rattle.std.proofs.Common.{◌≡◌, ℕ, ◌^◌, ◌<◌, ◌≤◌, List, [], ◌∷◌, ◌++◌, length, take, drop, get_or, Some, None, inl, inr, arith, refl, sym, ◌∙◌, ap, zero, suc, append_assoc}
use Rattle.std.specs.Prelude.{nat_lt}
use Rattle.std.specs.Int.{w32, w64, to_le_bytes, from_le_bytes}
use Rattle.std.proofs.lemmas.Bool.{le-ltb, ltb-false, cases_Bool}
use Rattle.std.proofs.lemmas.List.{length-append, length-take-le, take-append-drop}
use Rattle.std.proofs.lemmas.Nat.{le_bytes_4, le_bytes_8}
use Rattle.std.proofs.Math.Seq.{drop-append_seam}
use Rattle.byteorder.specs.Endian.{little_bytes, little_number}
use Rattle.byteorder.specs.Numbers.{little_number-reads_back, little_from-take, little_from-lt, length-bytes_low_first}
use Rattle.text_core.specs.Standing.{U32Begins, U64Begins}
use Rattle.text_core.specs.Words.{u32_bytes, u64_bytes, u32_at, u64_at}

-- a number has this many bytes
pub length-u32_bytes : (value : ℕ) → length (u32_bytes value) ≡ 4
unfolding u32_bytes
length-u32_bytes value = length-bytes_low_first 0 4 value

pub length-u64_bytes : (value : ℕ) → length (u64_bytes value) ≡ 8
unfolding u64_bytes
length-u64_bytes value = length-bytes_low_first 0 8 value

-- the number whose bytes stand before anything
pub u32_at-u32_bytes : (value : ℕ) (rest : List ℕ) → value < 2 ^ 32 → u32_at (u32_bytes value ++ rest) ≡ Some value
unfolding u32_at u32_bytes
u32_at-u32_bytes value rest fits =
    let p : value < 256 ^ 4 = fits in
    let long : 4 ≤ length (little_bytes 4 value ++ rest) = omega (arith, length-append (little_bytes 4 value) rest, length-bytes_low_first 0 4 value) in
    rw (le-ltb (length (little_bytes 4 value ++ rest)) 4 long, little_number-reads_back 4 value rest p) refl

pub u64_at-u64_bytes : (value : ℕ) (rest : List ℕ) → value < 2 ^ 64 → u64_at (u64_bytes value ++ rest) ≡ Some value
unfolding u64_at u64_bytes
u64_at-u64_bytes value rest fits =
    let p : value < 256 ^ 8 = fits in
    let long : 8 ≤ length (little_bytes 8 value ++ rest) = omega (arith, length-append (little_bytes 8 value) rest, length-bytes_low_first 0 8 value) in
    rw (le-ltb (length (little_bytes 8 value ++ rest)) 8 long, little_number-reads_back 8 value rest p) refl

some_is : {A : Type 0} (p q : A) → Some p ≡ Some q → p ≡ q
some_is p q e = cc

-- what stands behind a front
pub behind_front : (front new word rest : List ℕ) → new ≡ front ++ word → drop (length front) (new ++ rest) ≡ word ++ rest
behind_front front new word rest e =
    rw (e, append_assoc front word rest, drop-append_seam front (word ++ rest)) refl

take_bounds : (n : ℕ) (bytes : List ℕ) → ((i : ℕ) → get_or bytes i 0 < 256) → (i : ℕ) → get_or (take n bytes) i 0 < 256
take_bounds zero bytes bounds i = omega arith
take_bounds (suc n) [] bounds i = omega arith
take_bounds (suc n) (byte ∷ bytes) bounds zero = bounds 0
take_bounds (suc n) (byte ∷ bytes) bounds (suc i) = take_bounds n bytes (λ k. bounds (suc k)) i

-- a number that was taken stands at the front
pub begins-u32_at : (bytes : List ℕ) (value : ℕ) → ((i : ℕ) → get_or bytes i 0 < 256) → u32_at bytes ≡ Some value → U32Begins bytes value
unfolding u32_at u32_bytes
begins-u32_at bytes value bounds e =
    elim (cases_Bool (nat_lt (length bytes) 4)) [
      | inl short ↦ (let wrong : None ≡ Some value = rw short at e in absurd (cc))
      | inr long ↦ (
          let is : little_number 4 bytes ≡ value = some_is _ _ (rw long at e) in
          let enough : 4 ≤ length bytes = ltb-false _ _ long in
          let front : little_number 4 (take 4 bytes) ≡ value = little_from-take 0 4 4 bytes (omega arith) ∙ is in
          let small : value < 256 ^ 4 = rw is at (little_from-lt 0 4 bytes bounds) in
          let number : value ≡ from_le_bytes w32 (take 4 bytes) = omega (arith, front) in
          let same : to_le_bytes w32 value ≡ take 4 bytes = le_bytes_4 (take 4 bytes) value (length-take-le 4 bytes enough) (take_bounds 4 bytes bounds) number in
          record {
            begins = sym (take-append-drop 4 bytes) ∙ ap (λ (front : List ℕ). front ++ drop 4 bytes) (sym same);
            fits = small;
          }
          )
    ]

pub begins-u64_at : (bytes : List ℕ) (value : ℕ) → ((i : ℕ) → get_or bytes i 0 < 256) → u64_at bytes ≡ Some value → U64Begins bytes value
unfolding u64_at u64_bytes
begins-u64_at bytes value bounds e =
    elim (cases_Bool (nat_lt (length bytes) 8)) [
      | inl short ↦ (let wrong : None ≡ Some value = rw short at e in absurd (cc))
      | inr long ↦ (
          let is : little_number 8 bytes ≡ value = some_is _ _ (rw long at e) in
          let enough : 8 ≤ length bytes = ltb-false _ _ long in
          let front : little_number 8 (take 8 bytes) ≡ value = little_from-take 0 8 8 bytes (omega arith) ∙ is in
          let small : value < 256 ^ 8 = rw is at (little_from-lt 0 8 bytes bounds) in
          let number : value ≡ from_le_bytes w64 (take 8 bytes) = omega (arith, front) in
          let same : to_le_bytes w64 value ≡ take 8 bytes = le_bytes_8 (take 8 bytes) value (length-take-le 8 bytes enough) (take_bounds 8 bytes bounds) number in
          record {
            begins = sym (take-append-drop 8 bytes) ∙ ap (λ (front : List ℕ). front ++ drop 8 bytes) (sym same);
            fits = small;
          }
          )
    ]
