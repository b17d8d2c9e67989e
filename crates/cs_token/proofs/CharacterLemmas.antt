-- Classes of characters against one another.
use Rattle.std.proofs.Common.{◌≡◌, ℕ, true, false, arith}
use Rattle.std.proofs.lemmas.Bool.Decides.{nat_tests}
use Rattle.cs_token.specs.declared.characters.Class.TheVariants as class
use Rattle.cs_token.specs.Characters.{is_in}

pub letter-not-white : (c : ℕ) → is_in class.Letter c ≡ true → is_in class.White c ≡ false
letter-not-white c h = grind (arith, nat_tests)

pub digit-not-white : (c : ℕ) → is_in class.Digit c ≡ true → is_in class.White c ≡ false
digit-not-white c h = grind (arith, nat_tests)

pub digit-not-letter : (c : ℕ) → is_in class.Digit c ≡ true → is_in class.Letter c ≡ false
digit-not-letter c h = grind (arith, nat_tests)

pub letter-is-word : (c : ℕ) → is_in class.Letter c ≡ true → is_in class.Word c ≡ true
letter-is-word c h = grind (arith, nat_tests)

pub neither-word : (c : ℕ) → is_in class.Letter c ≡ false → is_in class.Digit c ≡ false → is_in class.Word c ≡ false
neither-word c h k = grind (arith, nat_tests)

pub word-not-letter : (c : ℕ) → is_in class.Word c ≡ false → is_in class.Letter c ≡ false
word-not-letter c h = grind (arith, nat_tests)

pub word-not-digit : (c : ℕ) → is_in class.Word c ≡ false → is_in class.Digit c ≡ false
word-not-digit c h = grind (arith, nat_tests)

pub feed-white : (c : ℕ) → is_in class.Inline c ≡ false → is_in class.White c ≡ true
feed-white c h = grind (arith, nat_tests)
