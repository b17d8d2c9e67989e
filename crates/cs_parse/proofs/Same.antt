-- Telling signs and words apart.
use Rattle.std.proofs.Common.{◌≡◌, ◌↔◌, IsTrue, ℕ, refl, sym, ap}
use Rattle.std.proofs.lemmas.Bool.{eqb-true, eq-eqb}
use Rattle.std.specs.Prelude.{Bool, true, false, ◌==◌}
use Rattle.cs_token.specs.declared.token.Sign.{Sign}
use Rattle.cs_token.specs.declared.token.Word.{Word}
use Rattle.cs_parse.specs.Numbers.{sign_number, word_number}
use Rattle.cs_parse.proofs.Numbers.{one_sign, one_word}

-- a test that tells equal ones tells equal numbers
told : {A : Type 0} (number : A → ℕ) → ((a b : A) → number a ≡ number b → a ≡ b) → (a b : A) (r : Bool) → (IsTrue r ↔ (a ≡ b)) → r ≡ (number a == number b)
told number back a b true e = sym (eq-eqb _ _ (ap number (e.0 refl)))
told number back a b false e = go (number a == number b) refl
  where
    go : (d : Bool) → (number a == number b) ≡ d → false ≡ (number a == number b)
    go true i = let z : false ≡ true = e.1 (back a b (eqb-true _ _ i)) in absurd (cc)
    go false i = sym i

pub same_sign : (a b : Sign) (r : Bool) → (IsTrue r ↔ (a ≡ b)) → r ≡ (sign_number a == sign_number b)
same_sign a b r e = told sign_number one_sign a b r e

pub same_word : (a b : Word) (r : Bool) → (IsTrue r ↔ (a ≡ b)) → r ≡ (word_number a == word_number b)
same_word a b r e = told word_number one_word a b r e
