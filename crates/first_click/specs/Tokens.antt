-- The tokens of code.
use Rattle.std.specs.Prelude.{◌≡◌, ℕ, Bool, true, false, ◌==◌, ◌||◌, ◌&&◌, List, [], ◌∷◌, ◌++◌}
use Rattle.first_click.specs.declared.characters.Class.TheVariants as class
use Rattle.first_click.specs.Characters.{is_in, AreAll, IsRun, begins_with}
use Rattle.first_click.specs.Walks.{Walk}

-- `+` or `-`, of which two make one token
abbrev pub is_doubled : ℕ → Bool
is_doubled c = (c == 43) || (c == 45)

-- the text begins with `++` or `--`
abbrev pub begins_double : List ℕ → Bool
begins_double [] = false
begins_double (c ∷ []) = false
begins_double (c ∷ d ∷ text) = is_doubled c && (d == c)

-- this token stands first behind white space, and leaves a rest
pub data TokenStands : List ℕ → List ℕ → List ℕ → Type 0 where
  -- letters, digits and `_`, as many as there are
  word : (gap text rest : List ℕ) → AreAll class.White gap → IsRun class.Word text → begins_with class.Word rest ≡ false →
      TokenStands (gap ++ (text ++ rest)) text rest
  -- `++` or `--`
  double : (gap : List ℕ) (c : ℕ) (rest : List ℕ) → AreAll class.White gap → is_doubled c ≡ true →
      TokenStands (gap ++ (c ∷ c ∷ rest)) (c ∷ c ∷ []) rest
  -- any other character
  sign : (gap : List ℕ) (c : ℕ) (rest : List ℕ) → AreAll class.White gap → is_in class.Sign c ≡ true →
      begins_double (c ∷ rest) ≡ false → TokenStands (gap ++ (c ∷ rest)) (c ∷ []) rest

-- tokens one after another, and white space behind them
pub record IsCode (text : List ℕ) (tokens : List (List ℕ)) : Type 0 where
  pub white : List ℕ
  pub walk : Walk TokenStands text tokens white
  pub all : AreAll class.White white
