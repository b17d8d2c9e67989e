-- How tokens lie in their text.
use Rattle.std.specs.Prelude.{◌≡◌, ℕ, ◌+◌, ◌<◌, List, [], ◌∷◌, ◌++◌, length, None}
use Rattle.cs_token.specs.declared.token.Token.{Token}
use Rattle.cs_token.specs.Lexemes.{IsGap}

-- white space and comments alone, with this rest behind them
pub data AreGaps : List ℕ → List ℕ → Type 0 where
  no_gap : (rest : List ℕ) → AreGaps [] rest
  one_gap : (gap gaps rest : List ℕ) → IsGap None gap (gaps ++ rest) → AreGaps gaps rest → AreGaps (gap ++ gaps) rest

-- from this number of characters on, the tokens' spans are one or more characters of the text each, in order,
-- and all between them and behind them is white space and comments
pub data Cover : ℕ → List ℕ → List Token → Type 0 where
  no_token : (at : ℕ) (gaps : List ℕ) → AreGaps gaps [] → Cover at gaps []
  one_token : (at : ℕ) (gaps here rest : List ℕ) (token : Token) (tokens : List Token) →
      AreGaps gaps (here ++ rest) → 0 < length here →
      token.start ≡ at + length gaps → token.end ≡ token.start + length here →
      Cover token.end rest tokens → Cover at (gaps ++ (here ++ rest)) (token ∷ tokens)
