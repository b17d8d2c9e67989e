-- How a sign is looked for.
use Rattle.std.specs.Prelude.{ℕ, List, [], ◌∷◌, Option, is_some, Bool}
use Rattle.std.specs.List.{find}
use Rattle.cs_token.specs.declared.token.Sign.{Sign}
use Rattle.cs_token.specs.declared.token.Sign.TheVariants as s
use Rattle.cs_token.specs.Signs.{mark}
use Rattle.cs_token.specs.Reading.Runs.{strip}

-- the signs of code, the longer ones first
unfoldable pub signs : List Sign
signs =
    s.QuestionDot ∷ s.QuestionQuestion ∷ s.AddAssign ∷ s.SubtractAssign ∷ s.MultiplyAssign ∷ s.DivideAssign ∷
    s.RemainderAssign ∷ s.Equal ∷ s.NotEqual ∷ s.LessOrEqual ∷ s.GreaterOrEqual ∷ s.PlusPlus ∷ s.MinusMinus ∷
    s.And ∷ s.Or ∷ s.Arrow ∷ s.InterpolationStart ∷ s.OpenRound ∷ s.CloseRound ∷ s.OpenSquare ∷
    s.CloseSquare ∷ s.OpenBrace ∷ s.CloseBrace ∷ s.Comma ∷ s.Semicolon ∷ s.Dot ∷ s.Question ∷ s.Colon ∷
    s.Assign ∷ s.Less ∷ s.Greater ∷ s.Plus ∷ s.Minus ∷ s.Star ∷ s.Slash ∷ s.Percent ∷ s.Not ∷ []

-- the sign stands first in the text
abbrev pub stands_first : List ℕ → Sign → Bool
stands_first text sign = is_some (strip (mark sign) text)

-- the longest sign of code that stands first
unfoldable pub sign_at : List ℕ → Option Sign
sign_at text = find (stands_first text) signs
