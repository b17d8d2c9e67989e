-- Operators, brackets, and what stands round the parts of an interpolated text.
use Rattle.std.specs.Prelude.{ℕ, List, [], ◌∷◌, codes, Bool, true, false}
use Rattle.cs_token.specs.declared.token.Sign.{Sign}
use Rattle.cs_token.specs.declared.token.Sign.TheVariants as s

-- how each of them is written
unfoldable pub mark : Sign → List ℕ
mark s.OpenRound = codes "("
mark s.CloseRound = codes ")"
mark s.OpenSquare = codes "["
mark s.CloseSquare = codes "]"
mark s.OpenBrace = codes "{"
mark s.CloseBrace = codes "}"
mark s.Comma = codes ","
mark s.Semicolon = codes ";"
mark s.Dot = codes "."
mark s.QuestionDot = codes "?."
mark s.Question = codes "?"
mark s.QuestionQuestion = codes "??"
mark s.Colon = codes ":"
mark s.Assign = codes "="
mark s.AddAssign = codes "+="
mark s.SubtractAssign = codes "-="
mark s.MultiplyAssign = codes "*="
mark s.DivideAssign = codes "/="
mark s.RemainderAssign = codes "%="
mark s.Equal = codes "=="
mark s.NotEqual = codes "!="
mark s.Less = codes "<"
mark s.Greater = codes ">"
mark s.LessOrEqual = codes "<="
mark s.GreaterOrEqual = codes ">="
mark s.Plus = codes "+"
mark s.Minus = codes "-"
mark s.Star = codes "*"
mark s.Slash = codes "/"
mark s.Percent = codes "%"
mark s.PlusPlus = codes "++"
mark s.MinusMinus = codes "--"
mark s.Not = codes "!"
mark s.And = codes "&&"
mark s.Or = codes "||"
mark s.Arrow = codes "=>"
mark s.InterpolationStart = 36 ∷ 34 ∷ []
mark s.InterpolationEnd = 34 ∷ []
mark s.HoleOpen = codes "{"
mark s.HoleClose = codes "}"

-- it stands in code, and isn't the bound of a part of an interpolated text
unfoldable pub is_of_code : Sign → Bool
is_of_code s.InterpolationEnd = false
is_of_code s.HoleOpen = false
is_of_code s.HoleClose = false
is_of_code _ = true
