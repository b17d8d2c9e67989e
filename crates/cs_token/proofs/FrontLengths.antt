-- What stands at the front of a text isn't empty.
use Rattle.std.proofs.Common.{◌≡◌, ℕ, ◌<◌, List, [], ◌∷◌, length, true, lit<, arith, length-append}
use Rattle.std.specs.declared.option.Option.{Option}
use Rattle.cs_token.specs.declared.around.Around.{Around}
use Rattle.cs_token.specs.declared.characters.Class.TheVariants as class
use Rattle.cs_token.specs.declared.token.Sign.{Sign}
use Rattle.cs_token.specs.declared.token.Sign.TheVariants as s
use Rattle.cs_token.specs.declared.token.TokenKind.{TokenKind}
use Rattle.cs_token.specs.Characters.{begins_with}
use Rattle.std.proofs.lemmas.Bool.{false≢true}
use Rattle.cs_token.specs.Lexemes.{Stands, IsGap}
use Rattle.cs_token.specs.Lexemes as g
use Rattle.cs_token.specs.Signs.{mark}
use Rattle.cs_token.specs.Words.{spelling}
use Rattle.cs_token.specs.Written.{IsWritten, nothing, more}
use Rattle.cs_token.specs.declared.written.Form.TheVariants.{Part}
use Rattle.cs_token.proofs.WordLemmas.{name_spelling}
use Rattle.cs_token.proofs.WrittenLemmas.{unit-some}

begun-some : (text : List ℕ) → begins_with class.Letter text ≡ true → 0 < length text
begun-some [] e = absurd (false≢true e)
begun-some (c ∷ text) e = omega arith

mark-some : (sign : Sign) → 0 < length (mark sign)
unfolding mark
mark-some s.OpenRound = lit< tt
mark-some s.CloseRound = lit< tt
mark-some s.OpenSquare = lit< tt
mark-some s.CloseSquare = lit< tt
mark-some s.OpenBrace = lit< tt
mark-some s.CloseBrace = lit< tt
mark-some s.Comma = lit< tt
mark-some s.Semicolon = lit< tt
mark-some s.Dot = lit< tt
mark-some s.QuestionDot = lit< tt
mark-some s.Question = lit< tt
mark-some s.QuestionQuestion = lit< tt
mark-some s.Colon = lit< tt
mark-some s.Assign = lit< tt
mark-some s.AddAssign = lit< tt
mark-some s.SubtractAssign = lit< tt
mark-some s.MultiplyAssign = lit< tt
mark-some s.DivideAssign = lit< tt
mark-some s.RemainderAssign = lit< tt
mark-some s.Equal = lit< tt
mark-some s.NotEqual = lit< tt
mark-some s.Less = lit< tt
mark-some s.Greater = lit< tt
mark-some s.LessOrEqual = lit< tt
mark-some s.GreaterOrEqual = lit< tt
mark-some s.Plus = lit< tt
mark-some s.Minus = lit< tt
mark-some s.Star = lit< tt
mark-some s.Slash = lit< tt
mark-some s.Percent = lit< tt
mark-some s.PlusPlus = lit< tt
mark-some s.MinusMinus = lit< tt
mark-some s.Not = lit< tt
mark-some s.And = lit< tt
mark-some s.Or = lit< tt
mark-some s.Arrow = lit< tt
mark-some s.InterpolationStart = lit< tt
mark-some s.InterpolationEnd = lit< tt
mark-some s.HoleOpen = lit< tt
mark-some s.HoleClose = lit< tt

gap-some : (around : Option Around) (text rest : List ℕ) → IsGap around text rest → 0 < length text
gap-some around _ _ (g.white c rest is keeps) = omega arith
gap-some around _ _ (g.line body rest all stops) = omega arith
gap-some around _ _ (g.block body rest keeps first) = omega arith

written-some : (body said : List ℕ) → IsWritten Part body said → 0 < length said → 0 < length body
written-some _ _ nothing some = some
written-some _ _ (more unit text said c is written) some =
    let first = unit-some Part unit c is in
    simp length-append (omega arith)

pub stands-some : (around : Option Around) (kind : Option TokenKind) (text rest : List ℕ) → Stands around kind text rest → 0 < length text
stands-some _ _ _ _ (g.gap around text rest code is) = gap-some around text rest is
stands-some _ _ _ _ (g.name around text rest code is stops other) = begun-some text is.begins
stands-some _ _ _ _ (g.word around word rest code stops) = begun-some (spelling word) (name_spelling word).begins
stands-some _ _ _ _ (g.number around n digits rest code is stops says) = is.some
stands-some _ _ _ _ (g.text around body said rest code is) = omega arith
stands-some _ _ _ _ (g.sign around sign rest code longest open_) = mark-some sign
stands-some _ _ _ _ (g.hole_close rest) = mark-some s.HoleClose
stands-some _ _ _ _ (g.part body said rest some is stops) = written-some body said is some
stands-some _ _ _ _ (g.hole_open rest single) = mark-some s.HoleOpen
stands-some _ _ _ _ (g.interpolation_end rest) = mark-some s.InterpolationEnd
