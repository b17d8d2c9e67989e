-- Signs and words told apart by numbers.
use Rattle.std.specs.Prelude.{ℕ}
use Rattle.cs_token.specs.declared.token.Sign.{Sign}
use Rattle.cs_token.specs.declared.token.Sign.TheVariants as s
use Rattle.cs_token.specs.declared.token.Word.{Word}
use Rattle.cs_token.specs.declared.token.Word.TheVariants as w

-- a number for each sign
unfoldable pub sign_number : Sign → ℕ
sign_number s.OpenRound = 0
sign_number s.CloseRound = 1
sign_number s.OpenSquare = 2
sign_number s.CloseSquare = 3
sign_number s.OpenBrace = 4
sign_number s.CloseBrace = 5
sign_number s.Comma = 6
sign_number s.Semicolon = 7
sign_number s.Dot = 8
sign_number s.QuestionDot = 9
sign_number s.Question = 10
sign_number s.QuestionQuestion = 11
sign_number s.Colon = 12
sign_number s.Assign = 13
sign_number s.AddAssign = 14
sign_number s.SubtractAssign = 15
sign_number s.MultiplyAssign = 16
sign_number s.DivideAssign = 17
sign_number s.RemainderAssign = 18
sign_number s.Equal = 19
sign_number s.NotEqual = 20
sign_number s.Less = 21
sign_number s.Greater = 22
sign_number s.LessOrEqual = 23
sign_number s.GreaterOrEqual = 24
sign_number s.Plus = 25
sign_number s.Minus = 26
sign_number s.Star = 27
sign_number s.Slash = 28
sign_number s.Percent = 29
sign_number s.PlusPlus = 30
sign_number s.MinusMinus = 31
sign_number s.Not = 32
sign_number s.And = 33
sign_number s.Or = 34
sign_number s.Arrow = 35
sign_number s.InterpolationStart = 36
sign_number s.InterpolationEnd = 37
sign_number s.HoleOpen = 38
sign_number s.HoleClose = 39

-- a number for each word
unfoldable pub word_number : Word → ℕ
word_number w.Async = 0
word_number w.Await = 1
word_number w.Bool = 2
word_number w.Break = 3
word_number w.Case = 4
word_number w.Continue = 5
word_number w.Default = 6
word_number w.Else = 7
word_number w.False = 8
word_number w.For = 9
word_number w.Foreach = 10
word_number w.If = 11
word_number w.In = 12
word_number w.Int = 13
word_number w.Internal = 14
word_number w.New = 15
word_number w.Null = 16
word_number w.Override = 17
word_number w.Private = 18
word_number w.Protected = 19
word_number w.Public = 20
word_number w.Return = 21
word_number w.String = 22
word_number w.Switch = 23
word_number w.True = 24
word_number w.Var = 25
word_number w.Void = 26
word_number w.While = 27
word_number w.Task = 28
word_number w.MarkupString = 29
word_number w.ImmutableList = 30
word_number w.EventCallback = 31
word_number w.RenderFragment = 32
word_number w.ChangeEventArgs = 33
word_number w.EventArgs = 34
word_number w.MouseEventArgs = 35
word_number w.KeyboardEventArgs = 36
word_number w.FocusEventArgs = 37
