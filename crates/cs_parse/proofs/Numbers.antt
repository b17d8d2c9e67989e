-- Signs and words of one number are the same.
use Rattle.std.proofs.Common.{◌≡◌, List, [], ◌∷◌, refl, sym, ap, ◌∙◌}
use Rattle.std.specs.Prelude.{Some}
use Rattle.std.specs.List.{slice_get}
use Rattle.cs_token.specs.declared.token.Sign.{Sign}
use Rattle.cs_token.specs.declared.token.Sign.TheVariants as s
use Rattle.cs_token.specs.declared.token.Word.{Word}
use Rattle.cs_token.specs.declared.token.Word.TheVariants as w
use Rattle.cs_parse.specs.Numbers.{sign_number, word_number}

-- the signs and the words in the order of their numbers
signs : List Sign
signs =
    s.OpenRound ∷ s.CloseRound ∷ s.OpenSquare ∷ s.CloseSquare ∷ s.OpenBrace ∷ s.CloseBrace ∷ s.Comma ∷ s.Semicolon ∷
    s.Dot ∷ s.QuestionDot ∷ s.Question ∷ s.QuestionQuestion ∷ s.Colon ∷ s.Assign ∷ s.AddAssign ∷ s.SubtractAssign ∷
    s.MultiplyAssign ∷ s.DivideAssign ∷ s.RemainderAssign ∷ s.Equal ∷ s.NotEqual ∷ s.Less ∷ s.Greater ∷
    s.LessOrEqual ∷ s.GreaterOrEqual ∷ s.Plus ∷ s.Minus ∷ s.Star ∷ s.Slash ∷ s.Percent ∷ s.PlusPlus ∷ s.MinusMinus ∷
    s.Not ∷ s.And ∷ s.Or ∷ s.Arrow ∷ s.InterpolationStart ∷ s.InterpolationEnd ∷ s.HoleOpen ∷ s.HoleClose ∷ []

words : List Word
words =
    w.Async ∷ w.Await ∷ w.Bool ∷ w.Break ∷ w.Case ∷ w.Continue ∷ w.Default ∷ w.Else ∷ w.False ∷ w.For ∷ w.Foreach ∷
    w.If ∷ w.In ∷ w.Int ∷ w.Internal ∷ w.New ∷ w.Null ∷ w.Override ∷ w.Private ∷ w.Protected ∷ w.Public ∷ w.Return ∷
    w.String ∷ w.Switch ∷ w.True ∷ w.Var ∷ w.Void ∷ w.While ∷ w.Task ∷ w.MarkupString ∷ w.ImmutableList ∷
    w.EventCallback ∷ w.RenderFragment ∷ w.ChangeEventArgs ∷ w.EventArgs ∷ w.MouseEventArgs ∷ w.KeyboardEventArgs ∷
    w.FocusEventArgs ∷ []

sign_back : (x : Sign) → slice_get signs (sign_number x) ≡ Some x
unfolding sign_number signs
sign_back s.OpenRound = refl
sign_back s.CloseRound = refl
sign_back s.OpenSquare = refl
sign_back s.CloseSquare = refl
sign_back s.OpenBrace = refl
sign_back s.CloseBrace = refl
sign_back s.Comma = refl
sign_back s.Semicolon = refl
sign_back s.Dot = refl
sign_back s.QuestionDot = refl
sign_back s.Question = refl
sign_back s.QuestionQuestion = refl
sign_back s.Colon = refl
sign_back s.Assign = refl
sign_back s.AddAssign = refl
sign_back s.SubtractAssign = refl
sign_back s.MultiplyAssign = refl
sign_back s.DivideAssign = refl
sign_back s.RemainderAssign = refl
sign_back s.Equal = refl
sign_back s.NotEqual = refl
sign_back s.Less = refl
sign_back s.Greater = refl
sign_back s.LessOrEqual = refl
sign_back s.GreaterOrEqual = refl
sign_back s.Plus = refl
sign_back s.Minus = refl
sign_back s.Star = refl
sign_back s.Slash = refl
sign_back s.Percent = refl
sign_back s.PlusPlus = refl
sign_back s.MinusMinus = refl
sign_back s.Not = refl
sign_back s.And = refl
sign_back s.Or = refl
sign_back s.Arrow = refl
sign_back s.InterpolationStart = refl
sign_back s.InterpolationEnd = refl
sign_back s.HoleOpen = refl
sign_back s.HoleClose = refl

word_back : (x : Word) → slice_get words (word_number x) ≡ Some x
unfolding word_number words
word_back w.Async = refl
word_back w.Await = refl
word_back w.Bool = refl
word_back w.Break = refl
word_back w.Case = refl
word_back w.Continue = refl
word_back w.Default = refl
word_back w.Else = refl
word_back w.False = refl
word_back w.For = refl
word_back w.Foreach = refl
word_back w.If = refl
word_back w.In = refl
word_back w.Int = refl
word_back w.Internal = refl
word_back w.New = refl
word_back w.Null = refl
word_back w.Override = refl
word_back w.Private = refl
word_back w.Protected = refl
word_back w.Public = refl
word_back w.Return = refl
word_back w.String = refl
word_back w.Switch = refl
word_back w.True = refl
word_back w.Var = refl
word_back w.Void = refl
word_back w.While = refl
word_back w.Task = refl
word_back w.MarkupString = refl
word_back w.ImmutableList = refl
word_back w.EventCallback = refl
word_back w.RenderFragment = refl
word_back w.ChangeEventArgs = refl
word_back w.EventArgs = refl
word_back w.MouseEventArgs = refl
word_back w.KeyboardEventArgs = refl
word_back w.FocusEventArgs = refl

pub one_sign : (a b : Sign) → sign_number a ≡ sign_number b → a ≡ b
one_sign a b e = let same : Some a ≡ Some b = sym (sign_back a) ∙ ap (slice_get signs) e ∙ sign_back b in cc

pub one_word : (a b : Word) → word_number a ≡ word_number b → a ≡ b
one_word a b e = let same : Some a ≡ Some b = sym (word_back a) ∙ ap (slice_get words) e ∙ word_back b in cc
