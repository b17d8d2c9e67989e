-- How a word is looked up.
use Rattle.std.specs.Prelude.{ℕ, List, [], ◌∷◌, Option}
use Rattle.std.specs.List.{find}
use Rattle.std.specs.Str.{bytes_eq}
use Rattle.cs_token.specs.declared.token.Word.{Word}
use Rattle.cs_token.specs.declared.token.Word.TheVariants as w
use Rattle.cs_token.specs.Words.{spelling}

-- all of them
unfoldable pub words : List Word
words =
    w.Async ∷ w.Await ∷ w.Bool ∷ w.Break ∷ w.Case ∷ w.Continue ∷ w.Default ∷ w.Else ∷ w.False ∷ w.For ∷
    w.Foreach ∷ w.If ∷ w.In ∷ w.Int ∷ w.Internal ∷ w.New ∷ w.Null ∷ w.Override ∷ w.Private ∷ w.Protected ∷
    w.Public ∷ w.Return ∷ w.String ∷ w.Switch ∷ w.True ∷ w.Var ∷ w.Void ∷ w.While ∷ w.Task ∷ w.MarkupString ∷
    w.ImmutableList ∷ w.EventCallback ∷ w.RenderFragment ∷ w.ChangeEventArgs ∷ w.EventArgs ∷
    w.MouseEventArgs ∷ w.KeyboardEventArgs ∷ w.FocusEventArgs ∷ []

-- the word that is written so
unfoldable pub word_of : List ℕ → Option Word
word_of text = find (λ word. bytes_eq text (spelling word)) words
