-- How words are written, and which word a text is.
use Rattle.std.proofs.Common.{◌≡◌, ◌≢◌, ℕ, List, Some, None, true, refl, ap, sym, ◌∙◌}
use Rattle.std.specs.declared.option.Option.{Option}
use Rattle.std.specs.Str.{bytes_eq}
use Rattle.std.specs.Cmp.Lexicographic.{bytes_decides}
use Rattle.text_core.specs.Ascii.{is_ascii}
use Rattle.cs_token.specs.declared.characters.Class.TheVariants as class
use Rattle.cs_token.specs.declared.token.Word.{Word}
use Rattle.cs_token.specs.declared.token.Word.TheVariants as w
use Rattle.cs_token.specs.Characters.{AreAll, begins_with, IsName}
use Rattle.cs_token.specs.Words.{spelling}
use Rattle.cs_token.specs.Reading.Words.{words, word_of}
use Rattle.cs_token.proofs.FindLemmas.{find-holds}
use Rattle.cs_token.proofs.OptionLemmas.{some_none}

-- of ASCII characters
pub ascii_spelling : (word : Word) → is_ascii (spelling word) ≡ true
unfolding spelling
ascii_spelling w.Async = refl
ascii_spelling w.Await = refl
ascii_spelling w.Bool = refl
ascii_spelling w.Break = refl
ascii_spelling w.Case = refl
ascii_spelling w.Continue = refl
ascii_spelling w.Default = refl
ascii_spelling w.Else = refl
ascii_spelling w.False = refl
ascii_spelling w.For = refl
ascii_spelling w.Foreach = refl
ascii_spelling w.If = refl
ascii_spelling w.In = refl
ascii_spelling w.Int = refl
ascii_spelling w.Internal = refl
ascii_spelling w.New = refl
ascii_spelling w.Null = refl
ascii_spelling w.Override = refl
ascii_spelling w.Private = refl
ascii_spelling w.Protected = refl
ascii_spelling w.Public = refl
ascii_spelling w.Return = refl
ascii_spelling w.String = refl
ascii_spelling w.Switch = refl
ascii_spelling w.True = refl
ascii_spelling w.Var = refl
ascii_spelling w.Void = refl
ascii_spelling w.While = refl
ascii_spelling w.Task = refl
ascii_spelling w.MarkupString = refl
ascii_spelling w.ImmutableList = refl
ascii_spelling w.EventCallback = refl
ascii_spelling w.RenderFragment = refl
ascii_spelling w.ChangeEventArgs = refl
ascii_spelling w.EventArgs = refl
ascii_spelling w.MouseEventArgs = refl
ascii_spelling w.KeyboardEventArgs = refl
ascii_spelling w.FocusEventArgs = refl

-- of letters

begins_spelling : (word : Word) → begins_with class.Letter (spelling word) ≡ true
unfolding spelling
begins_spelling w.Async = refl
begins_spelling w.Await = refl
begins_spelling w.Bool = refl
begins_spelling w.Break = refl
begins_spelling w.Case = refl
begins_spelling w.Continue = refl
begins_spelling w.Default = refl
begins_spelling w.Else = refl
begins_spelling w.False = refl
begins_spelling w.For = refl
begins_spelling w.Foreach = refl
begins_spelling w.If = refl
begins_spelling w.In = refl
begins_spelling w.Int = refl
begins_spelling w.Internal = refl
begins_spelling w.New = refl
begins_spelling w.Null = refl
begins_spelling w.Override = refl
begins_spelling w.Private = refl
begins_spelling w.Protected = refl
begins_spelling w.Public = refl
begins_spelling w.Return = refl
begins_spelling w.String = refl
begins_spelling w.Switch = refl
begins_spelling w.True = refl
begins_spelling w.Var = refl
begins_spelling w.Void = refl
begins_spelling w.While = refl
begins_spelling w.Task = refl
begins_spelling w.MarkupString = refl
begins_spelling w.ImmutableList = refl
begins_spelling w.EventCallback = refl
begins_spelling w.RenderFragment = refl
begins_spelling w.ChangeEventArgs = refl
begins_spelling w.EventArgs = refl
begins_spelling w.MouseEventArgs = refl
begins_spelling w.KeyboardEventArgs = refl
begins_spelling w.FocusEventArgs = refl

all_spelling : (word : Word) → AreAll class.Word (spelling word)
unfolding spelling
all_spelling w.Async = refl
all_spelling w.Await = refl
all_spelling w.Bool = refl
all_spelling w.Break = refl
all_spelling w.Case = refl
all_spelling w.Continue = refl
all_spelling w.Default = refl
all_spelling w.Else = refl
all_spelling w.False = refl
all_spelling w.For = refl
all_spelling w.Foreach = refl
all_spelling w.If = refl
all_spelling w.In = refl
all_spelling w.Int = refl
all_spelling w.Internal = refl
all_spelling w.New = refl
all_spelling w.Null = refl
all_spelling w.Override = refl
all_spelling w.Private = refl
all_spelling w.Protected = refl
all_spelling w.Public = refl
all_spelling w.Return = refl
all_spelling w.String = refl
all_spelling w.Switch = refl
all_spelling w.True = refl
all_spelling w.Var = refl
all_spelling w.Void = refl
all_spelling w.While = refl
all_spelling w.Task = refl
all_spelling w.MarkupString = refl
all_spelling w.ImmutableList = refl
all_spelling w.EventCallback = refl
all_spelling w.RenderFragment = refl
all_spelling w.ChangeEventArgs = refl
all_spelling w.EventArgs = refl
all_spelling w.MouseEventArgs = refl
all_spelling w.KeyboardEventArgs = refl
all_spelling w.FocusEventArgs = refl

pub name_spelling : (word : Word) → IsName (spelling word)
name_spelling word = record { begins = begins_spelling word; all = all_spelling word }

-- which word a text is

pub word_of-spelling : (word : Word) → word_of (spelling word) ≡ Some word
unfolding spelling words word_of
word_of-spelling w.Async = refl
word_of-spelling w.Await = refl
word_of-spelling w.Bool = refl
word_of-spelling w.Break = refl
word_of-spelling w.Case = refl
word_of-spelling w.Continue = refl
word_of-spelling w.Default = refl
word_of-spelling w.Else = refl
word_of-spelling w.False = refl
word_of-spelling w.For = refl
word_of-spelling w.Foreach = refl
word_of-spelling w.If = refl
word_of-spelling w.In = refl
word_of-spelling w.Int = refl
word_of-spelling w.Internal = refl
word_of-spelling w.New = refl
word_of-spelling w.Null = refl
word_of-spelling w.Override = refl
word_of-spelling w.Private = refl
word_of-spelling w.Protected = refl
word_of-spelling w.Public = refl
word_of-spelling w.Return = refl
word_of-spelling w.String = refl
word_of-spelling w.Switch = refl
word_of-spelling w.True = refl
word_of-spelling w.Var = refl
word_of-spelling w.Void = refl
word_of-spelling w.While = refl
word_of-spelling w.Task = refl
word_of-spelling w.MarkupString = refl
word_of-spelling w.ImmutableList = refl
word_of-spelling w.EventCallback = refl
word_of-spelling w.RenderFragment = refl
word_of-spelling w.ChangeEventArgs = refl
word_of-spelling w.EventArgs = refl
word_of-spelling w.MouseEventArgs = refl
word_of-spelling w.KeyboardEventArgs = refl
word_of-spelling w.FocusEventArgs = refl

pub word_of-some : (text : List ℕ) (word : Word) → word_of text ≡ Some word → text ≡ spelling word
unfolding word_of
word_of-some text word e = (bytes_decides text (spelling word)).0 (find-holds (λ (w : Word). bytes_eq text (spelling w)) words word e)

pub word_of-none : (text : List ℕ) → word_of text ≡ None → (word : Word) → text ≢ spelling word
word_of-none text none word same = some_none word (sym (ap word_of same ∙ word_of-spelling word) ∙ none)

no_word : (text : List ℕ) (o : Option Word) → word_of text ≡ o → ((word : Word) → text ≢ spelling word) → o ≡ None
no_word text None e none = refl
no_word text (Some word) e none = absurd (none word (word_of-some text word e))

pub none-word_of : (text : List ℕ) → ((word : Word) → text ≢ spelling word) → word_of text ≡ None
none-word_of text none = no_word text (word_of text) refl none
