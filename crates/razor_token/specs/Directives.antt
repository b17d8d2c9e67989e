-- Directives at the front of a text.
use Rattle.std.specs.Prelude.{ℕ, ◌+◌, ◌==◌, Bool, ◌&&◌, ◌||◌, List, [], ◌∷◌, length, drop, codes, Option, None, if◌then◌else◌}
use Rattle.std.specs.Str.{bytes_eq}
use Rattle.cs_token.specs.declared.token.Sign.TheVariants as s
use Rattle.cs_token.specs.declared.token.TokenKind.TheVariants as t
use Rattle.razor_token.specs.declared.context.Context.TheVariants as x
use Rattle.razor_token.specs.declared.context.Wanted.{Wanted}
use Rattle.razor_token.specs.declared.context.Wanted.TheVariants as wanted
use Rattle.razor_token.specs.declared.found.Found.{Found}
use Rattle.razor_token.specs.declared.piece.PieceKind.TheVariants as k
use Rattle.razor_token.specs.declared.runs.RunKind.TheVariants as r
use Rattle.razor_token.specs.Runs.{run, begins}
use Rattle.razor_token.specs.Contexts.{stays, leaves, enters, becomes}
use Rattle.razor_token.specs.Pieces.{piece}
use Rattle.razor_token.specs.CodeFronts.{code_front, name_piece}

-- one line feed, if it stands there
abbrev pub feed_count : List ℕ → ℕ
feed_count text = if begins (10 ∷ []) text then 1 else 0

-- so many characters and the blanks behind them
abbrev pub with_blanks : ℕ → List ℕ → ℕ
with_blanks count text = count + run r.Blank (drop count text)

-- behind `@page` or the like, of so many characters: blanks and a name
abbrev pub named_directive : ℕ → List ℕ → Option Found
named_directive count text =
    if run r.Blank (drop count text) == 0 then None
    else piece k.Directive (with_blanks count text) (enters (x.Directive wanted.Name))

-- behind `@page`, so many characters with the quote: a text to the next quote
abbrev pub page_text : ℕ → List ℕ → Option Found
page_text count text =
    let length_said = run r.PageText (drop count text) in
    if begins (34 ∷ []) (drop (count + length_said) text) then piece k.Directive (count + length_said + 1) (enters (x.Directive wanted.End))
    else None

-- behind `@page`: blanks and a text in double quotes
abbrev pub page_directive : List ℕ → Option Found
page_directive text =
    if begins (34 ∷ []) (drop (with_blanks 5 text) text) then page_text (with_blanks 5 text + 1) text else None

-- `@implements`, blanks and `IDisposable`, with a line feed right behind it
abbrev pub implements_count : ℕ → List ℕ → Option Found
implements_count count text =
    if begins (codes "IDisposable") (drop count text) && (run r.Word (drop count text) == 11)
    then piece k.Implements (count + 11 + feed_count (drop (count + 11) text)) stays
    else None

abbrev pub implements_directive : List ℕ → Option Found
implements_directive text =
    if run r.Blank (drop 11 text) == 0 then None else implements_count (with_blanks 11 text) text

-- the words of directives without meaning here
abbrev pub is_directive : List ℕ → Bool
is_directive word = bytes_eq word (codes "using") || bytes_eq word (codes "namespace") || bytes_eq word (codes "rendermode")

-- the end of a directive's line: blanks, and a line feed or the end of the text
abbrev pub line_end : List ℕ → Option Found
line_end text =
    let rest = drop (run r.Blank text) text in
    if (length rest == 0) || begins (10 ∷ []) rest then piece k.DirectiveEnd (run r.Blank text + feed_count rest) leaves else None

-- in the line of a directive: a name, a dot or the line's end, or the line's end
unfoldable pub directive_at : Wanted → List ℕ → Option Found
directive_at wanted.Name text = name_piece (becomes (x.Directive wanted.Dot)) (code_front None text)
directive_at wanted.Dot text =
    if begins (codes ".") text then piece (k.Code (t.Sign s.Dot)) 1 (becomes (x.Directive wanted.Name)) else line_end text
directive_at wanted.End text = line_end text
