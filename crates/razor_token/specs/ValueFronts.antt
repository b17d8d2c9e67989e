-- What stands at the front of a value of an attribute.
use Rattle.std.specs.Prelude.{ℕ, ◌==◌, Bool, true, false, not, ◌&&◌, List, [], ◌∷◌, take, drop, codes, Option, Some, None, is_some, if◌then◌else◌}
use Rattle.cs_token.specs.declared.around.Around.{Around}
use Rattle.cs_token.specs.declared.characters.Class.TheVariants as class
use Rattle.cs_token.specs.Characters.{begins_with}
use Rattle.razor_token.specs.declared.context.Context.TheVariants as x
use Rattle.razor_token.specs.declared.context.Held.{Held}
use Rattle.razor_token.specs.declared.context.Held.TheVariants as held
use Rattle.razor_token.specs.declared.context.Holds.{Holds}
use Rattle.razor_token.specs.declared.context.Holds.TheVariants as h
use Rattle.razor_token.specs.declared.context.Change.{Change}
use Rattle.razor_token.specs.declared.found.CodeFront.{CodeFront}
use Rattle.razor_token.specs.declared.found.Found.{Found}
use Rattle.razor_token.specs.declared.piece.PieceKind.TheVariants as k
use Rattle.razor_token.specs.declared.piece.Quote.{Quote}
use Rattle.razor_token.specs.declared.piece.Quote.TheVariants as q
use Rattle.razor_token.specs.declared.runs.RunKind.{RunKind}
use Rattle.razor_token.specs.declared.runs.RunKind.TheVariants as r
use Rattle.razor_token.specs.Runs.{run, bare_run, begins}
use Rattle.razor_token.specs.Contexts.{stays, leaves, enters, enters_both, becomes, becomes_both}
use Rattle.razor_token.specs.Pieces.{piece, literal}
use Rattle.razor_token.specs.CodeFronts.{mark, code_front, code_in, where_it, keeps_bare, code_piece}
use Rattle.razor_token.specs.ContentFronts.{is_within_word}

-- the characters of literal text in these quotes
abbrev pub quoted_run : Quote → RunKind
quoted_run q.Double = r.DoubleQuoted
quoted_run q.Single = r.SingleQuoted

-- what a quoted value is, by what its attribute can have and whether it begins with an at sign
abbrev pub quoted_change : Holds → Quote → Bool → Change
quoted_change h.Mixed quote at = becomes (x.Value held.Mixed (Some quote))
quoted_change h.Text quote at = becomes (x.Value held.Text (Some quote))
quoted_change h.Code quote at = becomes (x.Value held.Code (Some quote))
quoted_change h.Supplied quote false = becomes (x.Value held.Text (Some quote))
quoted_change h.Event quote false = becomes (x.Value held.Code (Some quote))
quoted_change _ quote true = becomes_both (x.Value held.Code (Some quote)) x.CodeLead

-- the same without quotes
abbrev pub bare_change : Holds → Bool → Change
bare_change h.Code at = becomes (x.Value held.Code None)
bare_change h.Event false = becomes (x.Value held.Code None)
bare_change h.Text at = becomes (x.Value held.Text None)
bare_change _ false = becomes (x.Value held.Text None)
bare_change _ true = becomes_both (x.Value held.Ended None) x.ShownLead

-- `=` and this quote behind it
abbrev pub quoted_start : Holds → Quote → List ℕ → Option Found
quoted_start holds quote text = piece (k.ValueStart (Some quote)) 2 (quoted_change holds quote (begins (codes "@") (drop 2 text)))

-- `=` and the quote behind it, or the value
unfoldable pub named_at : Holds → List ℕ → Option Found
named_at holds text =
    if begins (61 ∷ 34 ∷ []) text then quoted_start holds q.Double text
    else if begins (61 ∷ 39 ∷ []) text then quoted_start holds q.Single text
    else if begins (codes "=") text then piece (k.ValueStart None) 1 (bare_change holds (begins (codes "@") (drop 1 text)))
    else None

-- an at sign before the one expression of a quoted value; brackets right behind it hide quotes
unfoldable pub code_lead_at : List ℕ → Option Found
code_lead_at text =
    if begins (codes "@(") text then piece k.At 1 (becomes x.Opening)
    else if begins (codes "@") text then piece k.At 1 leaves
    else None

-- an at sign before the content expression of a value without quotes
unfoldable pub shown_lead_at : List ℕ → Option Found
shown_lead_at text =
    if begins (codes "@(") text then piece k.At 1 (becomes_both x.Closing x.Opening)
    else if begins (codes "@") text && begins_with class.Letter (drop 1 text) then piece k.At 1 (becomes (x.Name None))
    else None

-- an expression in a quoted value
abbrev pub shown_in : Quote → List ℕ → Option Found
shown_in quote text =
    if begins (codes "(") (drop 1 text) then piece k.At 1 (enters_both x.Closing x.Opening)
    else if begins_with class.Letter (drop 1 text) then piece k.At 1 (enters (x.Name (Some quote)))
    else None

-- literal text mixed with content expressions
unfoldable pub mixed_at : Quote → Option ℕ → List ℕ → Option Found
mixed_at quote last text =
    if begins (mark quote ∷ []) text then piece k.ValueEnd 1 leaves
    else if begins (codes "@@") text then piece (k.Literal (codes "@")) 2 stays
    else if begins (codes "@") text then (if is_within_word last (drop 1 text) then piece (k.Literal (codes "@")) 1 stays else shown_in quote text)
    else literal (run (quoted_run quote) text) text

-- characters as they are; a quote in the brackets of `@(..)` is one of them
unfoldable pub text_at : Quote → List ℕ → Option Found
text_at quote text =
    if begins (mark quote ∷ []) text then piece k.ValueEnd 1 leaves
    else if begins (codes "@@") text then piece (k.Literal (codes "@@")) 2 stays
    else if begins (codes "@(") text then piece (k.Literal (codes "@(")) 2 (enters (x.Bracket None true))
    else if begins (codes "@") text then piece (k.Literal (codes "@")) 1 stays
    else literal (run (quoted_run quote) text) text

-- the same without quotes
unfoldable pub bare_text_at : List ℕ → Option Found
bare_text_at text =
    let count = bare_run text in
    if count == 0 then None else piece (k.Literal (take count text)) count (becomes (x.Value held.Ended None))

-- a piece of code that changes nothing else
abbrev pub plain_code : Option CodeFront → Option Found
plain_code None = None
plain_code (Some front) = code_piece front stays

-- code in a quoted value, where this is open of an interpolated text
unfoldable pub code_value_at : Quote → Option Around → List ℕ → Option Found
code_value_at quote around text =
    if not (is_some around) && begins (mark quote ∷ []) text then piece k.ValueEnd 1 leaves
    else plain_code (code_in (Some quote) around text)

-- code in a value without quotes, where no interpolated text can stand
unfoldable pub bare_code_at : Option Around → List ℕ → Option Found
bare_code_at around text =
    if not (is_some around) && (bare_run text == 0) then piece k.ValueEnd 0 leaves
    else plain_code (where_it (keeps_bare text) (code_front around text))

-- in a value
abbrev pub value_at : Held → Option Quote → Option Around → Option ℕ → List ℕ → Option Found
value_at held.Mixed (Some quote) around last text = mixed_at quote last text
value_at held.Mixed None around last text = None
value_at held.Text (Some quote) around last text = text_at quote text
value_at held.Text None around last text = bare_text_at text
value_at held.Code (Some quote) around last text = code_value_at quote around text
value_at held.Code None around last text = bare_code_at around text
value_at held.Ended quote around last text = piece k.ValueEnd 0 leaves
