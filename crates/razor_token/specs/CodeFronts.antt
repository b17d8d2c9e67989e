-- C# code at the front of a text.
use Rattle.std.specs.Prelude.{ℕ, ◌-◌, ◌==◌, Bool, true, false, not, ◌&&◌, ◌||◌, List, [], ◌∷◌, length, take, drop, codes, Option, Some, None, is_some, Ok, Err, if◌then◌else◌}
use Rattle.std.specs.List.{list_any, list_all}
use Rattle.cs_token.specs.declared.around.Around.{Around}
use Rattle.cs_token.specs.declared.characters.Class.TheVariants as class
use Rattle.cs_token.specs.declared.token.Sign.{Sign}
use Rattle.cs_token.specs.declared.token.Sign.TheVariants as s
use Rattle.cs_token.specs.declared.token.TokenKind.{TokenKind}
use Rattle.cs_token.specs.declared.token.TokenKind.TheVariants as t
use Rattle.cs_token.specs.Characters.{begins_with}
use Rattle.cs_token.specs.Reading.Fronts.{Read, front_at}
use Rattle.razor_token.specs.declared.context.Change.{Change}
use Rattle.razor_token.specs.declared.context.Context.TheVariants as x
use Rattle.razor_token.specs.declared.found.CodeFront.{CodeFront}
use Rattle.razor_token.specs.declared.found.Found.{Found}
use Rattle.razor_token.specs.declared.piece.PieceKind.{PieceKind}
use Rattle.razor_token.specs.declared.piece.PieceKind.TheVariants as k
use Rattle.razor_token.specs.declared.piece.Quote.{Quote}
use Rattle.razor_token.specs.declared.piece.Quote.TheVariants as q
use Rattle.razor_token.specs.Runs.{begins, is_bare}
use Rattle.razor_token.specs.Contexts.{stays, leaves, enters, becomes, becomes_both, with_sign}
use Rattle.razor_token.specs.Pieces.{piece}

-- the character of a quote
abbrev pub mark : Quote → ℕ
mark q.Double = 34
mark q.Single = 39

-- no quote stands in the text that ends the value round it
abbrev pub keeps_quote : Option Quote → List ℕ → Bool
keeps_quote None text = true
keeps_quote (Some quote) text = not (list_any (λ c. c == mark quote) text)

-- what C# finds there
abbrev pub front_of : List ℕ → Read → Option CodeFront
front_of text (Ok found) = Some (record { token = found.0; count = length text - length found.1 })
front_of text (Err wrong) = None

-- a token, white space or a comment, where this is open of an interpolated text
unfoldable pub code_front : Option Around → List ℕ → Option CodeFront
code_front around text = front_of text (front_at around text)

-- it, where it passes the test
abbrev pub where_it : (CodeFront → Bool) → Option CodeFront → Option CodeFront
where_it test None = None
where_it test (Some front) = if test front then Some front else None

-- the same, inside the value that this quote ends
abbrev pub code_in : Option Quote → Option Around → List ℕ → Option CodeFront
code_in quote around text = where_it (λ front. keeps_quote quote (take front.count text)) (code_front around text)

-- the piece lies in a value without quotes; a comment doesn't reach to the `>` of a tag
abbrev pub keeps_bare : List ℕ → CodeFront → Bool
keeps_bare text front =
    list_all is_bare (take front.count text) && (is_some front.token || not (begins (62 ∷ []) (drop front.count text)))

-- the sign of a token
abbrev pub sign_of : Option TokenKind → Option Sign
sign_of (Some (t.Sign sign)) = Some sign
sign_of _ = None

-- the piece of a token, or of white space or a comment
abbrev pub code_kind : Option TokenKind → PieceKind
code_kind (Some kind) = k.Code kind
code_kind None = k.Gap

-- a piece of code that changes this
abbrev pub code_piece : CodeFront → Change → Option Found
code_piece front change = piece (code_kind front.token) front.count (with_sign (sign_of front.token) change)

-- a bracket that opens
unfoldable pub opens : Sign → Bool
opens s.OpenRound = true
opens s.OpenSquare = true
opens s.OpenBrace = true
opens _ = false

-- a bracket that closes
unfoldable pub closes : Sign → Bool
closes s.CloseRound = true
closes s.CloseSquare = true
closes s.CloseBrace = true
closes _ = false

-- what a sign changes in brackets: one more is open, or one is closed
abbrev pub bracket_sign : Option Quote → Bool → Sign → Change
bracket_sign quote raw sign =
    if opens sign then enters (x.Bracket quote raw) else if closes sign then leaves else stays

-- the same for any token; inside an interpolated text brackets don't count
abbrev pub bracket_change : Option Quote → Bool → Option Around → Option Sign → Change
bracket_change quote raw None (Some sign) = bracket_sign quote raw sign
bracket_change quote raw _ _ = stays

-- a piece of raw code is literal text
abbrev pub bracket_kind : Bool → List ℕ → CodeFront → PieceKind
bracket_kind raw text front = if raw then k.Literal (take front.count text) else code_kind front.token

-- in brackets
abbrev pub bracket_piece : Option Quote → Bool → Option Around → List ℕ → Option CodeFront → Option Found
bracket_piece quote raw around text None = None
bracket_piece quote raw around text (Some front) =
    piece (bracket_kind raw text front) front.count (with_sign (sign_of front.token) (bracket_change quote raw around (sign_of front.token)))

unfoldable pub bracket_at : Option Quote → Bool → Option Around → List ℕ → Option Found
bracket_at quote raw around text = bracket_piece quote raw around text (code_in quote around text)

-- the bracket of `@(`
unfoldable pub opening_at : List ℕ → Option Found
opening_at text =
    if begins (codes "(") text then piece (k.Code (t.Sign s.OpenRound)) 1 (becomes (x.Bracket None false)) else None

-- a name, and no other token
abbrev pub name_piece : Change → Option CodeFront → Option Found
name_piece change None = None
name_piece change (Some front) = elim front.token [
  | None ↦ None
  | Some kind ↦ elim kind [ t.Name name ↦ piece (k.Code (t.Name name)) front.count change | _ ↦ None ]
]

-- a name behind an at sign or a dot
unfoldable pub name_at : Option Quote → List ℕ → Option Found
name_at quote text = name_piece (becomes (x.Chain quote)) (code_front None text)

-- what goes on with such a name: a dot before a letter, or a bracket; else the expression ends
unfoldable pub chain_at : Option Quote → List ℕ → Option Found
chain_at quote text =
    if begins (codes ".") text && begins_with class.Letter (drop 1 text) then piece (k.Code (t.Sign s.Dot)) 1 (becomes (x.Name quote))
    else if begins (codes "(") text then piece (k.Code (t.Sign s.OpenRound)) 1 (enters (x.Bracket quote false))
    else if begins (codes "[") text then piece (k.Code (t.Sign s.OpenSquare)) 1 (enters (x.Bracket quote false))
    else piece k.ExpressionEnd 0 leaves

-- the end of an expression or of `@code`
abbrev pub closing_at : Option Found
closing_at = piece k.ExpressionEnd 0 leaves

-- behind `@code`: white space and comments, and a brace
abbrev pub members_piece : Option CodeFront → Option Found
members_piece None = None
members_piece (Some front) = elim front.token [
  | None ↦ piece k.Gap front.count stays
  | Some kind ↦ elim kind [
    | t.Sign sign ↦ elim sign [
      | s.OpenBrace ↦ piece (k.Code (t.Sign s.OpenBrace)) front.count (becomes_both x.Closing (x.Bracket None false))
      | _ ↦ None
    ]
    | _ ↦ None
  ]
]

unfoldable pub members_at : List ℕ → Option Found
members_at text = members_piece (code_front None text)
