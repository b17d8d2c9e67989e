-- Where the pieces of a text stand, and what a piece is there. Comments, and white space between tokens, are left out.
use Rattle.std.specs.Prelude.{◌≡◌, ℕ, Bool, true, false, List, [], ◌∷◌, Option, Some, None}
use Rattle.std.specs.List.{list_all}
use Rattle.cs_token.specs.declared.token.TokenKind.TheVariants as t
use Rattle.cs_token.specs.declared.token.Sign.TheVariants as s
use Rattle.razor_token.specs.declared.context.Holds.{Holds}
use Rattle.razor_token.specs.declared.context.Holds.TheVariants as h
use Rattle.razor_token.specs.declared.piece.Piece.{Piece}
use Rattle.razor_token.specs.declared.piece.PieceKind.{PieceKind}
use Rattle.razor_token.specs.declared.piece.PieceKind.TheVariants as k
use Rattle.razor_token.specs.declared.piece.Quote.{Quote}
use Rattle.razor_token.specs.Runs.{is_bare}
use Rattle.razor_token.specs.Tags.{is_component, is_void, held_by}
use Rattle.razor_token.specs.ValueFronts.{quoted_run}
use Rattle.razor_ast.specs.Attributes.{TextValue}
use Rattle.printed_pieces.specs.Places.{is_said}
use Rattle.printed_pieces.specs.Printable.{IsValueText}
use Rattle.printed_pieces.specs.PrintableNodes.{IsContentText}
use Rattle.printed_pieces.specs.Sound.{IsSound}
use Rattle.printed_pieces.specs.Written.{is_part}

-- In content or code; in an end tag; in the start tag of a component or not, whose element has no content or may have some; there
-- behind the name of an attribute; or in the value of an attribute that can hold this, in these quotes or none.
pub data Where : Type 0 where
  content : Where
  end_tag : Where
  tag : (component void : Bool) → Where
  named : (component void : Bool) (name : List ℕ) → Where
  value : (component void : Bool) (holds : Holds) (quote : Option Quote) → Where

-- behind the name of an attribute
abbrev pub behind_name : List ℕ → Where → Where
behind_name x (tag component void) = named component void x
behind_name x (named component void name) = named component void x
behind_name x place = place

-- behind white space of a tag
abbrev pub behind_space : Where → Where
behind_space (named component void name) = tag component void
behind_space place = place

-- behind the start of a value
abbrev pub behind_start : Option Quote → Where → Where
behind_start quote (named component void name) = value component void (held_by component name) quote
behind_start quote place = place

-- behind the end of a value
abbrev pub behind_end : Where → Where
behind_end (value component void holds quote) = tag component void
behind_end place = place

-- behind a piece
abbrev pub behind : PieceKind → Where → Where
behind (k.TagStart name) place = tag (is_component name) (is_void name)
behind (k.EndTagStart name) place = end_tag
behind k.ContentStart place = content
behind k.EmptyTagEnd place = content
behind k.EndTagEnd place = content
behind k.Space place = behind_space place
behind (k.AttributeName x) place = behind_name x place
behind (k.ValueStart quote) place = behind_start quote place
behind k.ValueEnd place = behind_end place
behind _ place = place

-- a character of literal text in these quotes, or without quotes
abbrev pub is_within : Option Quote → ℕ → Bool
is_within (Some quote) c = is_said (quoted_run quote) c
is_within None c = is_bare c

-- literal text of a value between expressions
pub data IsWithin (quote : Option Quote) : List ℕ → Type 0 where
  within : (c : ℕ) (text : List ℕ) → list_all (is_within quote) (c ∷ text) ≡ true → IsWithin quote (c ∷ text)

-- literal text in a value that can hold this
abbrev pub FitsValue : Holds → Option Quote → List ℕ → Type 0
FitsValue h.Mixed quote x = IsWithin quote x
FitsValue _ quote x = Unit {0}

-- literal text there
abbrev pub FitsText : Where → List ℕ → Type 0
FitsText content x = IsContentText x
FitsText (value component void holds quote) x = FitsValue holds quote x
FitsText _ x = Unit {0}

-- content may follow there
abbrev pub FitsStart : Where → Type 0
FitsStart (tag component void) = void ≡ false
FitsStart (named component void name) = void ≡ false
FitsStart _ = Unit {0}

-- a piece may stand there
abbrev pub Fits : Where → PieceKind → Type 0
Fits place (k.Literal x) = FitsText place x
Fits place k.ContentStart = FitsStart place
Fits place _ = Unit {0}

-- a value of a parameter that is literal text alone is the text of a parameter
abbrev pub Supplies : Holds → List Piece → Type 0
Supplies h.Supplied ps = (rest : List Piece) (text : List ℕ) → TextValue ps rest text → IsValueText text
Supplies _ ps = Unit {0}

-- where a value begins there, these pieces of it may follow
abbrev pub BeginsWell : Where → List Piece → Type 0
BeginsWell (named component void name) ps = Supplies (held_by component name) ps
BeginsWell _ ps = Unit {0}

-- these pieces may stand behind the piece there
abbrev pub Leads : PieceKind → Where → List Piece → Type 0
Leads (k.ValueStart quote) place ps = BeginsWell place ps
Leads _ place ps = Unit {0}

-- literal text of an interpolated one
abbrev pub is_text_part : PieceKind → Bool
is_text_part (k.Code kind) = is_part kind
is_text_part _ = false

-- it stands first
abbrev pub begins_text_part : List Piece → Bool
begins_text_part [] = false
begins_text_part (p ∷ ps) = is_text_part p.kind

-- literal text of an interpolated one stands right behind neither of these: such a text, and a brace that opens
abbrev pub is_no_lead : PieceKind → Bool
is_no_lead (k.Code (t.Part x)) = true
is_no_lead (k.Code (t.Sign s.OpenBrace)) = true
is_no_lead _ = false

-- each piece is one that may stand there, before those behind it
pub data Stands : Where → List Piece → Type 0 where
  none : (place : Where) → Stands place []
  one_more : (place : Where) (p : Piece) (ps : List Piece) → IsSound p.kind → Fits place p.kind → Leads p.kind place ps
      → (is_no_lead p.kind ≡ true → begins_text_part ps ≡ false) → Stands (behind p.kind place) ps → Stands place (p ∷ ps)
