-- Which pieces a text is cut into.
use Rattle.std.specs.Prelude.{◌≡◌, ℕ, ◌+◌, Bool, true, false, not, ◌&&◌, ◌==◌, List, [], ◌∷◌, ◌++◌, length, take, drop, reverse, Option, Some, None, if◌then◌else◌}
use Rattle.std.specs.List.{list_any}
use Rattle.text_core.specs.declared.place.Place.{Place}
use Rattle.cs_token.specs.declared.around.Around.{Around}
use Rattle.cs_token.specs.declared.around.Opened.{Opened}
use Rattle.cs_token.specs.declared.token.Sign.{Sign}
use Rattle.cs_token.specs.Places.{place_after}
use Rattle.cs_token.specs.Spelling as code
use Rattle.cs_token.specs.Walks.{Walk}
use Rattle.razor_token.specs.declared.context.Context.{Context}
use Rattle.razor_token.specs.declared.context.Context.TheVariants as x
use Rattle.razor_token.specs.declared.found.Found.{Found}
use Rattle.razor_token.specs.declared.piece.Piece.{Piece}
use Rattle.razor_token.specs.declared.piece.PieceKind.{PieceKind}
use Rattle.razor_token.specs.declared.piece.PieceKind.TheVariants as k
use Rattle.razor_token.specs.Contexts.{innermost, changed}
use Rattle.razor_token.specs.CodeFronts.{opening_at, name_at, chain_at, closing_at, members_at, bracket_at}
use Rattle.razor_token.specs.Directives.{directive_at}
use Rattle.razor_token.specs.ContentFronts.{content_at, line_at}
use Rattle.razor_token.specs.ValueFronts.{named_at, value_at, code_lead_at, shown_lead_at}
use Rattle.razor_token.specs.TagFronts.{start_tag_at, end_tag_at}
use Rattle.razor_token.specs.BlockFronts.{head_at, block_at}

-- A moment: what is open, the innermost first; whether a line of `@:` is open; what is open of an interpolated text;
-- the characters so far, and those from here on.
pub record Moment : Type 0 where
  pub contexts : List Context
  pub line : Bool
  pub opened : List Opened
  pub before : List ℕ
  pub rest : List ℕ

-- the first of these characters, if there is one
abbrev pub first_of : List ℕ → Option ℕ
first_of [] = None
first_of (c ∷ text) = Some c

-- the last of these characters, if there is one
abbrev pub last_of : List ℕ → Option ℕ
last_of text = first_of (reverse text)

-- what stands at the front of a text in a context, where a line is open or not and this is open of an interpolated text, behind this character
abbrev pub found_in : Option Context → Bool → Option Around → Option ℕ → List ℕ → Option Found
found_in None line around last text = content_at None last text
found_in (Some x.Element) line around last text = content_at (Some x.Element) last text
found_in (Some x.Line) line around last text = line_at last text
found_in (Some (x.StartTag component void)) line around last text = start_tag_at component void text
found_in (Some x.EndTag) line around last text = end_tag_at text
found_in (Some (x.Named holds)) line around last text = named_at holds text
found_in (Some (x.Value held quote)) line around last text = value_at held quote around last text
found_in (Some x.CodeLead) line around last text = code_lead_at text
found_in (Some x.ShownLead) line around last text = shown_lead_at text
found_in (Some x.Opening) line around last text = opening_at text
found_in (Some (x.Name quote)) line around last text = name_at quote text
found_in (Some (x.Chain quote)) line around last text = chain_at quote text
found_in (Some x.Closing) line around last text = closing_at
found_in (Some x.Members) line around last text = members_at text
found_in (Some (x.Bracket quote raw)) line around last text = bracket_at quote raw around text
found_in (Some (x.Head with_else)) line around last text = head_at with_else around text
found_in (Some (x.Block point with_else)) line around last text = block_at line point with_else around text
found_in (Some (x.Directive wanted)) line around last text = directive_at wanted text

-- no piece in a line goes past the line's end
abbrev pub keeps_line : Bool → List ℕ → Bool
keeps_line line text = not (line && list_any (λ c. c == 10) text)

-- a line is open behind the piece
abbrev pub line_behind : PieceKind → Bool → Bool
line_behind k.LineStart line = true
line_behind k.LineEnd line = false
line_behind _ line = line

-- what is open of an interpolated text behind a sign of code at this place
abbrev pub opened_behind : Option Sign → Place → List Opened → List Opened
opened_behind (Some sign) place opened = code.behind_sign sign place opened
opened_behind None place opened = opened

-- the piece that was found
abbrev pub piece_of : Moment → Found → Piece
piece_of m found = record {
  kind = found.kind;
  start = length m.before;
  end = length m.before + length (take found.count m.rest);
  place = place_after m.before;
}

-- the moment behind it
abbrev pub moment_behind : Moment → Found → Moment
moment_behind m found = record {
  contexts = changed found.change m.contexts;
  line = line_behind found.kind m.line;
  opened = opened_behind found.change.sign (place_after m.before) m.opened;
  before = m.before ++ take found.count m.rest;
  rest = drop found.count m.rest;
}

-- what stands at the front of what is left
abbrev pub found_at : Moment → Option Found
found_at m = found_in (innermost m.contexts) m.line (code.innermost m.opened) (last_of m.before) m.rest

-- the step that what was found makes
abbrev pub stepped : Moment → Option Found → Option (Piece × Moment)
stepped m None = None
stepped m (Some found) = if keeps_line m.line (take found.count m.rest) then Some (piece_of m found, moment_behind m found) else None

-- from a moment, the piece that stands first, and the moment behind it
unfoldable pub next : Moment → Option (Piece × Moment)
next m = stepped m (found_at m)

-- from a moment, this piece stands first, and leaves that moment behind it
abbrev pub Step : Moment → Piece → Moment → Type 0
Step m piece n = next m ≡ Some (piece, n)

-- the moment at which a text begins
abbrev pub beginning : List ℕ → Moment
beginning text = record { contexts = []; line = false; opened = []; before = []; rest = text }

-- the moment at which it ends, with nothing open
abbrev pub ending : List ℕ → Moment
ending text = record { contexts = []; line = false; opened = []; before = text; rest = [] }

-- The text is cut into these pieces, one after another.
abbrev pub Cuts : List ℕ → List Piece → Type 0
Cuts text pieces = Walk Step (beginning text) pieces (ending text)
