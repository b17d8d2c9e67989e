-- How a cutter goes through a text. Nothing here is promised by `pieces`.
use Rattle.std.specs.Prelude.{◌≡◌, ℕ, ◌+◌, ◌*◌, ◌-◌, ◌<◌, ◌≤◌, false, List, [], length, take, drop, reverse, Option, Some, None}
use Rattle.text_core.specs.declared.place.Place.{Place}
use Rattle.cs_token.specs.Places.{behind, first_place, place_after}
use Rattle.razor_token.specs.declared.cutting.Cutter.{Cutter}
use Rattle.razor_token.specs.declared.found.Found.{Found}
use Rattle.razor_token.specs.declared.piece.Piece.{Piece}
use Rattle.razor_token.specs.Contexts.{changed}
use Rattle.razor_token.specs.Cutting.{Moment, next, line_behind, opened_behind}

-- its place is that of the characters behind it, and fits its numbers
pub record IsPlaced (at : ℕ) (place : Place) : Type 0 where
  pub column : 1 ≤ place.column
  pub bound : place.line + place.column ≤ at + 2

-- where a cutter is in a text
pub record IsWhere (text : List ℕ) (cutter : Cutter) : Type 0 where
  pub within : cutter.at ≤ length text
  pub fits : IsPlaced cutter.at cutter.place
  pub here : cutter.place ≡ place_after (take cutter.at text)

-- the moment that it stands for
abbrev pub moment_of : List ℕ → Cutter → Moment
moment_of text cutter = record {
  contexts = reverse cutter.contexts.items;
  line = cutter.line;
  opened = reverse cutter.opened.items;
  before = take cutter.at text;
  rest = drop cutter.at text;
}

-- how far it is from the end
abbrev pub weight : List ℕ → Cutter → ℕ
weight text cutter = 3 * (length text - cutter.at) + length cutter.contexts.items

-- nothing was read yet
pub record IsFirst (cutter : Cutter) : Type 0 where
  pub contexts : cutter.contexts.items ≡ []
  pub line : cutter.line ≡ false
  pub opened : cutter.opened.items ≡ []
  pub at : cutter.at ≡ 0
  pub place : cutter.place ≡ first_place
  pub fits : IsPlaced cutter.at cutter.place

-- the piece that was found, of these characters, is taken
pub record Taken (old : Cutter) (found : Found) (here : List ℕ) (new : Cutter) (piece : Piece) : Type 0 where
  pub contexts : reverse new.contexts.items ≡ changed found.change (reverse old.contexts.items)
  pub line : new.line ≡ line_behind found.kind old.line
  pub opened : reverse new.opened.items ≡ opened_behind found.change.sign old.place (reverse old.opened.items)
  pub at : new.at ≡ old.at + length here
  pub place : new.place ≡ behind old.place here
  pub fits : IsPlaced new.at new.place
  pub made : piece ≡ record { kind = found.kind; start = old.at; end = new.at; place = old.place }

-- a step was made, and the cutter is nearer to the end
pub record Advances (text : List ℕ) (old : Cutter) (piece : Piece) (new : Cutter) : Type 0 where
  pub step : next (moment_of text old) ≡ Some (piece, moment_of text new)
  pub there : IsWhere text new
  pub nearer : weight text new < weight text old

-- what a step comes to
abbrev pub Stepped : List ℕ → Cutter → Option Piece → Cutter → Type 0
Stepped text old (Some piece) new = Advances text old piece new
Stepped text old None new = (next (moment_of text old) ≡ None) × (new ≡ old)
