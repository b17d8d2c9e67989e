-- Which component a file of the first-click form spells.
use Rattle.std.specs.Prelude.{◌≡◌, ℕ, ◌≤◌, Bool, true, false, List, Some, length, count_by}
use Rattle.first_click.specs.declared.characters.Class.TheVariants as class
use Rattle.first_click.specs.declared.component.Component.{Component}
use Rattle.first_click.specs.declared.pieces.PieceKind.TheVariants.{Open, Close, Literal, Shown}
use Rattle.first_click.specs.Characters.{AreAll}
use Rattle.first_click.specs.Code.{Closes}
use Rattle.first_click.specs.Content.{SpellsTree}
use Rattle.first_click.specs.FileName.{NamesComponent}
use Rattle.first_click.specs.Handlers.{parts_behind, handlers_of}
use Rattle.first_click.specs.Pieces.{Piece, Moment, Stands}
use Rattle.first_click.specs.Walks.{Walk}

-- a start tag, a text or a shown field
abbrev pub counts : Piece → Bool
counts (Open, name, method) = true
counts (Close, name, method) = false
counts (Literal, text, method) = true
counts (Shown, name, method) = true

-- a file of this path and text spells the component: it has a component's name and at most 65,536 plain
-- characters; its content is laid out in pieces, of which at most 1,000 are elements and texts; behind
-- them the file ends or its code declares the fields and defines the methods; the methods that pieces name are the
-- handlers; and over these fields the pieces spell the items
pub record Spells (path text : List ℕ) (component : Component) : Type 0 where
  pub named : NamesComponent path
  pub short : length text ≤ 65536
  pub plain : AreAll class.Plain text
  pub pieces : List Piece
  pub end : Moment
  pub laid : Walk Stands (false, text) pieces end
  pub few : count_by counts pieces ≤ 1000
  pub closes : Closes end component.fields component.methods
  pub handled : handlers_of component.methods pieces ≡ Some component.handlers
  pub tree : SpellsTree component.fields (parts_behind 0 pieces) component.items
