-- What is known of the pieces of a text once they are cut and measured.
use Rattle.std.specs.Prelude.{◌≡◌, ℕ, List, [], ◌∷◌, Some, None, Result, Ok, Err}
use Rattle.std.specs.Global.{Vec}
use Rattle.text_core.specs.declared.place.Place.{Place}
use Rattle.razor_token.specs.Answers.{IsPlaceIn, IsUncut}
use Rattle.razor_token.specs.Cutting.{Cuts}
use Rattle.razor_token.specs.declared.piece.Piece.{Piece}
use Rattle.razor_ast.specs.declared.component.Component.{Component}
use Rattle.razor_ast.specs.FileTexts.{stem}
use Rattle.razor_ast.specs.Nesting.{too_deep, open_at}
use Rattle.razor_ast.specs.Pieces.{counted}
use Rattle.razor_reader.specs.declared.fault.ReadFault.{ReadFault}
use Rattle.razor_reader.specs.declared.fault.ReadFault.TheVariants as f
use Rattle.razor_reader.specs.declared.whole.Parts.{Parts}
use Rattle.razor_reader.specs.Answers.{NestsTooDeep}
use Rattle.razor_reader.specs.WholeReading.{parts}

-- these are the pieces of the text that count, and the pieces nest nowhere too deeply
pub record Kept (text : List ℕ) (kept : List Piece) : Type 0 where
  pub pieces : List Piece
  pub cut : Cuts text pieces
  pub flat : too_deep pieces ≡ None
  pub counts : kept ≡ counted pieces
  pub around : open_at pieces ≡ open_at kept

abbrev pub Flattened : List ℕ → Result (Vec Piece) ReadFault → Type 0
Flattened text (Ok kept) = Kept text kept.items
Flattened text (Err f.TooLong) = ⊥
Flattened text (Err (f.TooDeep place)) = NestsTooDeep text place
Flattened text (Err (f.Syntax place)) = IsUncut text place
Flattened text (Err f.Oom) = Unit {0}

-- the place of the first piece, or this one where there is none
abbrev pub place_or : Place → List Piece → Place
place_or end [] = end
place_or end (p ∷ ps) = p.place

-- the parts that these pieces spell, or that there are none
abbrev pub Spelled : List ℕ → List Piece → Result Parts ReadFault → Type 0
Spelled text kept (Ok found) = parts kept ≡ Some found
Spelled text kept (Err f.TooLong) = ⊥
Spelled text kept (Err (f.TooDeep place)) = ⊥
Spelled text kept (Err (f.Syntax place)) = (parts kept ≡ None) × IsPlaceIn text place
Spelled text kept (Err f.Oom) = Unit {0}

-- the component of a file of this name and these parts
pub record IsOf (name : List ℕ) (found : Parts) (c : Component) : Type 0 where
  pub named : c.name ≡ stem name
  pub disposes : c.disposes ≡ found.disposes
  pub members : c.members ≡ found.members
  pub nodes : c.nodes ≡ found.nodes
