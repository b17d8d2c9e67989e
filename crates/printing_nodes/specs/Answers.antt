-- What pieces, and texts, spell again.
use Rattle.std.specs.Prelude.{◌≡◌, ℕ, Bool, List, []}
use Rattle.razor_token.specs.declared.piece.Piece.{Piece}
use Rattle.razor_ast.specs.declared.component.Component.{Component}
use Rattle.razor_ast.specs.declared.node.TNode.{TNode}
use Rattle.razor_ast.specs.Components.{Spells}
use Rattle.razor_ast.specs.Literals.{literal_run}
use Rattle.razor_ast.specs.Nodes.{Content, Lines}
use Rattle.cs_grammar.specs.Statements.{Jumps}
use Rattle.razor_print.specs.Parts.{Parts}
use Rattle.printed_pieces.specs.Meant.{Mean}
use Rattle.printing_nodes.specs.AlikeNodes.{AlikeContent, AlikeComponents}

-- no literal piece stands first where these parts are meant to be
abbrev pub Stops : Parts → Type 0
Stops later = (us : List Piece) → Mean later us → literal_run us ≡ ([], us)

-- Up to some rest the pieces spell content that is equal to this one, apart from places, with the same numbers before and behind it; and
-- the rest is what these parts are meant to be. The first argument gives what is open at a piece.
pub record ContentAgain (around : Piece → List ℕ) (edge : Bool) (n m : ℕ) (nodes : List TNode) (later : Parts) (ps : List Piece) : Type 0 where
  pub rest : List Piece
  pub others : List TNode
  pub spelled : Content around edge n ps rest m others
  pub alike : AlikeContent nodes others
  pub mean : Mean later rest

-- the same of code with markup
pub record LinesAgain (around : Piece → List ℕ) (jumps : Jumps) (n m : ℕ) (nodes : List TNode) (later : Parts) (ps : List Piece) : Type 0 where
  pub rest : List Piece
  pub others : List TNode
  pub spelled : Lines around jumps n ps rest m others
  pub alike : AlikeContent nodes others
  pub mean : Mean later rest

-- the text spells a component that is equal to this one, apart from places
pub record SpellsAgain (text : List ℕ) (a : Component) : Type 0 where
  pub other : Component
  pub spelled : Spells text other
  pub alike : AlikeComponents a other
