-- What standing pieces spell is printable, and so is what a text spells.
use Rattle.std.proofs.Common.{ℕ, Bool, false, List, [], refl}
use Rattle.cs_grammar.specs.Statements.{Jumps}
use Rattle.razor_ast.specs.declared.attribute.Attribute.{Attribute}
use Rattle.razor_ast.specs.declared.node.TNode.{TNode}
use Rattle.razor_ast.specs.Attributes.{AttributesOf}
use Rattle.razor_ast.specs.Nodes.{Content, Lines}
use Rattle.printed_pieces.specs.Printable.{ArePrintable}
use Rattle.razor_ast.specs.declared.component.Component.{Component}
use Rattle.razor_ast.specs.Components.{SpelledBy, Spells}
use Rattle.razor_ast.specs.Nesting.{open_at}
use Rattle.razor_ast.specs.Pieces.{counted}
use Rattle.razor_token.specs.declared.piece.Piece.{Piece}
use Rattle.razor_token.specs.Cutting.{Cuts, beginning, ending}
use Rattle.printed_pieces.proofs.SoundPieces.{pieces_sound}
use Rattle.printed_pieces.specs.PrintableNodes.{IsPrintable, ContentPrints, LinesPrint}
use Rattle.printable_texts.specs.Stands.{Stands, content, tag}
use Rattle.printable_texts.proofs.AttributeLaws.{in_tag, attributes_print}
use Rattle.printable_texts.proofs.NodeLaws.{content_prints, lines_print}
use Rattle.printable_texts.proofs.FileLaws.{whole_prints}
use Rattle.printable_texts.proofs.PlaceGoes.{in_content}
use Rattle.printable_texts.proofs.WalkLaws.{walk_stands}

pub component_prints : (pieces : List Piece) (component : Component) → Stands content (counted pieces) → SpelledBy pieces component → IsPrintable component
component_prints pieces component here h =
    let whole = whole_prints (open_at pieces) _ 0 (counted pieces) component.disposes component.members component.nodes h here in
    record { nodes = whole.content; members = whole.members_so.written }

pub attributes_printable : (around : Piece → List ℕ) (component : Bool) (void : Bool) (n : ℕ) (m : ℕ) (ps : List Piece) (rest : List Piece) (all : List Attribute) → Stands (tag component void) ps
    → AttributesOf around component n ps rest m all → ArePrintable component all
attributes_printable around component void n m ps rest all here h = (attributes_print around component void n m ps rest all h.spelled (in_tag ps here)).0

pub content_printable : (around : Piece → List ℕ) (edge : Bool) (n : ℕ) (m : ℕ) (ps : List Piece) (rest : List Piece) (nodes : List TNode) → Stands content ps → Content around edge n ps rest m nodes → ContentPrints false nodes
content_printable around edge n m ps rest nodes here h = (content_prints around edge n m ps rest nodes h here).0

pub code_printable : (around : Piece → List ℕ) (jumps : Jumps) (n : ℕ) (m : ℕ) (ps : List Piece) (rest : List Piece) (nodes : List TNode) → Stands content ps → Lines around jumps n ps rest m nodes → LinesPrint nodes
code_printable around jumps n m ps rest nodes here h = (lines_print around jumps n m ps rest nodes h here).0

pub cut_stands : (text : List ℕ) (pieces : List Piece) → Cuts text pieces → Stands content (counted pieces)
cut_stands text pieces cut = walk_stands (beginning text) (ending text) pieces content cut (pieces_sound text pieces cut) refl (in_content [] refl)

pub spelled_prints : (text : List ℕ) (component : Component) → Spells text component → IsPrintable component
spelled_prints text component h = component_prints h.pieces component (cut_stands text h.pieces h.cut) h.spelled
