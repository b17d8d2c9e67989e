-- The text of a printable component is cut into the pieces that its parts are meant to be.
use Rattle.std.proofs.Common.{◌≡◌, ℕ, Bool, true, false, List, [], ◌∷◌, ◌++◌, map, refl, sym, ◌∙◌, subst, append-nil}
use Rattle.std.proofs.lemmas.Bool.{false≢true}
use Rattle.razor_token.specs.declared.context.Context.{Context}
use Rattle.razor_token.specs.declared.context.Context.TheVariants as x
use Rattle.razor_token.specs.declared.context.Point.TheVariants as point
use Rattle.razor_token.specs.declared.piece.PieceKind.TheVariants as k
use Rattle.razor_token.specs.ContentFronts.{is_word}
use Rattle.razor_token.specs.Cutting.{last_of}
use Rattle.razor_ast.specs.declared.component.Component.{Component}
use Rattle.razor_print.specs.declared.before.Before.{Before}
use Rattle.razor_print.specs.declared.before.Before.TheVariants as bf
use Rattle.razor_print.specs.Components.{implements, members_section, file_from, behind_all, component_parts, component_text}
use Rattle.razor_ast.specs.declared.node.TNode.{TNode}
use Rattle.razor_print.specs.Nodes.{node, content, lines}
use Rattle.razor_print.specs.Parts.{Parts, parts_text}
use Rattle.printed_pieces.specs.Answers.{IsCutInto}
use Rattle.printed_pieces.specs.Cut.{Lays, between, Stand, Cut}
use Rattle.printed_pieces.specs.Places.{IsContentPlace, EndsContent, at_end}
use Rattle.printed_pieces.specs.PrintableNodes.{IsPrintable, ContentPrints, LinesPrint}
use Rattle.printed_pieces.proofs.WalkLaws.{stand-join}
use Rattle.printed_pieces.proofs.ContentLaws.{stand-content, stand-block}
use Rattle.printed_pieces.proofs.FileForms.{file-form, members-form}
use Rattle.printed_pieces.proofs.FileLaws.{IsFile, file-join, stand-file, implements_text, stand-implements}
use Rattle.printed_pieces.proofs.NodeForms.{content-form, lines-form}
use Rattle.printed_pieces.proofs.NodeParts.{none_before}
use Rattle.printed_pieces.proofs.PartTexts.{Writes, writes-join, writes-piece, content-text, block-writes, file-text}

-- from a text to what is said of it
into : (ps : Parts) (text : List ℕ) → Writes ps text → Stand [] [] ps text [] [] → IsCutInto (parts_text ps) ps
into ps text e h =
    let whole : Lays (between [] [] text) ps (between [] text []) = subst (λ z. Lays (between [] [] z) ps (between [] text [])) (append-nil text) h in
    subst (λ z. IsCutInto z ps) (sym e) (record { pieces = whole.pieces; cut = whole.laid; mean = whole.mean })

with-file : (ps : Parts) (b last : Before) (text : List ℕ) → b ≡ bf.Other → IsFile b last ps text → (disposes : Bool) → IsCutInto (parts_text (implements disposes ++ ps)) (implements disposes ++ ps)
with-file ps b last text other is false = into ps text (file-text b last ps text is) (stand-file b last ps text is [] [] (λ e. absurd (false≢true e)) at_end)
with-file ps b last text other is true =
    into (implements true ++ ps) (implements_text ++ text) (writes-join (implements true) ps implements_text text (writes-piece k.Implements implements_text) (file-text b last ps text is))
    (stand-join [] [] [] [] (implements true) ps implements_text text [] (stand-implements (text ++ []))
    (stand-file b last ps text is implements_text [] (λ e. absurd (false≢true e)) at_end))

pub component_cut : (a : Component) → IsPrintable a → IsCutInto (component_text a) (component_parts a)
unfolding component_parts
component_cut a h =
    let nodes = file-form a.nodes h.nodes bf.Other in
    let behind = behind_all bf.Other (map node a.nodes) in
    let members = members-form behind a.members h.members in
    with-file (file_from bf.Other (map node a.nodes) ++ members_section behind a.members) bf.Other members.last (nodes.text ++ members.text) refl
    (file-join bf.Other behind members.last (file_from bf.Other (map node a.nodes)) (members_section behind a.members) nodes.text members.text nodes.is members.is) a.disposes

-- content where it stands
pub content_cut : (cs : List Context) (before rest : List ℕ) (nodes : List TNode) → IsContentPlace cs → is_word (last_of before) ≡ false → EndsContent rest → ContentPrints false nodes
    → Cut cs before (content (map node nodes)) rest cs
content_cut cs before rest nodes place word ends h =
    let found = content-form false nodes h bf.Other (none_before bf.Other refl) in
    subst (λ z. Stand cs before (content (map node nodes)) z rest cs) (sym (content-text bf.Other found.last (content (map node nodes)) found.text found.is))
    (stand-content bf.Other found.last (content (map node nodes)) found.text found.is cs place before rest (λ e. absurd (false≢true (sym word ∙ e))) ends)

-- code with markup in a block
pub lines_cut : (cs : List Context) (with_else : Bool) (before rest : List ℕ) (items : List TNode) → LinesPrint items
    → Cut (x.Block point.Begins with_else ∷ cs) before (lines (map node items)) rest (x.Block point.Begins with_else ∷ cs)
lines_cut cs with_else before rest items h =
    let found = lines-form with_else items h in
    let block = x.Block point.Begins with_else ∷ cs in
    subst (λ z. Stand block before (lines (map node items)) z rest block) (sym (block-writes with_else point.Begins (lines (map node items)) found.text point.Begins found.is))
    (stand-block with_else point.Begins (lines (map node items)) found.text point.Begins found.is cs before rest)
