-- A file that nests nowhere too deeply spells what reading its pieces gives, and nothing else.
use Rattle.std.proofs.Common.{◌≡◌, ℕ, List, refl, sym, ap, ◌∙◌, subst}
use Rattle.std.specs.Prelude.{Bool, true, Option, Some, None}
use Rattle.text_core.specs.declared.place.Place.{Place}
use Rattle.cs_ast.specs.declared.member.Member.{Member}
use Rattle.razor_token.specs.Answers.{IsUncut}
use Rattle.razor_token.specs.Cutting.{Cuts}
use Rattle.razor_token.specs.declared.piece.Piece.{Piece}
use Rattle.razor_token.proofs.CutLemmas.{one_cutting, cut-cover}
use Rattle.razor_ast.specs.Components.{Whole, Spells, SpellsFile}
use Rattle.razor_ast.specs.declared.component.Component.{Component}
use Rattle.razor_ast.specs.declared.node.TNode.{TNode}
use Rattle.razor_ast.specs.FileTexts.{stem, text_read}
use Rattle.razor_ast.specs.Nesting.{too_deep, open_at}
use Rattle.razor_ast.specs.Pieces.{counted}
use Rattle.razor_reader.specs.declared.whole.Parts.{Parts}
use Rattle.razor_reader.specs.Answers.{IsFlat, SpellsNothing}
use Rattle.razor_reader.specs.PieceAnswers.{Kept}
use Rattle.razor_reader.specs.WholeReading.{parts}
use Rattle.razor_reader.proofs.FileLemmas.{same_around}
use Rattle.razor_reader.proofs.FlatCounted.{flat_counted}
use Rattle.razor_reader.proofs.WholeComplete.{Got, parts_complete}

-- what is read of pieces is what they spell
spelled_read : (text : List ℕ) (pieces : List Piece) (component : Component) → Cuts text pieces → too_deep pieces ≡ None → Whole (open_at pieces) true 0 (counted pieces) component.disposes component.members component.nodes
    → Got (parts (counted pieces)) component.disposes component.members component.nodes
spelled_read text pieces component cut flat h =
    parts_complete (counted pieces) component.disposes component.members component.nodes (flat_counted pieces flat)
    (subst (λ (around : Piece → List ℕ). Whole around true 0 (counted pieces) component.disposes component.members component.nodes) (same_around text pieces (cut-cover text pieces cut)) h)

pub file_read : (name text : List ℕ) (pieces : List Piece) (component : Component) → Cuts (text_read text) pieces → too_deep pieces ≡ None → SpellsFile name text component
    → Got (parts (counted pieces)) component.disposes component.members component.nodes
file_read name text pieces component cut flat h =
    let same : h.spelled.pieces ≡ pieces = one_cutting (text_read text) h.spelled.pieces pieces h.spelled.cut cut in
    spelled_read (text_read text) pieces component cut flat
    (subst (λ (ps : List Piece). Whole (open_at ps) true 0 (counted ps) component.disposes component.members component.nodes) same h.spelled.spelled)

-- the same parts and the same name

same_parts : (read : Option Parts) (d0 d1 : Bool) (m0 m1 : List Member) (n0 n1 : List TNode) → Got read d0 m0 n0 → Got read d1 m1 n1 → (d0 ≡ d1) × (m0 ≡ m1) × (n0 ≡ n1)
same_parts read d0 d1 m0 m1 n0 n1 a b =
    let found : Some a.final ≡ Some b.final = sym a.is ∙ b.is in
    let same : a.final ≡ b.final = cc in (
      sym a.disposes_is ∙ ap (λ (x : Parts). x.disposes) same ∙ b.disposes_is,
      sym a.members_is ∙ ap (λ (x : Parts). x.members) same ∙ b.members_is,
      sym a.nodes_is ∙ ap (λ (x : Parts). x.nodes) same ∙ b.nodes_is,
    )

abbrev make : List ℕ → Bool → List Member → List TNode → Component
make name disposes members nodes = record { name = name; disposes = disposes; members = members; nodes = nodes }

same_component : (a b : Component) → a.name ≡ b.name → a.disposes ≡ b.disposes → a.members ≡ b.members → a.nodes ≡ b.nodes → a ≡ b
same_component a b e f g h =
    ap (λ (x : List ℕ). make x a.disposes a.members a.nodes) e ∙ ap (λ (x : Bool). make b.name x a.members a.nodes) f
    ∙ ap (λ (x : List Member). make b.name b.disposes x a.nodes) g ∙ ap (λ (x : List TNode). make b.name b.disposes b.members x) h

pub one_component : (name text : List ℕ) (a b : Component) → IsFlat (text_read text) → SpellsFile name text a → SpellsFile name text b → a ≡ b
one_component name text a b flat h i =
    let deep = flat h.spelled.pieces h.spelled.cut in
    let x = file_read name text h.spelled.pieces a h.spelled.cut deep h in
    let y = file_read name text h.spelled.pieces b h.spelled.cut deep i in
    let same = same_parts (parts (counted h.spelled.pieces)) a.disposes b.disposes a.members b.members a.nodes b.nodes x y in
    same_component a b (h.named ∙ sym i.named) same.0 same.1 same.2

-- where nothing is read of its pieces, a file spells no component
pub no_component : (name text : List ℕ) (kept : List Piece) → Kept (text_read text) kept → parts kept ≡ None → SpellsNothing name text
no_component name text kept k e = λ component h.
    let x = file_read name text k.pieces component k.cut k.flat h in
    let none : Some x.final ≡ None = sym x.is ∙ ap parts (sym k.counts) ∙ e in
    absurd (cc)

-- a file of which no pieces are cut spells none
pub uncut_component : (name text : List ℕ) (place : Place) → IsUncut (text_read text) place → SpellsNothing name text
uncut_component name text place h = λ component spelled. h.uncut spelled.spelled.pieces spelled.spelled.cut
