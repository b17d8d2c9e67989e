-- What is printed of a component that a text spells, spells it again.
use Rattle.std.proofs.Common.{◌≡◌, ℕ, Bool, true, false, List, [], ◌++◌, refl, sym, ap, ◌∙◌, subst}
use Rattle.std.proofs.lemmas.Bool.{false≢true}
use Rattle.cs_ast.specs.declared.member.Member.{Member}
use Rattle.cs_print.specs.Alike.{AlikeMembers, Each}
use Rattle.razor_token.specs.declared.piece.Piece.{Piece}
use Rattle.razor_token.specs.declared.piece.PieceKind.TheVariants as k
use Rattle.razor_ast.specs.declared.component.Component.{Component}
use Rattle.razor_ast.specs.declared.node.TNode.{TNode}
use Rattle.razor_ast.specs.Components.{Whole, Spells}
use Rattle.razor_ast.specs.Components as g
use Rattle.razor_ast.specs.Literals.{literal_run}
use Rattle.razor_ast.specs.Nesting.{open_at}
use Rattle.razor_ast.specs.Pieces.{counted}
use Rattle.razor_print.specs.declared.before.Before.TheVariants as before
use Rattle.razor_print.specs.Components.{implements, component_parts, component_text}
use Rattle.razor_print.specs.Parts.{Parts}
use Rattle.printed_pieces.specs.Meant.{Mean}
use Rattle.printed_pieces.specs.PrintableNodes.{IsPrintable}
use Rattle.printed_pieces.proofs.Theorems.{component_cut}
use Rattle.printing_again.proofs.MeantLaws.{first-piece}
use Rattle.printing_again.proofs.PartsAgain.{stops}
use Rattle.printing_nodes.specs.AlikeNodes.{AlikeContent}
use Rattle.printing_nodes.specs.Answers.{SpellsAgain}
use Rattle.printing_nodes.proofs.FileAgain.{FileAgain, file_parts, file_again}
use Rattle.printing_nodes.proofs.KnownNodes.{file-known}

-- a file from its directive on
record FromTop (around : Piece → List ℕ) (disposes : Bool) (members : List Member) (nodes : List TNode) (us : List Piece) : Type 0 where
  member_others : List Member
  others : List TNode
  spelled : Whole around true 0 us disposes member_others others
  member_alike : Each AlikeMembers members member_others
  alike : AlikeContent nodes others

from-top : (around : Piece → List ℕ) (disposes : Bool) (members : List Member) (nodes : List TNode) (parts : Parts) (us : List Piece) → Mean (implements disposes ++ parts) us
    → ((vs : List Piece) → Mean parts vs → FileAgain around false true 0 members nodes vs) → FromTop around disposes members nodes us
from-top around false members nodes parts us mean reads =
    let x = reads us mean in
    record { member_others = x.member_others; others = x.others; spelled = x.spelled; member_alike = x.member_alike; alike = x.alike }
from-top around true members nodes parts us mean reads =
    let first = first-piece k.Implements _ parts us mean in
    let x = reads first.rest first.mean in
    let stop = subst (λ z. literal_run z ≡ ([], z)) first.split (stops k.Implements first.p first.rest first.is refl) in
    record {
      member_others = x.member_others;
      others = x.others;
      spelled = g.implements true false 0 [] first.p us first.rest [] x.others x.member_others (stop ∙ ap (λ z. ([], z)) (sym first.split)) refl first.is x.spelled;
      member_alike = x.member_alike;
      alike = x.alike;
    }

pub component_again : (a : Component) → IsPrintable a → (text : List ℕ) → Spells text a → SpellsAgain (component_text a) a
unfolding component_parts
component_again a printable text h =
    let cut = component_cut a printable in
    let around = open_at cut.pieces in
    let x = from-top around a.disposes a.members a.nodes (file_parts before.Other a.nodes a.members) (counted cut.pieces) cut.mean
    (λ vs mean. file_again (open_at h.pieces) around a.members printable.members true 0 (counted h.pieces) a.disposes a.members a.nodes h.spelled (file-known a.nodes printable.nodes) before.Other true vs (λ e. e) (λ e. absurd (false≢true e)) mean) in
    record {
      other = record { name = a.name; disposes = a.disposes; members = x.member_others; nodes = x.others };
      spelled = record { pieces = cut.pieces; cut = cut.cut; spelled = x.spelled };
      alike = record { named = refl; disposes = refl; members = x.member_alike; nodes = x.alike };
    }
