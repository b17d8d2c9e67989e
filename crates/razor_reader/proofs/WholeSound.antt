-- What is read as the content of a whole file is spelled so.
use Rattle.std.proofs.Common.{◌≡◌, ◌⊎◌, ℕ, zero, suc, ◌+◌, List, [], ◌∷◌, ◌++◌, length, refl, sym, ap, ◌∙◌, subst, append_assoc, inl, inr}
use Rattle.std.specs.Prelude.{Bool, true, false, ◌||◌, Option, Some, None}
use Rattle.text_core.specs.declared.place.Place.{Place}
use Rattle.cs_ast.specs.declared.member.Member.{Member}
use Rattle.razor_token.specs.declared.piece.Piece.{Piece}
use Rattle.razor_token.specs.declared.piece.PieceKind.TheVariants as k
use Rattle.razor_ast.specs.declared.node.TNode.{TNode}
use Rattle.razor_ast.specs.Components.{Whole}
use Rattle.razor_ast.specs.Components as g
use Rattle.razor_ast.specs.Literals.{literal_run, place_of, is_edge, text_nodes}
use Rattle.razor_ast.specs.Nesting.{open_at}
use Rattle.razor_ast.specs.Nodes.{Item}
use Rattle.razor_ast.specs.Pieces.{codes_of}
use Rattle.razor_reader.specs.declared.mark.Mark.{Mark}
use Rattle.razor_reader.specs.declared.mark.Mark.TheVariants as mark
use Rattle.razor_reader.specs.declared.whole.Parts.{Parts}
use Rattle.razor_reader.specs.Marks.{mark_of}
use Rattle.razor_reader.specs.Reading.{Read, ◌>>=◌, after}
use Rattle.razor_reader.specs.TokenReading.{code_run}
use Rattle.razor_reader.specs.CodeReading.{members}
use Rattle.razor_reader.specs.ContentReading.{item_edge}
use Rattle.razor_reader.specs.ItemReading.{item_first}
use Rattle.razor_reader.specs.WholeReading as r
use Rattle.razor_reader.proofs.ReadLemmas.{bind_ok, moved}
use Rattle.razor_reader.proofs.MarkKinds.{of_expression_end, of_directive_end, of_members_at, of_directive, of_implements}
use Rattle.razor_reader.proofs.MarkLemmas.{taken, piece_of_mark}
use Rattle.razor_reader.proofs.CodeSound.{block_sound}
use Rattle.razor_reader.proofs.ValueSound.{codes_to}
use Rattle.razor_reader.proofs.GoingSound.{text_is, item_edge_sound}
use Rattle.razor_reader.proofs.ItemSound.{item_sound}

-- what the pieces from here on add to the parts
pub record Rest (all : List Piece) (parts : Parts) (ps : List Piece) (final : Parts) : Type 0 where
  pub disposes : Bool
  pub members : List Member
  pub nodes : List TNode
  pub spelled : Whole (open_at all) parts.edge parts.number ps disposes members nodes
  pub all_disposes : final.disposes ≡ parts.disposes || disposes
  pub all_members : final.members ≡ parts.members ++ members
  pub all_nodes : final.nodes ≡ parts.nodes ++ nodes

no_more : {A : Type 0} (l : List A) → l ≡ l ++ []
no_more [] = refl
no_more (a ∷ l) = ap (λ q. a ∷ q) (no_more l)

or_false : (b : Bool) → b ≡ b || false
or_false true = refl
or_false false = refl

or_true : (b : Bool) → true ≡ b || true
or_true true = refl
or_true false = refl

-- the parts with a text
texts_of : Parts → Bool → Place → List ℕ → List TNode
texts_of parts behind p said = text_nodes parts.edge behind parts.number p said

with_texts : Parts → Bool → List TNode → Parts
with_texts parts behind texts = record { disposes = parts.disposes; members = parts.members; nodes = parts.nodes ++ texts; number = parts.number + length texts; edge = behind }

text_same : (parts : Parts) (behind : Bool) (p : Place) (said : List ℕ) → r.text parts behind p said ≡ with_texts parts behind (texts_of parts behind p said)
unfolding texts_of with_texts
text_same parts behind p said =
    ap (λ (x : List TNode × ℕ). record { disposes = parts.disposes; members = parts.members; nodes = x.0; number = x.1; edge = behind }) (text_is parts.nodes parts.edge behind parts.number p said)

module _ (all : List Piece) (parts : Parts) (ps : List Piece) where
  abbrev said : List ℕ
  said = (literal_run ps).0

  abbrev us : List Piece
  us = (literal_run ps).1

  abbrev texts : Bool → List TNode
  texts behind = text_nodes parts.edge behind parts.number (place_of ps) said

  -- an item
  item_more : (behind : Bool) (a : TNode) (m : ℕ) (rest : List Piece) (final : Parts) → item_edge us ≡ Some behind → Item (open_at all) (parts.number + length (texts behind)) us rest m a →
      Rest all (record { disposes = parts.disposes; members = parts.members; nodes = (parts.nodes ++ texts behind) ++ a ∷ []; number = m; edge = behind }) rest final → Rest all parts ps final
  item_more behind a m rest final e item h =
      let x = item_edge_sound us behind e in
      record {
        disposes = h.disposes;
        members = h.members;
        nodes = texts behind ++ a ∷ h.nodes;
        spelled = g.item parts.edge h.disposes parts.number m said x.p ps x.us rest (texts behind) h.nodes a h.members
            (ap (λ l. (said, l)) x.whole) (ap (λ d. text_nodes parts.edge d parts.number (place_of ps) said) (sym x.edge))
            (subst (λ (l : List Piece). Item (open_at all) (parts.number + length (texts behind)) l rest m a) x.whole item)
            (subst (λ (d : Bool). Whole (open_at all) d m rest h.disposes h.members h.nodes) (sym x.edge) h.spelled);
        all_disposes = h.all_disposes;
        all_members = h.all_members;
        all_nodes = h.all_nodes ∙ append_assoc (parts.nodes ++ texts behind) (a ∷ []) h.nodes ∙ append_assoc parts.nodes (texts behind) (a ∷ h.nodes);
      }

  -- the end
  at_end : us ≡ [] → Rest all parts ps (record { disposes = parts.disposes; members = parts.members; nodes = parts.nodes ++ texts true; number = parts.number + length (texts true); edge = true })
  at_end e = record {
    disposes = false;
    members = [];
    nodes = texts true;
    spelled = g.last parts.edge parts.number said ps (ap (λ l. (said, l)) e);
    all_disposes = or_false parts.disposes;
    all_members = no_more parts.members;
    all_nodes = refl;
  }

  -- `@code`
  code_more : (p : Piece) (inner rest : List Piece) (found : List Member) (final : Parts) → us ≡ p ∷ inner → p.kind ≡ k.MembersAt → after mark.ExpressionEnd (code_run inner).1 ≡ Some rest →
      members (code_run inner).0 ≡ Some found →
      Rest all (record { disposes = parts.disposes; members = parts.members ++ found; nodes = parts.nodes ++ texts true; number = parts.number + length (texts true); edge = true }) rest final → Rest all parts ps final
  code_more p inner rest found final e there f i h =
      let q = taken mark.ExpressionEnd k.ExpressionEnd (code_run inner).1 rest of_expression_end f in
      record {
        disposes = h.disposes;
        members = found ++ h.members;
        nodes = texts true ++ h.nodes;
        spelled = g.code parts.edge h.disposes parts.number said p q.p ps rest (code_run inner).0 (texts true) h.nodes found h.members
            (ap (λ l. (said, l)) (e ∙ ap (λ l. p ∷ l) (codes_to inner [] rest q.p q.whole))) refl there (block_sound (code_run inner).0 found i) q.is h.spelled;
        all_disposes = h.all_disposes;
        all_members = h.all_members ∙ append_assoc parts.members found h.members;
        all_nodes = h.all_nodes ∙ append_assoc parts.nodes (texts true) h.nodes;
      }

  -- a directive without meaning
  directive_more : (p : Piece) (inner rest : List Piece) (final : Parts) → us ≡ p ∷ inner → p.kind ≡ k.Directive → after mark.DirectiveEnd (code_run inner).1 ≡ Some rest →
      Rest all (record { disposes = parts.disposes; members = parts.members; nodes = parts.nodes ++ texts true; number = parts.number + length (texts true); edge = true }) rest final → Rest all parts ps final
  directive_more p inner rest final e there f h =
      let q = taken mark.DirectiveEnd k.DirectiveEnd (code_run inner).1 rest of_directive_end f in
      record {
        disposes = h.disposes;
        members = h.members;
        nodes = texts true ++ h.nodes;
        spelled = g.directive parts.edge h.disposes parts.number said p q.p ps rest (code_run inner).0 (texts true) h.nodes h.members
            (ap (λ l. (said, l)) (e ∙ ap (λ l. p ∷ l) (codes_to inner [] rest q.p q.whole))) refl there q.is h.spelled;
        all_disposes = h.all_disposes;
        all_members = h.all_members;
        all_nodes = h.all_nodes ∙ append_assoc parts.nodes (texts true) h.nodes;
      }

  -- `@implements IDisposable`
  implements_more : (p : Piece) (rest : List Piece) (final : Parts) → us ≡ p ∷ rest → p.kind ≡ k.Implements →
      Rest all (record { disposes = true; members = parts.members; nodes = parts.nodes ++ texts true; number = parts.number + length (texts true); edge = true }) rest final → Rest all parts ps final
  implements_more p rest final e there h = record {
    disposes = true;
    members = h.members;
    nodes = texts true ++ h.nodes;
    spelled = g.implements parts.edge h.disposes parts.number said p ps rest (texts true) h.nodes h.members (ap (λ l. (said, l)) e) refl there h.spelled;
    all_disposes = h.all_disposes ∙ or_true parts.disposes;
    all_members = h.all_members;
    all_nodes = h.all_nodes ∙ append_assoc parts.nodes (texts true) h.nodes;
  }

  -- a turn: what the rest adds to the parts behind it is added to those before it, or the file ends
  Turned : Parts → List Piece → Type 0
  Turned more rest = ((final : Parts) → Rest all more rest final → Rest all parts ps final) ⊎ ((rest ≡ []) × Rest all parts ps more)

  abbrev ended : Parts
  ended = record { disposes = parts.disposes; members = parts.members; nodes = parts.nodes ++ texts true; number = parts.number + length (texts true); edge = true }

  edge_sound : (p : Piece) (inner : List Piece) (more : Parts) (rest : List Piece) → us ≡ p ∷ inner → r.edge ended (p ∷ inner) ≡ Some (more, rest) → Turned more rest
  unfolding Turned
  edge_sound p inner more rest e f = go (mark_of p.kind) refl f
    where
      go : (found : Mark) → mark_of p.kind ≡ found → r.edge_by found ended inner ≡ Some (more, rest) →
          ((final : Parts) → Rest all more rest final → Rest all parts ps final) ⊎ ((rest ≡ []) × Rest all parts ps more)
      go mark.MembersAt i f =
          let x = bind_ok (after mark.ExpressionEnd (code_run inner).1) _ _ f in
          let y = bind_ok (members (code_run inner).0) _ _ x.2 in
          moved {A = Parts × List Piece} (λ z. ((final : Parts) → Rest all z.0 z.1 final → Rest all parts ps final) ⊎ ((z.1 ≡ []) × Rest all parts ps z.0)) y.2
          (inl (λ final h. code_more p inner x.0 y.0 final e (piece_of_mark mark.MembersAt _ p.kind of_members_at i) x.1 y.1 h))
      go mark.Directive i f =
          let x = bind_ok (r.past_directive inner) _ _ f in
          moved {A = Parts × List Piece} (λ z. ((final : Parts) → Rest all z.0 z.1 final → Rest all parts ps final) ⊎ ((z.1 ≡ []) × Rest all parts ps z.0)) x.2
          (inl (λ final h. directive_more p inner x.0 final e (piece_of_mark mark.Directive _ p.kind of_directive i) x.1 h))
      go mark.Implements i f =
          moved {A = Parts × List Piece} (λ z. ((final : Parts) → Rest all z.0 z.1 final → Rest all parts ps final) ⊎ ((z.1 ≡ []) × Rest all parts ps z.0)) f
          (inl (λ final h. implements_more p inner final e (piece_of_mark mark.Implements _ p.kind of_implements i) h))
      go _ i f = absurd (cc)

  turn_sound : (more : Parts) (rest : List Piece) → r.turn all parts ps ≡ Some (more, rest) → Turned more rest
  unfolding Turned texts_of with_texts
  turn_sound more rest e = go (item_edge us) refl e
    where
      last : (l : List Piece) → us ≡ l → item_edge l ≡ None → r.turn_by None all parts (place_of ps) said l ≡ Some (more, rest) →
          ((final : Parts) → Rest all more rest final → Rest all parts ps final) ⊎ ((rest ≡ []) × Rest all parts ps more)
      last [] i n f =
          let same = text_same parts true (place_of ps) said in
          moved {A = Parts × List Piece} (λ z. ((final : Parts) → Rest all z.0 z.1 final → Rest all parts ps final) ⊎ ((z.1 ≡ []) × Rest all parts ps z.0)) f
          (inr (refl, subst (Rest all parts ps) (sym same) (at_end i)))
      last (p ∷ inner) i n f =
          let same = text_same parts true (place_of ps) said in
          edge_sound p inner more rest i (ap (λ x. r.edge x (p ∷ inner)) (sym same) ∙ f)

      go : (d : Option Bool) → item_edge us ≡ d → r.turn_by d all parts (place_of ps) said us ≡ Some (more, rest) →
          ((final : Parts) → Rest all more rest final → Rest all parts ps final) ⊎ ((rest ≡ []) × Rest all parts ps more)
      go (Some behind) i f =
          let same = text_same parts behind (place_of ps) said in
          let g2 : r.item all (with_texts parts behind (texts behind)) us ≡ Some (more, rest) = ap (λ x. r.item all x us) (sym same) ∙ f in
          let x = bind_ok (item_first all (parts.number + length (texts behind)) us) _ _ g2 in
          moved {A = Parts × List Piece} (λ z. ((final : Parts) → Rest all z.0 z.1 final → Rest all parts ps final) ⊎ ((z.1 ≡ []) × Rest all parts ps z.0)) x.2
          (inl (λ final h. item_more behind x.0.0 x.0.1 x.0.2 final i (item_sound all (parts.number + length (texts behind)) us x.0.0 x.0.1 x.0.2 x.1) h))
      go None i f = last us refl i f

nothing_more : (all : List Piece) (parts : Parts) → Rest all parts [] parts
nothing_more all parts = record {
  disposes = false;
  members = [];
  nodes = [];
  spelled = g.last parts.edge parts.number [] [] refl;
  all_disposes = or_false parts.disposes;
  all_members = no_more parts.members;
  all_nodes = no_more parts.nodes;
}

parts_in_sound : (all : List Piece) (n : ℕ) (parts : Parts) (ps : List Piece) (final : Parts) → r.parts_in all n parts ps ≡ Some final → Rest all parts ps final
unfolding r.parts_in Turned
parts_in_sound all zero parts [] final e = moved {A = Parts} (Rest all parts []) e (nothing_more all parts)
parts_in_sound all (suc n) parts [] final e = moved {A = Parts} (Rest all parts []) e (nothing_more all parts)
parts_in_sound all zero parts (p ∷ ps) final e = absurd (cc)
parts_in_sound all (suc n) parts (p ∷ ps) final e =
    let x = bind_ok (r.turn all parts (p ∷ ps)) _ _ e in
    elim (turn_sound all parts (p ∷ ps) x.0.0 x.0.1 x.1) [
      | inl h ↦ h final (parts_in_sound all n x.0.0 x.0.1 final x.2)
      | inr h ↦ subst (Rest all parts (p ∷ ps)) (moved {A = Parts} (λ z. x.0.0 ≡ z) (ended_by n x.0.0 x.0.1 h.0 final x.2) refl) h.1
    ]
  where
    ended_by : (n : ℕ) (parts : Parts) (ps : List Piece) → ps ≡ [] → (final : Parts) → r.parts_in all n parts ps ≡ Some final → Some parts ≡ Some final
    ended_by zero parts ps e final f = sym (ap (r.parts_in all zero parts) e) ∙ f
    ended_by (suc n) parts ps e final f = sym (ap (r.parts_in all (suc n) parts) e) ∙ f

-- the parts of a file are spelled by its pieces
pub parts_sound : (all : List Piece) (final : Parts) → r.parts all ≡ Some final → Whole (open_at all) true 0 all final.disposes final.members final.nodes
unfolding r.parts
parts_sound all final e =
    let h = parts_in_sound all (length all) r.no_parts all final e in
    subst (λ (b : Bool). Whole (open_at all) true 0 all b final.members final.nodes) (sym h.all_disposes)
    (subst (λ (l : List Member). Whole (open_at all) true 0 all h.disposes l final.nodes) (sym h.all_members)
    (subst (λ (l : List TNode). Whole (open_at all) true 0 all h.disposes h.members l) (sym h.all_nodes) h.spelled))
