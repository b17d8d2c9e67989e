-- What spells the content of a whole file is read.
use Rattle.std.proofs.Common.{◌≡◌, ℕ, zero, suc, ◌+◌, ◌-◌, ◌*◌, ◌<◌, ◌≤◌, List, [], ◌∷◌, ◌++◌, length, refl, sym, ap, ◌∙◌, subst, arith, append_assoc, length-append}
use Rattle.std.specs.Prelude.{Bool, true, false, ◌||◌, if◌then◌else◌, Option, Some, None}
use Rattle.text_core.specs.declared.place.Place.{Place}
use Rattle.cs_ast.specs.declared.member.Member.{Member}
use Rattle.cs_token.specs.declared.token.Token.{Token}
use Rattle.razor_token.specs.declared.piece.Piece.{Piece}
use Rattle.razor_token.specs.declared.piece.PieceKind.{PieceKind}
use Rattle.razor_token.specs.declared.piece.PieceKind.TheVariants as k
use Rattle.razor_ast.specs.declared.node.TNode.{TNode}
use Rattle.razor_ast.specs.Brackets.{code_of}
use Rattle.razor_ast.specs.Components.{Whole, SpelledBlock}
use Rattle.razor_ast.specs.Components as g
use Rattle.razor_ast.specs.Literals.{literal_run, place_of, is_edge, text_nodes}
use Rattle.razor_ast.specs.Nesting.{open_at}
use Rattle.razor_ast.specs.Nodes.{Item}
use Rattle.razor_ast.specs.Pieces.{IsKind, codes_of}
use Rattle.razor_reader.specs.declared.frame.Next.TheVariants as nx
use Rattle.razor_reader.specs.declared.frame.Wanted.TheVariants as wanted
use Rattle.razor_reader.specs.declared.mark.Mark.{Mark}
use Rattle.razor_reader.specs.declared.mark.Mark.TheVariants as m
use Rattle.razor_reader.specs.declared.whole.Parts.{Parts}
use Rattle.razor_reader.specs.Marks.{mark_of, mark_number, is_mark}
use Rattle.razor_reader.specs.Reading.{Read, ◌>>=◌, has, after}
use Rattle.razor_reader.specs.TokenReading.{code_run}
use Rattle.razor_reader.specs.CodeReading.{members}
use Rattle.razor_reader.specs.BeginReading.{begin}
use Rattle.razor_reader.specs.ContentReading.{edge_of, item_edge}
use Rattle.razor_reader.specs.ItemReading.{turns, turns_for, item_first}
use Rattle.razor_reader.specs.WholeReading as r
use Rattle.razor_reader.proofs.CodeComplete.{block_complete}
use Rattle.razor_reader.proofs.FirstPieces.{run_no_else, item_stands}
use Rattle.razor_reader.proofs.GoingSound.{text_is}
use Rattle.razor_reader.proofs.ItemComplete.{item_read}
use Rattle.razor_reader.proofs.SuffixLemmas.{Behind, flat_end, not_longer, same_end, far_end, one_end, run_end, codes_end}
use Rattle.razor_reader.proofs.ValueComplete.{FlatPieces, flat_rest, flat_front, after_is, code_run_is, bind_is, expression_end_is}

-- items

turns_enough : (count rest ps : ℕ) → count + 3 + 4 * rest ≤ 4 * ps → 4 * ps + 4 ≡ count + suc (4 * ps + 3 - count)
turns_enough count rest ps h = omega arith

pub item_complete : (all : List Piece) (n : ℕ) (ps rest : List Piece) (i : ℕ) (a : TNode) → FlatPieces ps → has m.Else rest ≡ false → Item (open_at all) n ps rest i a → item_first all n ps ≡ Some (a, i, rest)
unfolding item_first turns
item_complete all n ps rest i a flat clear h =
    let x = item_read all n ps rest i a flat clear h in
    let left : ℕ = 4 * length ps + 3 - x.count in
    bind_is (begin all wanted.Item n ps) (x.next, x.number, x.pieces) (λ y. turns all (turns_for ps) [] y.0 y.1 y.2) x.begun
    ∙ ap (λ (d : ℕ). turns all d [] x.next x.number x.pieces) (turns_enough x.count (length rest) (length ps) x.short)
    ∙ x.reaches [] (suc left)

-- no `else` stands first of a whole file

no_else_at : (kind : PieceKind) (p : Piece) (ps : List Piece) → p.kind ≡ kind → is_mark m.Else kind ≡ false → has m.Else (p ∷ ps) ≡ false
no_else_at kind p ps i e = ap (is_mark m.Else) i ∙ e

members_no_else : is_mark m.Else k.MembersAt ≡ false
unfolding mark_number
members_no_else = refl

directive_no_else : is_mark m.Else k.Directive ≡ false
unfolding mark_number
directive_no_else = refl

implements_no_else : is_mark m.Else k.Implements ≡ false
unfolding mark_number
implements_no_else = refl

directive_end_is : is_mark m.DirectiveEnd k.DirectiveEnd ≡ true
unfolding mark_number
directive_end_is = refl

whole_no_else : (around : Piece → List ℕ) (edge : Bool) (n : ℕ) (ps : List Piece) (disposes : Bool) (all_members : List Member) (nodes : List TNode) → Whole around edge n ps disposes all_members nodes → has m.Else ps ≡ false
whole_no_else around _ _ _ _ _ _ (g.last edge n text ps e) = run_no_else ps [] text e refl
whole_no_else around _ _ _ _ _ _ (g.item edge disposes n i text p ps us vs texts nodes node found e f h more) =
    run_no_else ps (p ∷ us) text e (item_stands around (n + length texts) (p ∷ us) vs i node h).no_else
whole_no_else around _ _ _ _ _ _ (g.code edge disposes n text at end ps vs ts texts nodes first found e f is written stops more) =
    run_no_else ps (at ∷ (codes_of ts ++ end ∷ vs)) text e (no_else_at k.MembersAt at (codes_of ts ++ end ∷ vs) is members_no_else)
whole_no_else around _ _ _ _ _ _ (g.directive edge disposes n text at end ps vs ts texts nodes found e f is stops more) =
    run_no_else ps (at ∷ (codes_of ts ++ end ∷ vs)) text e (no_else_at k.Directive at (codes_of ts ++ end ∷ vs) is directive_no_else)
whole_no_else around _ _ _ _ _ _ (g.implements edge disposes n text at ps vs texts nodes found e f is more) = run_no_else ps (at ∷ vs) text e (no_else_at k.Implements at vs is implements_no_else)

-- parts by what is in them
abbrev pub parts_of : Bool → List Member → List TNode → ℕ → Bool → Parts
parts_of disposes all_members nodes number edge = record { disposes = disposes; members = all_members; nodes = nodes; number = number; edge = edge }

-- these are read
pub record Got (read : Option Parts) (disposes : Bool) (all_members : List Member) (nodes : List TNode) : Type 0 where
  pub final : Parts
  pub is : read ≡ Some final
  pub disposes_is : final.disposes ≡ disposes
  pub members_is : final.members ≡ all_members
  pub nodes_is : final.nodes ≡ nodes

got_same : (read other : Option Parts) (d0 d1 : Bool) (m0 m1 : List Member) (n0 n1 : List TNode) → read ≡ other → d0 ≡ d1 → m0 ≡ m1 → n0 ≡ n1 → Got other d0 m0 n0 → Got read d1 m1 n1
got_same read other d0 d1 m0 m1 n0 n1 e a c d h = record {
  final = h.final;
  is = e ∙ h.is;
  disposes_is = h.disposes_is ∙ a;
  members_is = h.members_is ∙ c;
  nodes_is = h.nodes_is ∙ d;
}

no_more : {A : Type 0} (l : List A) → l ≡ l ++ []
no_more [] = refl
no_more (a ∷ l) = ap (λ q. a ∷ q) (no_more l)

or_false : (b : Bool) → b ≡ b || false
or_false true = refl
or_false false = refl

or_true : (b d : Bool) → true || d ≡ b || true
or_true true d = refl
or_true false d = refl

module _ (all : List Piece) where
  parts_done : (count : ℕ) (parts : Parts) → r.parts_in all count parts [] ≡ Some parts
  unfolding r.parts_in
  parts_done zero parts = refl
  parts_done (suc count) parts = refl

  -- a turn
  one_part : (count : ℕ) (parts more : Parts) (ps rest : List Piece) (disposes : Bool) (found : List Member) (nodes : List TNode) → length rest < length ps → length ps ≤ count →
      r.turn all parts ps ≡ Some (more, rest) → ((left : ℕ) → length rest ≤ left → Got (r.parts_in all left more rest) disposes found nodes) → Got (r.parts_in all count parts ps) disposes found nodes
  unfolding r.parts_in
  one_part zero parts more ps rest disposes found nodes less short e h = absurd (omega arith)
  one_part (suc count) parts more [] rest disposes found nodes less short e h = absurd (omega arith)
  one_part (suc count) parts more (p ∷ ps) rest disposes found nodes less short e h =
      got_same (r.parts_in all (suc count) parts (p ∷ ps)) (r.parts_in all count more rest) disposes disposes found found nodes nodes
      (bind_is (r.turn all parts (p ∷ ps)) (more, rest) (λ x. r.parts_in all count x.0 x.1) e) refl refl refl (h count (omega arith))

  -- the parts with a text
  text_with : (d0 : Bool) (m0 : List Member) (n0 : List TNode) (n : ℕ) (edge behind : Bool) (p : Place) (text : List ℕ) (texts : List TNode) → texts ≡ text_nodes edge behind n p text →
      r.text (parts_of d0 m0 n0 n edge) behind p text ≡ parts_of d0 m0 (n0 ++ texts) (n + length texts) behind
  text_with d0 m0 n0 n edge behind p text texts f =
      ap (λ (x : List TNode × ℕ). parts_of d0 m0 x.0 x.1 behind) (text_is n0 edge behind n p text) ∙ ap (λ (l : List TNode). parts_of d0 m0 (n0 ++ l) (n + length l) behind) (sym f)

  abbrev by_run : Parts → List Piece → List ℕ × List Piece → Read Parts
  by_run parts ps run = r.turn_by (item_edge run.1) all parts (place_of ps) run.0 run.1

  item_turn : (d0 : Bool) (m0 : List Member) (n0 : List TNode) (n i : ℕ) (edge behind : Bool) (text : List ℕ) (ps us vs : List Piece) (texts : List TNode) (node : TNode) → literal_run ps ≡ (text, us) →
      item_edge us ≡ Some behind → texts ≡ text_nodes edge behind n (place_of ps) text → item_first all (n + length texts) us ≡ Some (node, i, vs) →
      r.turn all (parts_of d0 m0 n0 n edge) ps ≡ Some (parts_of d0 m0 ((n0 ++ texts) ++ node ∷ []) i behind, vs)
  item_turn d0 m0 n0 n i edge behind text ps us vs texts node e there f h =
      let more : Parts = parts_of d0 m0 (n0 ++ texts) (n + length texts) behind in
      ap (by_run (parts_of d0 m0 n0 n edge) ps) e ∙ ap (λ (d : Option Bool). r.turn_by d all (parts_of d0 m0 n0 n edge) (place_of ps) text us) there
      ∙ ap (λ (x : Parts). r.item all x us) (text_with d0 m0 n0 n edge behind (place_of ps) text texts f)
      ∙ bind_is (item_first all more.number us) (node, i, vs) (λ x. Some (record more { nodes = more.nodes ++ x.0 ∷ []; number = x.1 }, x.2)) h

  -- a piece beside which white space is dropped
  edge_turn : (d0 : Bool) (m0 : List Member) (n0 : List TNode) (n : ℕ) (edge : Bool) (text : List ℕ) (mark : Mark) (at : Piece) (ps us : List Piece) (texts : List TNode) → literal_run ps ≡ (text, at ∷ us) →
      mark_of at.kind ≡ mark → edge_of mark ≡ None → texts ≡ text_nodes edge true n (place_of ps) text →
      r.turn all (parts_of d0 m0 n0 n edge) ps ≡ r.edge_by mark (parts_of d0 m0 (n0 ++ texts) (n + length texts) true) us
  edge_turn d0 m0 n0 n edge text mark at ps us texts e is none f =
      ap (by_run (parts_of d0 m0 n0 n edge) ps) e
      ∙ ap (λ (d : Option Bool). r.turn_by d all (parts_of d0 m0 n0 n edge) (place_of ps) text (at ∷ us)) (ap edge_of is ∙ none)
      ∙ ap (λ (x : Parts). r.edge x (at ∷ us)) (text_with d0 m0 n0 n edge true (place_of ps) text texts f)
      ∙ ap (λ (x : Mark). r.edge_by x (parts_of d0 m0 (n0 ++ texts) (n + length texts) true) us) is

  code_turn : (parts : Parts) (ts : List Token) (end : Piece) (vs : List Piece) (found : List Member) → members ts ≡ Some found → IsKind k.ExpressionEnd end →
      r.code parts (codes_of ts ++ end ∷ vs) ≡ Some (record parts { members = parts.members ++ found }, vs)
  code_turn parts ts end vs found e is =
      ap (λ (run : List Token × List Piece). after m.ExpressionEnd run.1 >>= λ rest. (members run.0 >>= λ x. Some (record parts { members = parts.members ++ x }, rest))) (code_run_is ts end vs (ap code_of is))
      ∙ bind_is (after m.ExpressionEnd (end ∷ vs)) vs (λ rest. (members ts >>= λ x. Some (record parts { members = parts.members ++ x }, rest))) (after_is m.ExpressionEnd k.ExpressionEnd end vs expression_end_is is)
      ∙ bind_is (members ts) found (λ x. Some (record parts { members = parts.members ++ x }, vs)) e

  directive_turn : (parts : Parts) (ts : List Token) (end : Piece) (vs : List Piece) → IsKind k.DirectiveEnd end → r.edge_by m.Directive parts (codes_of ts ++ end ∷ vs) ≡ Some (parts, vs)
  directive_turn parts ts end vs is =
      ap (λ (run : List Token × List Piece). after m.DirectiveEnd run.1 >>= λ rest. Some (parts, rest)) (code_run_is ts end vs (ap code_of is))
      ∙ bind_is (after m.DirectiveEnd (end ∷ vs)) vs (λ rest. Some (parts, rest)) (after_is m.DirectiveEnd k.DirectiveEnd end vs directive_end_is is)

  -- pieces behind those of an edge
  behind_edge : (text : List ℕ) (at : Piece) (ps us vs : List Piece) → literal_run ps ≡ (text, at ∷ us) → Behind us vs → (length vs < length ps) × Behind ps vs
  behind_edge text at ps us vs e h =
      let run = run_end ps (at ∷ us) text e in
      let a = not_longer ps (at ∷ us) run in
      let c = not_longer us vs h in
      (omega arith, far_end ps (at ∷ us) vs run (one_end at us vs h))

  parts_last : (count : ℕ) (d0 : Bool) (m0 : List Member) (n0 : List TNode) (edge : Bool) (n : ℕ) (text : List ℕ) (ps : List Piece) → length ps ≤ count → literal_run ps ≡ (text, []) →
      Got (r.parts_in all count (parts_of d0 m0 n0 n edge) ps) (d0 || false) (m0 ++ []) (n0 ++ text_nodes edge true n (place_of ps) text)
  parts_last count d0 m0 n0 edge n text [] short e = record {
    final = parts_of d0 m0 n0 n edge;
    is = parts_done count (parts_of d0 m0 n0 n edge);
    disposes_is = or_false d0;
    members_is = no_more m0;
    nodes_is = no_more n0 ∙ ap (λ (run : List ℕ × List Piece). n0 ++ text_nodes edge true n (place_of []) run.0) e;
  }
  parts_last count d0 m0 n0 edge n text (p ∷ ps) short e =
      let texts : List TNode = text_nodes edge true n p.place text in
      let more : Parts = parts_of d0 m0 (n0 ++ texts) (n + length texts) true in
      one_part count (parts_of d0 m0 n0 n edge) more (p ∷ ps) [] (d0 || false) (m0 ++ []) (n0 ++ texts) (omega arith) short
      (ap (by_run (parts_of d0 m0 n0 n edge) (p ∷ ps)) e ∙ ap (λ (x : Parts). Some (x, [])) (text_with d0 m0 n0 n edge true p.place text texts refl))
      (λ left enough. record { final = more; is = parts_done left more; disposes_is = or_false d0; members_is = no_more m0; nodes_is = refl })

  parts_read : (count : ℕ) (d0 : Bool) (m0 : List Member) (n0 : List TNode) (edge : Bool) (n : ℕ) (ps : List Piece) (disposes : Bool) (found : List Member) (nodes : List TNode) → length ps ≤ count → FlatPieces ps →
      Whole (open_at all) edge n ps disposes found nodes → Got (r.parts_in all count (parts_of d0 m0 n0 n edge) ps) (d0 || disposes) (m0 ++ found) (n0 ++ nodes)
  parts_read count d0 m0 n0 _ _ _ _ _ _ short flat (g.last edge n text ps e) = parts_last count d0 m0 n0 edge n text ps short e
  parts_read count d0 m0 n0 _ _ _ _ _ _ short flat (g.item edge disposes n i text p ps us vs texts nodes node found e f h more) =
      let run = run_end ps (p ∷ us) text e in
      let flat_item = flat_end ps (p ∷ us) flat run in
      let clear = whole_no_else (open_at all) (is_edge p.kind) i vs disposes found nodes more in
      let x = item_read all (n + length texts) (p ∷ us) vs i node flat_item clear h in
      let a = not_longer ps (p ∷ us) run in
      let c = x.short in
      one_part count (parts_of d0 m0 n0 n edge) (parts_of d0 m0 ((n0 ++ texts) ++ node ∷ []) i (is_edge p.kind)) ps vs (d0 || disposes) (m0 ++ found) (n0 ++ (texts ++ node ∷ nodes)) (omega arith) short
      (item_turn d0 m0 n0 n i edge (is_edge p.kind) text ps (p ∷ us) vs texts node e (item_stands (open_at all) (n + length texts) (p ∷ us) vs i node h).edge f
      (item_complete all (n + length texts) (p ∷ us) vs i node flat_item clear h))
      (λ left enough. got_same _ _ (d0 || disposes) (d0 || disposes) (m0 ++ found) (m0 ++ found) (((n0 ++ texts) ++ node ∷ []) ++ nodes) (n0 ++ (texts ++ node ∷ nodes)) refl refl refl
      (append_assoc (n0 ++ texts) (node ∷ []) nodes ∙ append_assoc n0 texts (node ∷ nodes))
      (parts_read left d0 m0 ((n0 ++ texts) ++ node ∷ []) (is_edge p.kind) i vs disposes found nodes enough (flat_end (p ∷ us) vs flat_item x.behind) more))
  parts_read count d0 m0 n0 _ _ _ _ _ _ short flat (g.code edge disposes n text at end ps vs ts texts nodes first found e f is written stops more) =
      let inner : List Piece = codes_of ts ++ end ∷ vs in
      let flat_at = flat_end ps (at ∷ inner) flat (run_end ps (at ∷ inner) text e) in
      let x = behind_edge text at ps inner vs e (far_end inner (end ∷ vs) vs (codes_end ts (end ∷ vs)) (one_end end vs vs (same_end vs))) in
      one_part count (parts_of d0 m0 n0 n edge) (parts_of d0 (m0 ++ first) (n0 ++ texts) (n + length texts) true) ps vs (d0 || disposes) (m0 ++ (first ++ found)) (n0 ++ (texts ++ nodes)) x.0 short
      (edge_turn d0 m0 n0 n edge text m.MembersAt at ps inner texts e (ap mark_of is) refl f
      ∙ code_turn (parts_of d0 m0 (n0 ++ texts) (n + length texts) true) ts end vs first (block_complete ts first (flat_front ts (end ∷ vs) (flat_rest at inner flat_at)) written) stops)
      (λ left enough. got_same _ _ (d0 || disposes) (d0 || disposes) ((m0 ++ first) ++ found) (m0 ++ (first ++ found)) ((n0 ++ texts) ++ nodes) (n0 ++ (texts ++ nodes)) refl refl (append_assoc m0 first found)
      (append_assoc n0 texts nodes) (parts_read left d0 (m0 ++ first) (n0 ++ texts) true (n + length texts) vs disposes found nodes enough (flat_end ps vs flat x.1) more))
  parts_read count d0 m0 n0 _ _ _ _ _ _ short flat (g.directive edge disposes n text at end ps vs ts texts nodes found e f is stops more) =
      let inner : List Piece = codes_of ts ++ end ∷ vs in
      let x = behind_edge text at ps inner vs e (far_end inner (end ∷ vs) vs (codes_end ts (end ∷ vs)) (one_end end vs vs (same_end vs))) in
      one_part count (parts_of d0 m0 n0 n edge) (parts_of d0 m0 (n0 ++ texts) (n + length texts) true) ps vs (d0 || disposes) (m0 ++ found) (n0 ++ (texts ++ nodes)) x.0 short
      (edge_turn d0 m0 n0 n edge text m.Directive at ps inner texts e (ap mark_of is) refl f ∙ directive_turn (parts_of d0 m0 (n0 ++ texts) (n + length texts) true) ts end vs stops)
      (λ left enough. got_same _ _ (d0 || disposes) (d0 || disposes) (m0 ++ found) (m0 ++ found) ((n0 ++ texts) ++ nodes) (n0 ++ (texts ++ nodes)) refl refl refl (append_assoc n0 texts nodes)
      (parts_read left d0 m0 (n0 ++ texts) true (n + length texts) vs disposes found nodes enough (flat_end ps vs flat x.1) more))
  parts_read count d0 m0 n0 _ _ _ _ _ _ short flat (g.implements edge disposes n text at ps vs texts nodes found e f is more) =
      let x = behind_edge text at ps vs vs e (same_end vs) in
      one_part count (parts_of d0 m0 n0 n edge) (parts_of true m0 (n0 ++ texts) (n + length texts) true) ps vs (d0 || true) (m0 ++ found) (n0 ++ (texts ++ nodes)) x.0 short
      (edge_turn d0 m0 n0 n edge text m.Implements at ps vs texts e (ap mark_of is) refl f)
      (λ left enough. got_same _ _ (true || disposes) (d0 || true) (m0 ++ found) (m0 ++ found) ((n0 ++ texts) ++ nodes) (n0 ++ (texts ++ nodes)) refl (or_true d0 disposes) refl (append_assoc n0 texts nodes)
      (parts_read left true m0 (n0 ++ texts) true (n + length texts) vs disposes found nodes enough (flat_end ps vs flat x.1) more))

-- the parts of a file that is spelled by its pieces
pub parts_complete : (all : List Piece) (disposes : Bool) (found : List Member) (nodes : List TNode) → FlatPieces all → Whole (open_at all) true 0 all disposes found nodes → Got (r.parts all) disposes found nodes
unfolding r.parts
parts_complete all disposes found nodes flat h = parts_read all (length all) false [] [] true 0 all disposes found nodes (omega arith) flat h
