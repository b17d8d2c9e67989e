-- Turns over statements and over sections, up to the end of their list.
use Rattle.std.proofs.Common.{◌≡◌, ℕ, ◌+◌, ◌-◌, ◌*◌, ◌<◌, ◌≤◌, List, [], ◌∷◌, ◌++◌, length, refl, sym, ap, ◌∙◌, subst, arith, append_assoc}
use Rattle.std.proofs.lemmas.Bool.{ltb-true}
use Rattle.std.specs.Prelude.{Bool, true, false, not, ◌||◌, nat_lt, if◌then◌else◌, Option, Some, None}
use Rattle.cs_ast.specs.declared.expression.Label.{Label}
use Rattle.cs_ast.specs.declared.expression.Stmt.{Stmt}
use Rattle.cs_ast.specs.declared.expression.StmtKind.{StmtKind-F, out-StmtKind}
use Rattle.cs_ast.specs.declared.expression.StmtKind.TheVariants as st
use Rattle.cs_token.specs.declared.token.TokenKind.TheVariants as tk
use Rattle.cs_token.specs.declared.token.Sign.TheVariants as s
use Rattle.cs_grammar.specs.Statements.{defaults, stmt}
use Rattle.cs_grammar.specs.Statements as cs
use Rattle.razor_token.specs.declared.piece.Piece.{Piece}
use Rattle.razor_token.specs.declared.piece.PieceKind.TheVariants as k
use Rattle.razor_ast.specs.declared.node.TNode.{TNode, TNode-F, out-TNode}
use Rattle.razor_ast.specs.declared.node.TNode.TheVariants as nd
use Rattle.razor_ast.specs.declared.node.TSection.{TSection}
use Rattle.razor_ast.specs.Pieces.{IsSign}
use Rattle.razor_ast.specs.Statements.{SomeLabels, Leaves, section}
use Rattle.razor_ast.specs.Statements as gs
use Rattle.razor_reader.specs.declared.frame.Frame.{Frame}
use Rattle.razor_reader.specs.declared.frame.Frame.TheVariants as fr
use Rattle.razor_reader.specs.declared.frame.Jumps.{Jumps}
use Rattle.razor_reader.specs.declared.frame.Next.{Next}
use Rattle.razor_reader.specs.declared.frame.Next.TheVariants as nx
use Rattle.razor_reader.specs.declared.frame.OpenBlock.{OpenBlock}
use Rattle.razor_reader.specs.declared.frame.OpenSection.{OpenSection}
use Rattle.razor_reader.specs.declared.frame.OpenSwitch.{OpenSwitch}
use Rattle.razor_reader.specs.declared.frame.Wanted.TheVariants as wanted
use Rattle.razor_reader.specs.declared.item.Turn.TheVariants as t
use Rattle.razor_reader.specs.declared.mark.Mark.TheVariants as m
use Rattle.razor_reader.specs.Marks.{sign_mark, mark_of, mark_number, is_mark}
use Rattle.razor_reader.specs.Reading.{Numbered, ◌>>=◌, after}
use Rattle.razor_reader.specs.BeginReading.{begin}
use Rattle.razor_reader.specs.HeadReading.{has_label, labels_first}
use Rattle.razor_reader.specs.GoingReading as r
use Rattle.razor_reader.proofs.FirstPieces.{Closing, brace_closes, brace_no_label}
use Rattle.razor_reader.proofs.SimpleComplete.{labels_begin, labels_complete}
use Rattle.razor_reader.proofs.SuffixLemmas.{Behind, same_end, far_end, labels_end, labels_less}
use Rattle.razor_reader.proofs.TurnSteps.{State, Reaches, Leads, no_turn, one_turn, then_turns, to_same, inside}
use Rattle.razor_reader.proofs.ValueComplete.{after_is, bind_is}

-- where jumps may stand, as the reader has it
abbrev pub back : cs.Jumps → Jumps
back j = record { breaks = j.breaks; continues = j.continues }

-- the last of nodes leaves

by_stmt : (a : Stmt) → r.leaves_by a ≡ true → r.node_leaves (nd.Statement a) ≡ true
by_stmt a e = ap (λ x. elim x [ TNode-F.Statement a ↦ r.leaves_by a | _ ↦ false ]) (nd.outs-Statement a) ∙ e

leaves_behind : (a : TNode) (others : List TNode) → r.leaves others ≡ true → r.leaves (a ∷ others) ≡ true
leaves_behind a [] e = absurd (cc)
leaves_behind a (b ∷ others) e = e

pub leaves_complete : (nodes : List TNode) → Leaves nodes → r.leaves nodes ≡ true
leaves_complete _ (gs.by_break p) = by_stmt (stmt p st.Break) (ap (λ x. elim x [ StmtKind-F.Break ↦ true | StmtKind-F.Return value ↦ true | _ ↦ false ]) st.outs-Break)
leaves_complete _ (gs.by_return p value) =
    by_stmt (stmt p (st.Return value)) (ap (λ x. elim x [ StmtKind-F.Break ↦ true | StmtKind-F.Return value ↦ true | _ ↦ false ]) (st.outs-Return value))
leaves_complete _ (gs.later first others h) = leaves_behind first others (leaves_complete others h)

no_more : {A : Type 0} (l : List A) → l ++ [] ≡ l
no_more [] = refl
no_more (a ∷ l) = ap (λ q. a ∷ q) (no_more l)

close_is : is_mark m.CloseBrace (k.Code (tk.Sign s.CloseBrace)) ≡ true
unfolding sign_mark mark_number
close_is = refl

pub at_brace : (c : Piece) (rest : List Piece) → IsSign s.CloseBrace c → after m.CloseBrace (c ∷ rest) ≡ Some rest
at_brace c rest i = after_is m.CloseBrace (k.Code (tk.Sign s.CloseBrace)) c rest close_is i

-- a block and a section with more statements
abbrev pub block_of : OpenBlock → List TNode → OpenBlock
block_of o items = record { place = o.place; jumps = o.jumps; found = o.found ++ items }

abbrev pub section_of : OpenSection → List TNode → OpenSection
section_of o items = record { before = o.before; labels = o.labels; found = o.found ++ items }

module _ (all : List Piece) where
  -- statements lead to what stands behind them
  pub record LinesRun (j : cs.Jumps) (n : ℕ) (ps rest : List Piece) (i : ℕ) (items : List TNode) : Type 0 where
    pub count : ℕ
    pub in_block : (o : OpenBlock) (frames : List Frame) → o.jumps ≡ back j → Reaches all count (frames, nx.Block o, n, ps) (frames, nx.Block (block_of o items), i, rest)
    pub in_section : (o : OpenSection) (frames : List Frame) → o.before.jumps ≡ back j → Reaches all count (frames, nx.Section o, n, ps) (frames, nx.Section (section_of o items), i, rest)
    pub short : count + 4 * length rest ≤ 4 * length ps
    pub behind : Behind ps rest

  nothing : (rest : ℕ) → 0 + 4 * rest ≤ 4 * rest
  nothing rest = omega arith

  pub no_lines : (j : cs.Jumps) (n : ℕ) (rest : List Piece) → LinesRun j n rest rest n []
  no_lines j n rest = record {
    count = 0;
    in_block = λ o frames same.
        to_same all 0 (frames, nx.Block o, n, rest) (frames, nx.Block o, n, rest) (frames, nx.Block (block_of o []), n, rest)
        (ap (λ (l : List TNode). (frames, nx.Block (record { place = o.place; jumps = o.jumps; found = l }), n, rest)) (sym (no_more o.found))) (no_turn all (frames, nx.Block o, n, rest));
    in_section = λ o frames same.
        to_same all 0 (frames, nx.Section o, n, rest) (frames, nx.Section o, n, rest) (frames, nx.Section (section_of o []), n, rest)
        (ap (λ (l : List TNode). (frames, nx.Section (record { before = o.before; labels = o.labels; found = l }), n, rest)) (sym (no_more o.found))) (no_turn all (frames, nx.Section o, n, rest));
    short = nothing (length rest);
    behind = same_end rest;
  }

  -- one statement in a list
  block_line : (o : OpenBlock) (j : cs.Jumps) (n : ℕ) (ps : List Piece) → o.jumps ≡ back j → r.ends ps ≡ false → r.block o n ps ≡ Some (nx.Inside (fr.Block o) (wanted.Line (back j)), n, ps)
  block_line o j n ps same e =
      ap (λ (b : Bool). if not b then Some (nx.Inside (fr.Block o) (wanted.Line o.jumps), n, ps) else (after m.CloseBrace ps >>= λ rest. Some (nx.Done (nd.Block o.place o.found), n, rest))) e
      ∙ ap (λ (jumps : Jumps). Some (nx.Inside (fr.Block o) (wanted.Line jumps), n, ps)) same

  section_line : (o : OpenSection) (j : cs.Jumps) (n : ℕ) (ps : List Piece) → o.before.jumps ≡ back j → r.ends ps ≡ false → r.section_on o n ps ≡ Some (nx.Inside (fr.Section o) (wanted.Line (back j)), n, ps)
  section_line o j n ps same e =
      ap (λ (b : Bool). if not b then Some (nx.Inside (fr.Section o) (wanted.Line o.before.jumps), n, ps) else (if not (r.leaves o.found) then None else Some (nx.Switch (r.switch_with o), n, ps))) e
      ∙ ap (λ (jumps : Jumps). Some (nx.Inside (fr.Section o) (wanted.Line jumps), n, ps)) same

  sums : (one more ps us rest : ℕ) → one + 3 + 4 * us ≤ 4 * ps → more + 4 * rest ≤ 4 * us → 1 + (1 + (one + 1) + more) + 4 * rest ≤ 4 * ps
  sums one more ps us rest a b = omega arith

  pub more_lines : (j : cs.Jumps) (n l i : ℕ) (ps us rest : List Piece) (first : TNode) (others : List TNode) → r.ends ps ≡ false → Leads all (begin all (wanted.Line (back j)) n ps) ps us l first →
      LinesRun j l us rest i others → LinesRun j n ps rest i (first ∷ others)
  more_lines j n l i ps us rest first others e one more = record {
    count = 1 + (1 + (one.count + 1) + more.count);
    in_block = λ o frames same.
        let begins : State = (frames, nx.Block o, n, ps) in
        let within : State = (frames, nx.Inside (fr.Block o) (wanted.Line (back j)), n, ps) in
        let goes : State = (frames, nx.Block (block_of o (first ∷ [])), l, us) in
        let finished : State = (frames, nx.Block (block_of o (first ∷ others)), i, rest) in
        then_turns all 1 (1 + (one.count + 1) + more.count) begins within finished
        (one_turn all begins within (bind_is (r.block o n ps) (nx.Inside (fr.Block o) (wanted.Line (back j)), n, ps) (λ x. Some (frames, t.Goes x.0, x.1, x.2)) (block_line o j n ps same e)))
        (then_turns all (1 + (one.count + 1)) more.count within goes finished
        (inside all (wanted.Line (back j)) n ps us l first one (fr.Block o) frames (nx.Block (block_of o (first ∷ []))) l us refl)
        (to_same all more.count goes (frames, nx.Block (block_of (block_of o (first ∷ [])) others), i, rest) finished
        (ap (λ (x : List TNode). (frames, nx.Block (record { place = o.place; jumps = o.jumps; found = x }), i, rest)) (append_assoc o.found (first ∷ []) others))
        (more.in_block (block_of o (first ∷ [])) frames same)));
    in_section = λ o frames same.
        let begins : State = (frames, nx.Section o, n, ps) in
        let within : State = (frames, nx.Inside (fr.Section o) (wanted.Line (back j)), n, ps) in
        let goes : State = (frames, nx.Section (section_of o (first ∷ [])), l, us) in
        let finished : State = (frames, nx.Section (section_of o (first ∷ others)), i, rest) in
        then_turns all 1 (1 + (one.count + 1) + more.count) begins within finished
        (one_turn all begins within (bind_is (r.section_on o n ps) (nx.Inside (fr.Section o) (wanted.Line (back j)), n, ps) (λ x. Some (frames, t.Goes x.0, x.1, x.2)) (section_line o j n ps same e)))
        (then_turns all (1 + (one.count + 1)) more.count within goes finished
        (inside all (wanted.Line (back j)) n ps us l first one (fr.Section o) frames (nx.Section (section_of o (first ∷ []))) l us refl)
        (to_same all more.count goes (frames, nx.Section (section_of (section_of o (first ∷ [])) others), i, rest) finished
        (ap (λ (x : List TNode). (frames, nx.Section (record { before = o.before; labels = o.labels; found = x }), i, rest)) (append_assoc o.found (first ∷ []) others))
        (more.in_section (section_of o (first ∷ [])) frames same)));
    short = sums one.count more.count (length ps) (length us) (length rest) one.short more.short;
    behind = far_end ps us rest one.behind more.behind;
  }

  -- sections lead to the whole `switch`
  pub record SectionsRun (j : cs.Jumps) (room n : ℕ) (ps rest : List Piece) (i : ℕ) (sections : List TSection) : Type 0 where
    pub count : ℕ
    pub reaches : (o : OpenSwitch) (frames : List Frame) (c : Piece) (us : List Piece) → o.jumps ≡ back j → o.room ≡ room → rest ≡ c ∷ us → IsSign s.CloseBrace c →
        Reaches all count (frames, nx.Switch o, n, ps) (frames, nx.Done (nd.Switch o.place o.value (o.sections ++ sections)), i, us)
    pub short : count + 4 * length rest ≤ 4 * length ps + 1
    pub behind : Behind ps rest

  switch_step : OpenSwitch → ℕ → List Piece → Bool → Numbered Next
  switch_step o n ps b = if b then r.labelled o n ps else (after m.CloseBrace ps >>= λ rest. Some (nx.Done (nd.Switch o.place o.value o.sections), n, rest))

  switch_end : (o : OpenSwitch) (n : ℕ) (c : Piece) (us : List Piece) → IsSign s.CloseBrace c → r.switch o n (c ∷ us) ≡ Some (nx.Done (nd.Switch o.place o.value o.sections), n, us)
  unfolding switch_step
  switch_end o n c us i =
      ap (switch_step o n (c ∷ us)) (brace_no_label c us i)
      ∙ bind_is (after m.CloseBrace (c ∷ us)) us (λ rest. Some (nx.Done (nd.Switch o.place o.value o.sections), n, rest)) (at_brace c us i)

  last_one : (rest : ℕ) → 1 + 4 * rest ≤ 4 * rest + 1
  last_one rest = omega arith

  pub no_sections : (j : cs.Jumps) (room n : ℕ) (rest : List Piece) → SectionsRun j room n rest rest n []
  no_sections j room n rest = record {
    count = 1;
    reaches = λ o frames c us same small whole i.
        to_same all 1 (frames, nx.Switch o, n, rest) (frames, nx.Done (nd.Switch o.place o.value o.sections), n, us) (frames, nx.Done (nd.Switch o.place o.value (o.sections ++ [])), n, us)
        (ap (λ (l : List TSection). (frames, nx.Done (nd.Switch o.place o.value l), n, us)) (sym (no_more o.sections)))
        (one_turn all (frames, nx.Switch o, n, rest) (frames, nx.Done (nd.Switch o.place o.value o.sections), n, us)
        (bind_is (r.switch o n rest) (nx.Done (nd.Switch o.place o.value o.sections), n, us) (λ x. Some (frames, t.Goes x.0, x.1, x.2)) (ap (r.switch o n) whole ∙ switch_end o n c us i)));
    short = last_one (length rest);
    behind = same_end rest;
  }

  not_less : (room some : ℕ) → some ≤ room → nat_lt room some ≡ false
  not_less room some h = go (nat_lt room some) refl
    where
      go : (b : Bool) → nat_lt room some ≡ b → b ≡ false
      go true e = let less : room < some = ltb-true _ _ e in absurd (omega arith)
      go false e = refl

  -- the labels of a section
  switch_labels : (o : OpenSwitch) (room n : ℕ) (ps us : List Piece) (labels : List Label) → o.room ≡ room → SomeLabels ps us labels → has_label us ≡ false → defaults labels ≤ room →
      r.switch o n ps ≡ Some (nx.Section (r.section_of o labels), n, us)
  unfolding switch_step
  switch_labels o room n ps us labels same h stops small =
      ap (switch_step o n ps) (labels_begin ps us labels h)
      ∙ bind_is (labels_first ps) (labels, us) (λ x. if nat_lt o.room (defaults x.0) then None else Some (nx.Section (r.section_of o x.0), n, x.1)) (labels_complete ps us labels stops h)
      ∙ ap (λ (b : Bool). if b then None else Some (nx.Section (r.section_of o labels), n, us)) (ap (λ (x : ℕ). nat_lt x (defaults labels)) same ∙ not_less room (defaults labels) small)

  section_end : (o : OpenSection) (n : ℕ) (ps : List Piece) → r.ends ps ≡ true → r.leaves o.found ≡ true → r.section_on o n ps ≡ Some (nx.Switch (r.switch_with o), n, ps)
  section_end o n ps e f =
      ap (λ (b : Bool). if not b then Some (nx.Inside (fr.Section o) (wanted.Line o.before.jumps), n, ps) else (if not (r.leaves o.found) then None else Some (nx.Switch (r.switch_with o), n, ps))) e
      ∙ ap (λ (b : Bool). if not b then None else Some (nx.Switch (r.switch_with o), n, ps)) f

  all_sums : (lines more ps us vs rest : ℕ) → us + 1 ≤ ps → lines + 4 * vs ≤ 4 * us → more + 4 * rest ≤ 4 * vs + 1 → 1 + (lines + (1 + more)) + 4 * rest ≤ 4 * ps + 1
  all_sums lines more ps us vs rest a b c = omega arith

  more_room : (us ps : ℕ) → us < ps → us + 1 ≤ ps
  more_room us ps h = omega arith

  pub more_sections : (j : cs.Jumps) (room n l i : ℕ) (ps us vs rest : List Piece) (labels : List Label) (items : List TNode) (others : List TSection) → SomeLabels ps us labels → has_label us ≡ false →
      defaults labels ≤ room → LinesRun j n us vs l items → r.ends vs ≡ true → Leaves items → SectionsRun j (room - defaults labels) l vs rest i others →
      SectionsRun j room n ps rest i (section labels items ∷ others)
  more_sections j room n l i ps us vs rest labels items others h stops small lines e leaving more = record {
    count = 1 + (lines.count + (1 + more.count));
    reaches = λ o frames c zs same room_is whole close.
        let o2 : OpenSection = r.section_of o labels in
        let o3 : OpenSection = section_of o2 items in
        let o4 : OpenSwitch = r.switch_with o3 in
        let begins : State = (frames, nx.Switch o, n, ps) in
        let within : State = (frames, nx.Section o2, n, us) in
        let behind_lines : State = (frames, nx.Section o3, l, vs) in
        let goes : State = (frames, nx.Switch o4, l, vs) in
        let finished : State = (frames, nx.Done (nd.Switch o.place o.value (o.sections ++ section labels items ∷ others)), i, zs) in
        then_turns all 1 (lines.count + (1 + more.count)) begins within finished
        (one_turn all begins within (bind_is (r.switch o n ps) (nx.Section o2, n, us) (λ x. Some (frames, t.Goes x.0, x.1, x.2)) (switch_labels o room n ps us labels room_is h stops small)))
        (then_turns all lines.count (1 + more.count) within behind_lines finished (lines.in_section o2 frames same)
        (then_turns all 1 more.count behind_lines goes finished
        (one_turn all behind_lines goes (bind_is (r.section_on o3 l vs) (nx.Switch o4, l, vs) (λ x. Some (frames, t.Goes x.0, x.1, x.2)) (section_end o3 l vs e (leaves_complete items leaving))))
        (to_same all more.count goes (frames, nx.Done (nd.Switch o.place o.value ((o.sections ++ section labels items ∷ []) ++ others)), i, zs) finished
        (ap (λ (x : List TSection). (frames, nx.Done (nd.Switch o.place o.value x), i, zs)) (append_assoc o.sections (section labels items ∷ []) others))
        (more.reaches o4 frames c zs same (ap (λ (x : ℕ). x - defaults labels) room_is) whole close))));
    short = all_sums lines.count more.count (length ps) (length us) (length vs) (length rest) (more_room (length us) (length ps) (labels_less ps us labels h)) lines.short more.short;
    behind = far_end ps us rest (labels_end ps us labels h) (far_end us vs rest lines.behind more.behind);
  }
