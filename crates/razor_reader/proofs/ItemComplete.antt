-- What spells an item is read, over any frames.
use Rattle.std.proofs.Common.{◌≡◌, ℕ, ◌+◌, ◌-◌, ◌*◌, ◌≤◌, List, [], ◌∷◌, length, refl, ap, ◌∙◌, subst, arith}
use Rattle.std.specs.Prelude.{Bool, true, false, not, codes, if◌then◌else◌, Option, Some, None}
use Rattle.text_core.specs.declared.place.Place.{Place}
use Rattle.cs_ast.specs.declared.expression.Expr.{Expr}
use Rattle.cs_token.specs.declared.token.TokenKind.TheVariants as tk
use Rattle.cs_token.specs.declared.token.Sign.TheVariants as s
use Rattle.cs_token.specs.declared.token.Word.TheVariants as w
use Rattle.cs_grammar.specs.Statements as cs
use Rattle.cs_grammar.specs.Tokens.{ident}
use Rattle.razor_token.specs.Tags.{is_component}
use Rattle.razor_token.specs.declared.piece.Piece.{Piece}
use Rattle.razor_token.specs.declared.piece.PieceKind.{PieceKind}
use Rattle.razor_token.specs.declared.piece.PieceKind.TheVariants as k
use Rattle.razor_ast.specs.declared.attribute.Attribute.{Attribute}
use Rattle.razor_ast.specs.declared.node.TNode.{TNode}
use Rattle.razor_ast.specs.declared.node.TNode.TheVariants as nd
use Rattle.razor_ast.specs.declared.node.TSection.{TSection}
use Rattle.razor_ast.specs.AttributeNames.{IsElementName}
use Rattle.razor_ast.specs.Attributes.{AttributesOf}
use Rattle.razor_ast.specs.Literals.{is_edge}
use Rattle.razor_ast.specs.Nesting.{open_at}
use Rattle.razor_ast.specs.Nodes.{Spaced, Inside, Tag, Item, Content, Code, Within, Otherwise, Line, Lines, Sections}
use Rattle.razor_ast.specs.Nodes as g
use Rattle.razor_ast.specs.Pieces.{IsKind, IsSign, IsWord}
use Rattle.razor_ast.specs.Statements as g2
use Rattle.razor_reader.specs.declared.frame.Frame.{Frame}
use Rattle.razor_reader.specs.declared.frame.Frame.TheVariants as fr
use Rattle.razor_reader.specs.declared.frame.Jumps.{Jumps}
use Rattle.razor_reader.specs.declared.frame.Next.{Next}
use Rattle.razor_reader.specs.declared.frame.Next.TheVariants as nx
use Rattle.razor_reader.specs.declared.frame.OpenBlock.{OpenBlock}
use Rattle.razor_reader.specs.declared.frame.OpenSwitch.{OpenSwitch}
use Rattle.razor_reader.specs.declared.frame.Owner.TheVariants as owner
use Rattle.razor_reader.specs.declared.frame.Wanted.{Wanted}
use Rattle.razor_reader.specs.declared.frame.Wanted.TheVariants as wanted
use Rattle.razor_reader.specs.declared.go_on.Branch.{Branch}
use Rattle.razor_reader.specs.declared.item.Turn.TheVariants as t
use Rattle.razor_reader.specs.declared.mark.Mark.TheVariants as m
use Rattle.razor_reader.specs.Marks.{is_mark}
use Rattle.razor_reader.specs.Reading.{Numbered, ◌>>=◌, has, after}
use Rattle.razor_reader.specs.BeginReading as bg
use Rattle.razor_reader.specs.ContentReading.{item_edge}
use Rattle.razor_reader.specs.StatementReading as st
use Rattle.razor_reader.specs.GoingReading as r
use Rattle.razor_reader.proofs.ContentRuns.{ContentRuns, last_runs, more_runs, content_leads, tag_ends, group_ends, line_ends}
use Rattle.razor_reader.proofs.FirstPieces.{code_starts, line_opens, lines_no_else, lines_no_label, Closing, brace_closes, sections_close, shown_first, item_stands, content_no_else}
use Rattle.razor_reader.proofs.ForBegins.{for_begins}
use Rattle.razor_reader.proofs.ItemFacts.{less_one, behind_first, not_after, end_no_item, end_no_else, line_no_item, line_no_else, tag_same, same_name, starts_code, brace_no_if, if_is, else_is, body_braced, one_of_same}
use Rattle.razor_reader.proofs.ListRuns.{back, at_brace, block_of, LinesRun, no_lines, more_lines, SectionsRun, no_sections, more_sections}
use Rattle.razor_reader.proofs.StatementComplete.{simple_begins, block_begins, if_begins, while_begins, foreach_begins, switch_begins, break_begins, continue_begins}
use Rattle.razor_reader.proofs.SuffixLemmas.{Behind, flat_end, not_longer, same_end, far_end, one_end, run_end, round_end, shown_end, shown_less, simple_end, simple_less, attributes_end, spaced_end, labels_end}
use Rattle.razor_reader.proofs.TagComplete.{empty_tag_complete, tag_complete, group_complete, shown_complete, tag_in_code_complete}
use Rattle.razor_reader.proofs.TurnSteps.{Leads, lead_by, done, one_turn, then_turns, inside}
use Rattle.razor_reader.proofs.ValueComplete.{FlatPieces, flat_rest, after_is, bind_is}

module _ (all : List Piece) where
  -- a tag in content and in code
  record TagLeads (n : ℕ) (ps rest : List Piece) (i : ℕ) (a : TNode) : Type 0 where
    in_item : Leads all (bg.item all n ps) ps rest i a
    in_line : (j : Jumps) → Leads all (bg.line all j n ps) ps rest i a

  of_tag : (n : ℕ) (p : Piece) (name : List ℕ) (ps rest : List Piece) (i : ℕ) (a : TNode) → IsKind (k.TagStart name) p → IsElementName name →
      Leads all (bg.tag all n p name ps) (p ∷ ps) rest i a → TagLeads n (p ∷ ps) rest i a
  of_tag n p name ps rest i a is element h = record {
    in_item = lead_by all (bg.item all n (p ∷ ps)) (bg.tag all n p name ps) (p ∷ ps) rest i a (ap (λ (kind : PieceKind). bg.item_by all n kind p ps) is) h;
    in_line = λ j.
        lead_by all (bg.line all j n (p ∷ ps)) (bg.tag all n p name ps) (p ∷ ps) rest i a
        (ap (λ (kind : PieceKind). bg.line_by all j n kind p ps) is ∙ tag_in_code_complete all n p name ps element) h;
  }

  wider_sum : (count rest ps : ℕ) → count + 3 + 4 * rest ≤ 4 * ps → count + 3 + 4 * rest ≤ 4 * (ps + 1)
  wider_sum count rest ps h = omega arith

  longer : (p : Piece) (ps : List Piece) → length ps + 1 ≡ length (p ∷ ps)
  longer p ps = omega arith

  -- the same with a piece before them
  wider : (read : Numbered Next) (p : Piece) (ps rest : List Piece) (i : ℕ) (a : TNode) → Leads all read ps rest i a → Leads all read (p ∷ ps) rest i a
  wider read p ps rest i a h = record {
    next = h.next;
    number = h.number;
    pieces = h.pieces;
    count = h.count;
    begun = h.begun;
    reaches = h.reaches;
    short = subst (λ (x : ℕ). h.count + 3 + 4 * length rest ≤ 4 * x) (longer p ps) (wider_sum h.count (length rest) (length ps) h.short);
    behind = one_end p ps rest h.behind;
  }

  frame_sum : (count rest us ps more : ℕ) → count + 3 + 4 * rest ≤ 4 * us → us ≤ ps → ps + 1 ≡ more → 1 + (count + 1) + 3 + 4 * rest ≤ 4 * more
  frame_sum count rest us ps more h i e = omega arith

  -- what is inside one frame
  in_frame : (read : Numbered Next) (f : Frame) (x : Wanted) (n : ℕ) (u : Piece) (ps us rest : List Piece) (i : ℕ) (a whole : TNode) → read ≡ Some (nx.Inside f x, n, us) → Behind ps us →
      Leads all (bg.begin all x n us) us rest i a → r.resume f a i rest ≡ Some (nx.Done whole, i, rest) → Leads all read (u ∷ ps) rest i whole
  in_frame read f x n u ps us rest i a whole e behind h goes = record {
    next = nx.Inside f x;
    number = n;
    pieces = us;
    count = 1 + (h.count + 1);
    begun = e;
    reaches = λ frames. inside all x n us rest i a h f frames (nx.Done whole) i rest goes;
    short = frame_sum h.count (length rest) (length us) (length ps) (length (u ∷ ps)) h.short (not_longer ps us behind) (longer u ps);
    behind = one_end u ps rest (far_end ps us rest behind h.behind);
  }

  else_sum : (one two rest vs mid us ps more : ℕ) → one + 3 + 4 * mid ≤ 4 * us → two + 3 + 4 * rest ≤ 4 * vs → vs + 1 ≡ mid → us ≤ ps → ps + 1 ≡ more →
      1 + (one + 1) + (1 + (two + 1)) + 3 + 4 * rest ≤ 4 * more
  else_sum one two rest vs mid us ps more a c d e f = omega arith

  -- an `if` with two branches
  in_branches : (read : Numbered Next) (braced : Bool) (p : Place) (j : Jumps) (x : Expr) (n l : ℕ) (u d : Piece) (ps us vs rest : List Piece) (i : ℕ) (first second : TNode) →
      read ≡ Some (nx.Inside (fr.Yes braced p j x) (wanted.Body braced j), n, us) → Behind ps us → Leads all (bg.body braced j n us) us (d ∷ vs) l first → IsWord w.Else d →
      Leads all (bg.otherwise braced j l vs) vs rest i second → Leads all read (u ∷ ps) rest i (nd.If p x first (Some second))
  in_branches read braced p j x n l u d ps us vs rest i first second e behind one word two =
      let branch : Branch = record { braced = braced; place = p; jumps = j; condition = x; first = first } in
      let to_else : r.resume (fr.Yes braced p j x) first l (d ∷ vs) ≡ Some (nx.Inside (fr.No p x first) (wanted.Otherwise braced j), l, vs) =
      ap (λ (o : Option (List Piece)). r.branched_by o branch l (d ∷ vs)) (after_is m.Else (k.Code (tk.Word w.Else)) d vs else_is word) in
      record {
        next = nx.Inside (fr.Yes braced p j x) (wanted.Body braced j);
        number = n;
        pieces = us;
        count = 1 + (one.count + 1) + (1 + (two.count + 1));
        begun = e;
        reaches =
            λ frames.
            then_turns all (1 + (one.count + 1)) (1 + (two.count + 1)) (frames, nx.Inside (fr.Yes braced p j x) (wanted.Body braced j), n, us)
            (frames, nx.Inside (fr.No p x first) (wanted.Otherwise braced j), l, vs) (frames, nx.Done (nd.If p x first (Some second)), i, rest)
            (inside all (wanted.Body braced j) n us (d ∷ vs) l first one (fr.Yes braced p j x) frames (nx.Inside (fr.No p x first) (wanted.Otherwise braced j)) l vs to_else)
            (inside all (wanted.Otherwise braced j) l vs rest i second two (fr.No p x first) frames (nx.Done (nd.If p x first (Some second))) i rest refl);
        short = else_sum one.count two.count (length rest) (length vs) (length (d ∷ vs)) (length us) (length ps) (length (u ∷ ps)) one.short two.short (longer d vs) (not_longer ps us behind) (longer u ps);
        behind = one_end u ps rest (far_end ps us rest behind (far_end us vs rest (far_end us (d ∷ vs) vs one.behind (one_end d vs vs (same_end vs))) two.behind));
      }

  block_sum : (count rest mid ps more : ℕ) → count + 4 * mid ≤ 4 * ps → rest + 1 ≡ mid → ps + 1 ≡ more → count + 1 + 3 + 4 * rest ≤ 4 * more
  block_sum count rest mid ps more h e f = omega arith

  block_end : (o : OpenBlock) (n : ℕ) (c : Piece) (rest : List Piece) → IsSign s.CloseBrace c → r.block o n (c ∷ rest) ≡ Some (nx.Done (nd.Block o.place o.found), n, rest)
  block_end o n c rest i =
      ap (λ (d : Bool). if not d then Some (nx.Inside (fr.Block o) (wanted.Line o.jumps), n, c ∷ rest) else (after m.CloseBrace (c ∷ rest) >>= λ us. Some (nx.Done (nd.Block o.place o.found), n, us))) (brace_closes c rest i).ending
      ∙ bind_is (after m.CloseBrace (c ∷ rest)) rest (λ us. Some (nx.Done (nd.Block o.place o.found), n, us)) (at_brace c rest i)

  in_block : (read : Numbered Next) (p : Place) (j : cs.Jumps) (n i : ℕ) (o c : Piece) (ps rest : List Piece) (items : List TNode) → read ≡ Some (st.begun_block p (back j), n, ps) →
      LinesRun all j n ps (c ∷ rest) i items → IsSign s.CloseBrace c → Leads all read (o ∷ ps) rest i (nd.Block p items)
  in_block read p j n i o c ps rest items e h close =
      let begun : OpenBlock = record { place = p; jumps = back j; found = [] } in
      record {
        next = nx.Block begun;
        number = n;
        pieces = ps;
        count = h.count + 1;
        begun = e;
        reaches =
            λ frames.
            then_turns all h.count 1 (frames, nx.Block begun, n, ps) (frames, nx.Block (block_of begun items), i, c ∷ rest) (frames, nx.Done (nd.Block p items), i, rest) (h.in_block begun frames refl)
            (one_turn all (frames, nx.Block (block_of begun items), i, c ∷ rest) (frames, nx.Done (nd.Block p items), i, rest)
            (bind_is (r.block (block_of begun items) i (c ∷ rest)) (nx.Done (nd.Block p items), i, rest) (λ x. Some (frames, t.Goes x.0, x.1, x.2)) (block_end (block_of begun items) i c rest close)));
        short = block_sum h.count (length rest) (length (c ∷ rest)) (length ps) (length (o ∷ ps)) h.short (longer c rest) (longer o ps);
        behind = one_end o ps rest (far_end ps (c ∷ rest) rest h.behind (one_end c rest rest (same_end rest)));
      }

  switch_sum : (count rest mid us ps more : ℕ) → count + 4 * mid ≤ 4 * us + 1 → rest + 1 ≡ mid → us ≤ ps → ps + 1 ≡ more → count + 3 + 4 * rest ≤ 4 * more
  switch_sum count rest mid us ps more h e i f = omega arith

  in_switch : (read : Numbered Next) (p : Place) (j : cs.Jumps) (x : Expr) (n i : ℕ) (u c : Piece) (ps us rest : List Piece) (sections : List TSection) →
      read ≡ Some (nx.Switch (record { place = p; value = x; jumps = st.in_switch (back j); room = 1; sections = [] }), n, us) → Behind ps us → SectionsRun all (cs.in_switch j) 1 n us (c ∷ rest) i sections →
      IsSign s.CloseBrace c → Leads all read (u ∷ ps) rest i (nd.Switch p x sections)
  in_switch read p j x n i u c ps us rest sections e behind h close =
      let begun : OpenSwitch = record { place = p; value = x; jumps = st.in_switch (back j); room = 1; sections = [] } in
      record {
        next = nx.Switch begun;
        number = n;
        pieces = us;
        count = h.count;
        begun = e;
        reaches = λ frames. h.reaches begun frames c rest refl refl refl close;
        short = switch_sum h.count (length rest) (length (c ∷ rest)) (length us) (length ps) (length (u ∷ ps)) h.short (longer c rest) (not_longer ps us behind) (longer u ps);
        behind = one_end u ps rest (far_end ps us rest behind (far_end us (c ∷ rest) rest h.behind (one_end c rest rest (same_end rest))));
      }

  otherwise_is : (c : Bool) (j : cs.Jumps) (f : Bool) (n : ℕ) (ps rest : List Piece) (i : ℕ) (a : TNode) → Within (open_at all) c j f n ps rest i a → bg.otherwise (not c) (back j) n ps ≡ bg.body (not c) (back j) n ps
  otherwise_is _ _ _ _ _ _ _ _ (g.in_block c j f n i o ps rest body is h) =
      ap (λ (d : Bool). if d then st.statement (not c) o.place (back j) n (o ∷ ps) else bg.body (not c) (back j) n (o ∷ ps)) (ap (is_mark m.If) is ∙ brace_no_if)
  otherwise_is _ _ _ _ _ _ _ _ (g.other j f n i p ps rest body h) = one_of_same (is_mark m.If p.kind) (st.statement false p.place (back j) n (p ∷ ps))

  otherwise_if_is : (braced : Bool) (j : Jumps) (n : ℕ) (u : Piece) (ps : List Piece) → IsWord w.If u → bg.otherwise braced j n (u ∷ ps) ≡ st.statement braced u.place j n (u ∷ ps)
  otherwise_if_is braced j n u ps is = ap (λ (d : Bool). if d then st.statement braced u.place j n (u ∷ ps) else bg.body braced j n (u ∷ ps)) (ap (is_mark m.If) is ∙ if_is)

  -- behind the first branch of an `if` without a second one
  alone : (braced : Bool) (p : Place) (j : Jumps) (x : Expr) (first : TNode) (n : ℕ) (rest : List Piece) → has m.Else rest ≡ false →
      r.resume (fr.Yes braced p j x) first n rest ≡ Some (nx.Done (nd.If p x first None), n, rest)
  alone braced p j x first n rest e =
      ap (λ (o : Option (List Piece)). r.branched_by o (record { braced = braced; place = p; jumps = j; condition = x; first = first }) n rest) (not_after m.Else rest e)

  -- no `else` follows where it may not
  abbrev Clear : Bool → List Piece → Type 0
  Clear f rest = f ≡ false → has m.Else rest ≡ false

  not_clear : (rest : List Piece) → Clear true rest
  not_clear rest = λ e. absurd (cc)

  -- what stands inside a tag leads, behind its attributes, to the whole tag
  abbrev InsideLeads : List ℕ → ℕ → List Piece → List Piece → ℕ → List TNode → Type 0
  InsideLeads name n us rest i children = (k0 : ℕ) (p : Piece) (attributes : List Attribute) (ps vs : List Piece) → FlatPieces ps → IsElementName name →
      AttributesOf (open_at all) (is_component name) (k0 + 1) ps vs n attributes → Spaced vs us → Leads all (bg.tag all k0 p name ps) (p ∷ ps) rest i (g.tag_node (is_component name) k0 p name attributes children)

  mutual
    inside_read : (name : List ℕ) (n : ℕ) (ps rest : List Piece) (i : ℕ) (children : List TNode) → FlatPieces ps → Inside (open_at all) name n ps rest i children → InsideLeads name n ps rest i children
    inside_read _ _ _ _ _ _ flat (g.without_content name n end rest x) = λ k0 p attributes ps us flat_ps element spelled spaced.
        let read = empty_tag_complete all k0 n p end name ps us rest attributes flat_ps element spelled spaced x in
        let behind = far_end us (end ∷ rest) rest (spaced_end us (end ∷ rest) spaced) (one_end end rest rest (same_end rest)) in
        let beyond = far_end ps us rest (attributes_end (open_at all) (is_component name) (k0 + 1) ps us n attributes spelled.spelled) behind in
        done all (bg.tag all k0 p name ps) (p ∷ ps) rest n (g.tag_node (is_component name) k0 p name attributes [])
        (read ∙ ap (λ (a : TNode). Some (nx.Done a, n, rest)) (tag_same k0 p name attributes [])) (behind_first p ps rest beyond) (one_end p ps rest beyond)
    inside_read _ _ _ _ _ _ flat (g.with_content name n i begin close end vs zs rest children x content y white z) = λ k0 p attributes ps us flat_ps element spelled spaced.
        let read = tag_complete all k0 n p begin name ps us vs attributes flat_ps element spelled spaced x in
        let behind = far_end us (begin ∷ vs) vs (spaced_end us (begin ∷ vs) spaced) (one_end begin vs vs (same_end vs)) in
        let beyond = far_end ps us vs (attributes_end (open_at all) (is_component name) (k0 + 1) ps us n attributes spelled.spelled) behind in
        let last = far_end zs (end ∷ rest) rest (spaced_end zs (end ∷ rest) white) (one_end end rest rest (same_end rest)) in
        let runs = content_read true n vs (close ∷ zs) i children (flat_rest begin vs flat) (end_no_item name close zs y) (end_no_else name close zs y) content in
        content_leads all (bg.tag all k0 p name ps) (owner.Tag (bg.open_tag k0 p name attributes)) n i i (p ∷ ps) vs (close ∷ zs) rest children (g.tag_node (is_component name) k0 p name attributes children) read runs
        (tag_ends (bg.open_tag k0 p name attributes) children i close end zs rest y white z ∙ ap (λ (a : TNode). Some (nx.Done a, i, rest)) (tag_same k0 p name attributes children))
        (behind_first p ps vs beyond) (behind_first close zs rest last) (one_end p ps vs beyond) (one_end close zs rest last)

    tag_read : (n : ℕ) (ps rest : List Piece) (i : ℕ) (a : TNode) → FlatPieces ps → Tag (open_at all) n ps rest i a → TagLeads n ps rest i a
    tag_read _ _ _ _ _ flat (g.tag name n l i p ps us vs rest attributes children is element spelled spaced h) =
        let flat_ps = flat_rest p ps flat in
        let beyond = far_end ps us vs (attributes_end (open_at all) (is_component name) (n + 1) ps us l attributes spelled.spelled) (spaced_end us vs spaced) in
        of_tag n p name ps rest i (g.tag_node (is_component name) n p name attributes children) is element
        (inside_read name l vs rest i children (flat_end ps vs flat_ps beyond) h n p attributes ps us flat_ps element spelled spaced)

    pub item_read : (n : ℕ) (ps rest : List Piece) (i : ℕ) (a : TNode) → FlatPieces ps → has m.Else rest ≡ false → Item (open_at all) n ps rest i a → Leads all (bg.begin all wanted.Item n ps) ps rest i a
    item_read _ _ _ _ _ flat clear (g.of_tag n i ps rest node h) = (tag_read n ps rest i node flat h).in_item
    item_read _ _ _ _ _ flat clear (g.of_shown n p ps rest a h) =
        done all (bg.item all n (p ∷ ps)) (p ∷ ps) rest (n + 1) (nd.Content n p.place a)
        (ap (λ (kind : PieceKind). bg.item_by all n kind p ps) (shown_first (p ∷ ps) rest a h) ∙ shown_complete n p.place (p ∷ ps) rest a flat h)
        (less_one (length rest) (length (p ∷ ps)) (shown_less (p ∷ ps) rest a h)) (shown_end (p ∷ ps) rest a h)
    item_read _ _ _ _ _ flat clear (g.of_code n i at ps rest node x h) =
        lead_by all (bg.item all n (at ∷ ps)) (st.statement true at.place (back cs.no_jumps) n ps) (at ∷ ps) rest i node (ap (λ (kind : PieceKind). bg.item_by all n kind at ps) x)
        (wider (st.statement true at.place (back cs.no_jumps) n ps) at ps rest i node (code_read false at.place cs.no_jumps false n ps rest i node (flat_rest at ps flat) (λ e. clear) h))

    pub content_read : (edge : Bool) (n : ℕ) (ps rest : List Piece) (i : ℕ) (nodes : List TNode) → FlatPieces ps → item_edge rest ≡ None → has m.Else rest ≡ false →
        Content (open_at all) edge n ps rest i nodes → ContentRuns all edge n ps rest i nodes
    content_read _ _ _ _ _ _ flat stops clear (g.last_text edge n text ps rest texts e f) = last_runs all edge n text ps rest texts e stops f
    content_read _ _ _ _ _ _ flat stops clear (g.more_content edge n l i text p ps us vs rest texts node nodes e f h more) =
        let flat_item = flat_end ps (p ∷ us) flat (run_end ps (p ∷ us) text e) in
        let one = item_read (n + length texts) (p ∷ us) vs l node flat_item (content_no_else (open_at all) (is_edge p.kind) l vs rest i nodes more clear) h in
        let others = content_read (is_edge p.kind) l vs rest i nodes (flat_end (p ∷ us) vs flat_item one.behind) stops clear more in
        more_runs all edge (is_edge p.kind) n l i text ps (p ∷ us) vs rest texts node nodes e (item_stands (open_at all) (n + length texts) (p ∷ us) vs l node h).edge f one others

    code_read : (c : Bool) (p : Place) (j : cs.Jumps) (f : Bool) (n : ℕ) (ps rest : List Piece) (i : ℕ) (a : TNode) → FlatPieces ps → Clear f rest → Code (open_at all) c p j f n ps rest i a →
        Leads all (st.statement (not c) p (back j) n ps) ps rest i a
    code_read _ _ _ _ _ _ _ _ _ flat clear (g.simple p j f n ps rest a h) =
        done all (st.statement false p (back j) n ps) ps rest n (nd.Statement a) (simple_begins p (back j) n ps rest a flat h) (less_one (length rest) (length ps) (simple_less ps rest a h)) (simple_end ps rest a h)
    code_read _ _ _ _ _ _ _ _ _ flat clear (g.break_ p j f n u c rest may is e) =
        let behind = one_end c rest rest (same_end rest) in
        done all (st.statement false p (back j) n (u ∷ c ∷ rest)) (u ∷ c ∷ rest) rest n (g2.break_at u.place) (break_begins p (back j) n u c rest may is e) (behind_first u (c ∷ rest) rest behind) (one_end u (c ∷ rest) rest behind)
    code_read _ _ _ _ _ _ _ _ _ flat clear (g.continue_ p j f n u c rest may is e) =
        let behind = one_end c rest rest (same_end rest) in
        done all (st.statement false p (back j) n (u ∷ c ∷ rest)) (u ∷ c ∷ rest) rest n (g2.continue_at u.place) (continue_begins p (back j) n u c rest may is e) (behind_first u (c ∷ rest) rest behind)
        (one_end u (c ∷ rest) rest behind)
    code_read _ _ _ _ _ _ _ _ _ flat clear (g.block c p j f n i o d ps rest items x h y) =
        in_block (st.statement (not c) p (back j) n (o ∷ ps)) p j n i o d ps rest items (block_begins (not c) p (back j) n o ps x)
        (lines_read j n ps (d ∷ rest) i items (flat_rest o ps flat) (brace_closes d rest y).no_else h) y
    code_read _ _ _ _ _ _ _ _ _ flat clear (g.if_alone c p j n i u ps us rest ts a body x h e y) =
        let flat_ps = flat_rest u ps flat in
        let behind = round_end ps us ts h in
        in_frame (st.statement (not c) p (back j) n (u ∷ ps)) (fr.Yes (not c) p (back j) a) (wanted.Body (not c) (back j)) n u ps us rest i body (nd.If p a body None)
        (if_begins (not c) p (back j) n u ps us ts a flat_ps x h e) behind (within_read c j false n us rest i body (flat_end ps us flat_ps behind) clear y)
        (alone (not c) p (back j) a body i rest (clear refl))
    code_read _ _ _ _ _ _ _ _ _ flat clear (g.if_else c p j f n l i u d ps us vs rest ts a body other x h e y z q) =
        let flat_ps = flat_rest u ps flat in
        let behind = round_end ps us ts h in
        let flat_us = flat_end ps us flat_ps behind in
        let one = within_read c j true n us (d ∷ vs) l body flat_us (not_clear (d ∷ vs)) y in
        let flat_vs = flat_rest d vs (flat_end us (d ∷ vs) flat_us one.behind) in
        in_branches (st.statement (not c) p (back j) n (u ∷ ps)) (not c) p (back j) a n l u d ps us vs rest i body other (if_begins (not c) p (back j) n u ps us ts a flat_ps x h e) behind one z
        (otherwise_read c j f l vs rest i other flat_vs clear q)
    code_read _ _ _ _ _ _ _ _ _ flat clear (g.while_ c p j f n i u ps us rest ts a body x h e y) =
        let flat_ps = flat_rest u ps flat in
        let behind = round_end ps us ts h in
        in_frame (st.statement (not c) p (back j) n (u ∷ ps)) (fr.While n p a) (wanted.Body (not c) st.in_loop) (n + 1) u ps us rest i body (nd.While n p a body)
        (while_begins (not c) p (back j) n u ps us ts a flat_ps x h e) behind (within_read c cs.in_loop f (n + 1) us rest i body (flat_end ps us flat_ps behind) clear y) refl
    code_read _ _ _ _ _ _ _ _ _ flat clear (g.for_ c p j f n i u ps us rest ts start condition step body x h e y) =
        let flat_ps = flat_rest u ps flat in
        let behind = round_end ps us ts h in
        in_frame (st.statement (not c) p (back j) n (u ∷ ps)) (fr.For n p start condition step) (wanted.Body (not c) st.in_loop) (n + 1) u ps us rest i body (nd.For n p start condition step body)
        (for_begins (not c) p (back j) n u ps us ts start condition step flat_ps x h e) behind (within_read c cs.in_loop f (n + 1) us rest i body (flat_end ps us flat_ps behind) clear y) refl
    code_read _ _ _ _ _ _ _ _ _ flat clear (g.foreach_ c p j f n i x u name ps us rest ts a body is h e y) =
        let flat_ps = flat_rest u ps flat in
        let behind = round_end ps us ts h in
        in_frame (st.statement (not c) p (back j) n (u ∷ ps)) (fr.ForEach n p (ident name x) a) (wanted.Body (not c) st.in_loop) (n + 1) u ps us rest i body (nd.ForEach n p (ident name x) a body)
        (foreach_begins (not c) p (back j) n u name x ps us ts a flat_ps is h e) behind (within_read c cs.in_loop f (n + 1) us rest i body (flat_end ps us flat_ps behind) clear y) refl
    code_read _ _ _ _ _ _ _ _ _ flat clear (g.switch_ c p j f n i u o d ps us rest ts a sections x h e y z q) =
        let flat_ps = flat_rest u ps flat in
        let behind = far_end ps (o ∷ us) us (round_end ps (o ∷ us) ts h) (one_end o us us (same_end us)) in
        in_switch (st.statement (not c) p (back j) n (u ∷ ps)) p j a n i u d ps us rest sections (switch_begins (not c) p (back j) n u o ps us ts a flat_ps x h e y) behind
        (sections_read (cs.in_switch j) 1 n us (d ∷ rest) i sections (flat_end ps us flat_ps behind) (brace_closes d rest q) z) q

    within_read : (c : Bool) (j : cs.Jumps) (f : Bool) (n : ℕ) (ps rest : List Piece) (i : ℕ) (a : TNode) → FlatPieces ps → Clear f rest → Within (open_at all) c j f n ps rest i a →
        Leads all (bg.body (not c) (back j) n ps) ps rest i a
    within_read _ _ _ _ _ _ _ _ flat clear (g.in_block c j f n i o ps rest body is h) =
        lead_by all (bg.body (not c) (back j) n (o ∷ ps)) (st.statement (not c) o.place (back j) n (o ∷ ps)) (o ∷ ps) rest i body (body_braced (not c) (back j) n o ps is)
        (code_read c o.place j f n (o ∷ ps) rest i body flat clear h)
    within_read _ _ _ _ _ _ _ _ flat clear (g.other j f n i p ps rest body h) = code_read true p.place j f n (p ∷ ps) rest i body flat clear h

    otherwise_read : (c : Bool) (j : cs.Jumps) (f : Bool) (n : ℕ) (ps rest : List Piece) (i : ℕ) (a : TNode) → FlatPieces ps → Clear f rest → Otherwise (open_at all) c j f n ps rest i a →
        Leads all (bg.otherwise (not c) (back j) n ps) ps rest i a
    otherwise_read _ _ _ _ _ _ _ _ flat clear (g.otherwise_body c j f n i ps rest node h) =
        lead_by all (bg.otherwise (not c) (back j) n ps) (bg.body (not c) (back j) n ps) ps rest i node (otherwise_is c j f n ps rest i node h) (within_read c j f n ps rest i node flat clear h)
    otherwise_read _ _ _ _ _ _ _ _ flat clear (g.otherwise_if c j f n i u ps rest node is h) =
        lead_by all (bg.otherwise (not c) (back j) n (u ∷ ps)) (st.statement (not c) u.place (back j) n (u ∷ ps)) (u ∷ ps) rest i node (otherwise_if_is (not c) (back j) n u ps is)
        (code_read c u.place j f n (u ∷ ps) rest i node flat clear h)

    line_read : (j : cs.Jumps) (n : ℕ) (ps rest : List Piece) (i : ℕ) (a : TNode) → FlatPieces ps → has m.Else rest ≡ false → Line (open_at all) j n ps rest i a →
        Leads all (bg.begin all (wanted.Line (back j)) n ps) ps rest i a
    line_read _ _ _ _ _ _ flat clear (g.a_statement j n i p ps rest node h) =
        let code = starts_code (p ∷ ps) (code_starts (open_at all) true p.place j false n (p ∷ ps) rest i node h) in
        lead_by all (bg.line all (back j) n (p ∷ ps)) (st.statement false p.place (back j) n (p ∷ ps)) (p ∷ ps) rest i node (ap (λ (kind : PieceKind). bg.line_by all (back j) n kind p ps) code.1)
        (code_read true p.place j false n (p ∷ ps) rest i node flat (λ e. clear) h)
    line_read _ _ _ _ _ _ flat clear (g.a_marked j n i at ps rest node x h) =
        lead_by all (bg.line all (back j) n (at ∷ ps)) (st.statement false at.place (back j) n ps) (at ∷ ps) rest i node (ap (λ (kind : PieceKind). bg.line_by all (back j) n kind at ps) x)
        (wider (st.statement false at.place (back j) n ps) at ps rest i node (code_read true at.place j false n ps rest i node (flat_rest at ps flat) (λ e. clear) h))
    line_read _ _ _ _ _ _ flat clear (g.a_tag j n i ps rest node h) = (tag_read n ps rest i node flat h).in_line (back j)
    line_read _ _ _ _ _ _ flat clear (g.a_shown j n p ps rest a h) =
        done all (bg.line all (back j) n (p ∷ ps)) (p ∷ ps) rest (n + 1) (nd.Content n p.place a)
        (ap (λ (kind : PieceKind). bg.line_by all (back j) n kind p ps) (shown_first (p ∷ ps) rest a h) ∙ shown_complete n p.place (p ∷ ps) rest a flat h)
        (less_one (length rest) (length (p ∷ ps)) (shown_less (p ∷ ps) rest a h)) (shown_end (p ∷ ps) rest a h)
    line_read _ _ _ _ _ _ flat clear (g.a_group j n i p begin close end ps us vs rest items is spaced x content y white z) =
        let behind = far_end ps (begin ∷ us) us (spaced_end ps (begin ∷ us) spaced) (one_end begin us us (same_end us)) in
        let last = far_end vs (end ∷ rest) rest (spaced_end vs (end ∷ rest) white) (one_end end rest rest (same_end rest)) in
        let runs = content_read true n us (close ∷ vs) i items (flat_end ps us (flat_rest p ps flat) behind) (end_no_item (codes "text") close vs y) (end_no_else (codes "text") close vs y) content in
        content_leads all (bg.line all (back j) n (p ∷ ps)) (owner.Group p.place) n i i (p ∷ ps) us (close ∷ vs) rest items (nd.Group p.place items)
        (ap (λ (kind : PieceKind). bg.line_by all (back j) n kind p ps) is
        ∙ ap (λ (d : Bool). if d then bg.group n p.place ps else bg.tag all n p (codes "text") ps) (same_name (codes "text")) ∙ group_complete n p.place begin ps us spaced x)
        runs (group_ends p.place items i close end vs rest y white z) (behind_first p ps us behind) (behind_first close vs rest last) (one_end p ps us behind) (one_end close vs rest last)
    line_read _ _ _ _ _ _ flat clear (g.a_line j n i p end ps rest items is content y) =
        content_leads all (bg.line all (back j) n (p ∷ ps)) (owner.Line p.place) n i i (p ∷ ps) ps (end ∷ rest) rest items (nd.Group p.place items) (ap (λ (kind : PieceKind). bg.line_by all (back j) n kind p ps) is)
        (content_read true n ps (end ∷ rest) i items (flat_rest p ps flat) (line_no_item end rest y) (line_no_else end rest y) content) (line_ends p.place items i end rest y)
        (behind_first p ps ps (same_end ps)) (behind_first end rest rest (same_end rest)) (one_end p ps ps (same_end ps)) (one_end end rest rest (same_end rest))

    lines_read : (j : cs.Jumps) (n : ℕ) (ps rest : List Piece) (i : ℕ) (items : List TNode) → FlatPieces ps → has m.Else rest ≡ false → Lines (open_at all) j n ps rest i items → LinesRun all j n ps rest i items
    lines_read _ _ _ _ _ _ flat clear (g.no_line j n rest) = no_lines all j n rest
    lines_read _ _ _ _ _ _ flat clear (g.more_lines j n l i ps us rest first others h more) =
        let one = line_read j n ps us l first flat (lines_no_else (open_at all) j l us rest i others more clear) h in
        more_lines all j n l i ps us rest first others (line_opens (open_at all) j n ps us l first h).no_end one (lines_read j l us rest i others (flat_end ps us flat one.behind) clear more)

    sections_read : (j : cs.Jumps) (room n : ℕ) (ps rest : List Piece) (i : ℕ) (sections : List TSection) → FlatPieces ps → Closing rest → Sections (open_at all) j room n ps rest i sections →
        SectionsRun all j room n ps rest i sections
    sections_read _ _ _ _ _ _ _ flat closing (g.no_section j room n rest) = no_sections all j room n rest
    sections_read _ _ _ _ _ _ _ flat closing (g.more_sections j room n l i ps us vs rest labels items others h small x leaving z) =
        let flat_us = flat_end ps us flat (labels_end ps us labels h) in
        let closing_vs = sections_close (open_at all) j (room - cs.defaults labels) l vs rest i others z closing in
        let lines = lines_read j n us vs l items flat_us closing_vs.no_else x in
        more_sections all j room n l i ps us vs rest labels items others h (lines_no_label (open_at all) j n us vs l items x leaving) small lines closing_vs.ending leaving
        (sections_read j (room - cs.defaults labels) l vs rest i others (flat_end us vs flat_us lines.behind) closing z)
