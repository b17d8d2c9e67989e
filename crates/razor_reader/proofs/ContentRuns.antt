-- Turns over content, up to its end.
use Rattle.std.proofs.Common.{◌≡◌, ℕ, ◌+◌, ◌*◌, ◌<◌, ◌≤◌, List, [], ◌∷◌, ◌++◌, length, refl, sym, ap, ◌∙◌, subst, arith, append_assoc}
use Rattle.std.specs.Prelude.{Bool, true, false, codes, if◌then◌else◌, Option, Some, None}
use Rattle.std.specs.Str.{bytes_eq}
use Rattle.std.proofs.lemmas.Slice.Eq.{bytes_eq-Decides}
use Rattle.text_core.specs.declared.place.Place.{Place}
use Rattle.razor_token.specs.declared.piece.Piece.{Piece}
use Rattle.razor_token.specs.declared.piece.PieceKind.{PieceKind}
use Rattle.razor_token.specs.declared.piece.PieceKind.TheVariants as k
use Rattle.razor_ast.specs.declared.node.TNode.{TNode}
use Rattle.razor_ast.specs.declared.node.TNode.TheVariants as nd
use Rattle.razor_ast.specs.Literals.{literal_run, place_of, is_edge, text_nodes}
use Rattle.razor_ast.specs.Nodes.{Spaced}
use Rattle.razor_ast.specs.Pieces.{IsKind}
use Rattle.razor_reader.specs.declared.frame.Frame.{Frame}
use Rattle.razor_reader.specs.declared.frame.Frame.TheVariants as fr
use Rattle.razor_reader.specs.declared.frame.Next.{Next}
use Rattle.razor_reader.specs.declared.frame.Next.TheVariants as nx
use Rattle.razor_reader.specs.declared.frame.OpenContent.{OpenContent}
use Rattle.razor_reader.specs.declared.frame.OpenTag.{OpenTag}
use Rattle.razor_reader.specs.declared.frame.Owner.{Owner}
use Rattle.razor_reader.specs.declared.frame.Owner.TheVariants as owner
use Rattle.razor_reader.specs.declared.frame.Wanted.TheVariants as wanted
use Rattle.razor_reader.specs.declared.item.Turn.TheVariants as t
use Rattle.razor_reader.specs.declared.mark.Mark.TheVariants as m
use Rattle.razor_reader.specs.Marks.{mark_of, mark_number, is_mark}
use Rattle.razor_reader.specs.Reading.{Numbered, ◌>>=◌, after, past_space}
use Rattle.razor_reader.specs.AttributeReading.{is_attribute}
use Rattle.razor_reader.specs.BeginReading.{begin, tag_node, content_in}
use Rattle.razor_reader.specs.ContentReading as r
use Rattle.razor_reader.proofs.FirstPieces.{Stands}
use Rattle.razor_reader.proofs.GoingSound.{text_is}
use Rattle.razor_reader.proofs.SuffixLemmas.{Behind, run_end, far_end, not_longer}
use Rattle.razor_reader.proofs.TagComplete.{Ends, past_space_is}
use Rattle.razor_reader.proofs.TurnSteps.{State, Reaches, Leads, one_turn, then_turns, inside}
use Rattle.razor_reader.proofs.ValueComplete.{after_is, bind_is}

module _ (all : List Piece) where
  -- content from an edge or none on leads to what its end gives
  pub record ContentRuns (edge : Bool) (n : ℕ) (ps rest : List Piece) (i : ℕ) (nodes : List TNode) : Type 0 where
    pub count : ℕ
    pub reaches : (o : OpenContent) (frames : List Frame) (a : TNode) (l : ℕ) (us : List Piece) → o.edge ≡ edge →
        r.end_of o.owner (o.found ++ nodes) i rest ≡ Some (nx.Done a, l, us) → Reaches all count (frames, nx.Content o, n, ps) (frames, nx.Done a, l, us)
    pub short : count + 4 * length rest ≤ 4 * length ps + 1
    pub behind : Behind ps rest

  one_more : (rest ps : ℕ) → rest ≤ ps → 1 + 4 * rest ≤ 4 * ps + 1
  one_more rest ps h = omega arith

  -- the last text
  content_last : (o : OpenContent) (n : ℕ) (text : List ℕ) (ps rest : List Piece) (texts : List TNode) → literal_run ps ≡ (text, rest) → r.item_edge rest ≡ None →
      texts ≡ text_nodes o.edge true n (place_of ps) text → r.content o n ps ≡ r.end_of o.owner (o.found ++ texts) (n + length texts) rest
  content_last o n text ps rest texts e stops f =
      ap (λ (run : List ℕ × List Piece). r.content_by (r.item_edge run.1) o n (place_of ps) run.0 run.1) e
      ∙ ap (λ (d : Option Bool). r.content_by d o n (place_of ps) text rest) stops
      ∙ ap (λ (x : List TNode × ℕ). r.end_of o.owner x.0 x.1 rest) (text_is o.found o.edge true n (place_of ps) text)
      ∙ ap (λ (l : List TNode). r.end_of o.owner (o.found ++ l) (n + length l) rest) (sym f)

  pub last_runs : (edge : Bool) (n : ℕ) (text : List ℕ) (ps rest : List Piece) (texts : List TNode) → literal_run ps ≡ (text, rest) → r.item_edge rest ≡ None →
      texts ≡ text_nodes edge true n (place_of ps) text → ContentRuns edge n ps rest (n + length texts) texts
  last_runs edge n text ps rest texts e stops f = record {
    count = 1;
    reaches = λ o frames a l us same ended.
        one_turn all (frames, nx.Content o, n, ps) (frames, nx.Done a, l, us)
        (bind_is (r.content o n ps) (nx.Done a, l, us) (λ x. Some (frames, t.Goes x.0, x.1, x.2))
        (content_last o n text ps rest texts e stops (f ∙ ap (λ (d : Bool). text_nodes d true n (place_of ps) text) (sym same)) ∙ ended));
    short = one_more (length rest) (length ps) (not_longer ps rest (run_end ps rest text e));
    behind = run_end ps rest text e;
  }

  -- the content behind a text, and behind an item
  abbrev before_item : OpenContent → Bool → List TNode → OpenContent
  before_item o behind texts = record { owner = o.owner; edge = behind; found = o.found ++ texts }

  abbrev behind_item : OpenContent → Bool → List TNode → TNode → OpenContent
  behind_item o behind texts a = record { owner = o.owner; edge = behind; found = (o.found ++ texts) ++ a ∷ [] }

  content_item : (o : OpenContent) (n : ℕ) (text : List ℕ) (ps us : List Piece) (behind : Bool) (texts : List TNode) → literal_run ps ≡ (text, us) → r.item_edge us ≡ Some behind →
      texts ≡ text_nodes o.edge behind n (place_of ps) text → r.content o n ps ≡ Some (nx.Inside (fr.Content (before_item o behind texts)) wanted.Item, n + length texts, us)
  content_item o n text ps us behind texts e there f =
      ap (λ (run : List ℕ × List Piece). r.content_by (r.item_edge run.1) o n (place_of ps) run.0 run.1) e
      ∙ ap (λ (d : Option Bool). r.content_by d o n (place_of ps) text us) there
      ∙ ap (λ (x : List TNode × ℕ). Some (nx.Inside (fr.Content (record { owner = o.owner; edge = behind; found = x.0 })) wanted.Item, x.1, us)) (text_is o.found o.edge behind n (place_of ps) text)
      ∙ ap (λ (l : List TNode). Some (nx.Inside (fr.Content (before_item o behind l)) wanted.Item, n + length l, us)) (sym f)

  sums : (one more us vs ps rest : ℕ) → one + 3 + 4 * vs ≤ 4 * us → more + 4 * rest ≤ 4 * vs + 1 → us ≤ ps → 1 + (1 + (one + 1) + more) + 4 * rest ≤ 4 * ps + 1
  sums one more us vs ps rest a b c = omega arith

  -- a text and an item, and the content behind it
  pub more_runs : (edge behind : Bool) (n l i : ℕ) (text : List ℕ) (ps us vs rest : List Piece) (texts : List TNode) (node : TNode) (nodes : List TNode) → literal_run ps ≡ (text, us) →
      r.item_edge us ≡ Some behind → texts ≡ text_nodes edge behind n (place_of ps) text → Leads all (begin all wanted.Item (n + length texts) us) us vs l node →
      ContentRuns behind l vs rest i nodes → ContentRuns edge n ps rest i (texts ++ node ∷ nodes)
  more_runs edge behind n l i text ps us vs rest texts node nodes e there f one more = record {
    count = 1 + (1 + (one.count + 1) + more.count);
    reaches = λ o frames a q zs same ended.
        let begins : State = (frames, nx.Content o, n, ps) in
        let within : State = (frames, nx.Inside (fr.Content (before_item o behind texts)) wanted.Item, n + length texts, us) in
        let goes : State = (frames, nx.Content (behind_item o behind texts node), l, vs) in
        let finished : State = (frames, nx.Done a, q, zs) in
        let together = append_assoc (o.found ++ texts) (node ∷ []) nodes ∙ append_assoc o.found texts (node ∷ nodes) in
        then_turns all 1 (1 + (one.count + 1) + more.count) begins within finished
        (one_turn all begins within
        (bind_is (r.content o n ps) (nx.Inside (fr.Content (before_item o behind texts)) wanted.Item, n + length texts, us) (λ x. Some (frames, t.Goes x.0, x.1, x.2))
        (content_item o n text ps us behind texts e there (f ∙ ap (λ (d : Bool). text_nodes d behind n (place_of ps) text) (sym same)))))
        (then_turns all (1 + (one.count + 1)) more.count within goes finished
        (inside all wanted.Item (n + length texts) us vs l node one (fr.Content (before_item o behind texts)) frames (nx.Content (behind_item o behind texts node)) l vs refl)
        (more.reaches (behind_item o behind texts node) frames a q zs refl (ap (λ (x : List TNode). r.end_of o.owner x i rest) together ∙ ended)));
    short = sums one.count more.count (length us) (length vs) (length ps) (length rest) one.short more.short (not_longer ps us (run_end ps us text e));
    behind = far_end ps us rest (run_end ps us text e) (far_end us vs rest one.behind more.behind);
  }

  -- what begins as content leads to what its end gives
  pub content_leads : (read : Numbered Next) (o : Owner) (n i l : ℕ) (ps us rest vs : List Piece) (nodes : List TNode) (a : TNode) → read ≡ Some (content_in o, n, us) →
      ContentRuns true n us rest i nodes → r.end_of o nodes i rest ≡ Some (nx.Done a, l, vs) → length us + 1 ≤ length ps → length vs + 1 ≤ length rest → Behind ps us → Behind rest vs → Leads all read ps vs l a
  content_leads read o n i l ps us rest vs nodes a e h ended less fewer behind beyond = record {
    next = content_in o;
    number = n;
    pieces = us;
    count = h.count;
    begun = e;
    reaches = λ frames. h.reaches (record { owner = o; edge = true; found = [] }) frames a l vs refl ended;
    short = total h.count (length us) (length ps) (length rest) (length vs) h.short less fewer;
    behind = far_end ps us vs behind (far_end us rest vs h.behind beyond);
  }
    where
      total : (count us ps rest vs : ℕ) → count + 4 * rest ≤ 4 * us + 1 → us + 1 ≤ ps → vs + 1 ≤ rest → count + 3 + 4 * vs ≤ 4 * ps
      total count us ps rest vs a b c = omega arith

-- the ends of content

end_is : is_mark m.EndTagEnd k.EndTagEnd ≡ true
unfolding mark_number
end_is = refl

end_ends : (end : Piece) (rest : List Piece) → IsKind k.EndTagEnd end → Ends (end ∷ rest)
unfolding mark_number
end_ends end rest i = record {
  p = end;
  us = rest;
  whole = refl;
  no_space = ap (is_mark m.Space) i;
  no_value = ap (is_mark m.ValueStart) i;
  no_attribute = ap is_attribute i;
}

behind_end : (us rest : List Piece) (end : Piece) → Spaced us (end ∷ rest) → IsKind k.EndTagEnd end → after m.EndTagEnd (past_space us) ≡ Some rest
behind_end us rest end s i = ap (after m.EndTagEnd) (past_space_is us (end ∷ rest) s (end_ends end rest i)) ∙ after_is m.EndTagEnd k.EndTagEnd end rest end_is i

same_name : (x : List ℕ) → bytes_eq x x ≡ true
same_name x = (bytes_eq-Decides x x).1 refl

pub tag_ends : (o : OpenTag) (found : List TNode) (n : ℕ) (close end : Piece) (us rest : List Piece) → IsKind (k.EndTagStart o.name.name) close → Spaced us (end ∷ rest) → IsKind k.EndTagEnd end
    → r.end_of (owner.Tag o) found n (close ∷ us) ≡ Some (nx.Done (tag_node o found), n, rest)
tag_ends o found n close end us rest c s i =
    bind_is (r.end_tag o.name.name (close ∷ us)) rest (λ rest. Some (nx.Done (tag_node o found), n, rest))
    (ap (λ (kind : PieceKind). r.end_tag_by o.name.name kind us) c
    ∙ ap (λ (b : Bool). if b then after m.EndTagEnd (past_space us) else None) (same_name o.name.name) ∙ behind_end us rest end s i)

pub group_ends : (p : Place) (found : List TNode) (n : ℕ) (close end : Piece) (us rest : List Piece) → IsKind (k.EndTagStart (codes "text")) close → Spaced us (end ∷ rest) → IsKind k.EndTagEnd end
    → r.end_of (owner.Group p) found n (close ∷ us) ≡ Some (nx.Done (nd.Group p found), n, rest)
group_ends p found n close end us rest c s i =
    ap (λ (b : Bool). if b then (after m.EndTagEnd (past_space us) >>= λ rest. Some (nx.Done (nd.Group p found), n, rest)) else None) (ap r.is_text_end c ∙ same_name (codes "text"))
    ∙ bind_is (after m.EndTagEnd (past_space us)) rest (λ rest. Some (nx.Done (nd.Group p found), n, rest)) (behind_end us rest end s i)

line_end_is : is_mark m.LineEnd k.LineEnd ≡ true
unfolding mark_number
line_end_is = refl

pub line_ends : (p : Place) (found : List TNode) (n : ℕ) (end : Piece) (rest : List Piece) → IsKind k.LineEnd end → r.end_of (owner.Line p) found n (end ∷ rest) ≡ Some (nx.Done (nd.Group p found), n, rest)
line_ends p found n end rest i = bind_is (after m.LineEnd (end ∷ rest)) rest (λ rest. Some (nx.Done (nd.Group p found), n, rest)) (after_is m.LineEnd k.LineEnd end rest line_end_is i)
