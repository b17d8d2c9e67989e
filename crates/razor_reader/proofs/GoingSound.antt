-- What goes on leads to the same.
use Rattle.std.proofs.Common.{◌≡◌, ◌⊎◌, ℕ, zero, suc, ◌+◌, ◌-◌, ◌<◌, ◌≤◌, List, [], ◌∷◌, ◌++◌, length, refl, sym, ap, ◌∙◌, subst, append_assoc, inl, inr, arith}
use Rattle.std.proofs.lemmas.Bool.{ltb-false}
use Rattle.std.specs.Prelude.{Bool, true, false, not, ◌||◌, nat_lt, codes, if◌then◌else◌, Option, Some, None}
use Rattle.text_core.specs.declared.place.Place.{Place}
use Rattle.cs_ast.specs.declared.expression.Stmt.{Stmt}
use Rattle.cs_ast.specs.declared.expression.StmtKind.{StmtKind-F, out-StmtKind, roll-StmtKind, roll-out-StmtKind}
use Rattle.cs_ast.specs.declared.expression.StmtKind.TheVariants as st
use Rattle.cs_grammar.specs.Statements.{stmt, defaults}
use Rattle.cs_token.specs.declared.token.TokenKind.TheVariants as t
use Rattle.cs_token.specs.declared.token.Sign.TheVariants as s
use Rattle.cs_token.specs.declared.token.Word.TheVariants as w
use Rattle.razor_token.specs.declared.piece.Piece.{Piece}
use Rattle.razor_token.specs.declared.piece.PieceKind.{PieceKind}
use Rattle.razor_token.specs.declared.piece.PieceKind.TheVariants as k
use Rattle.razor_ast.specs.declared.node.TNode.{TNode, TNode-F, out-TNode, roll-TNode, roll-out-TNode}
use Rattle.razor_ast.specs.declared.node.TNode.TheVariants as nd
use Rattle.razor_ast.specs.declared.node.TSection.{TSection}
use Rattle.razor_ast.specs.Literals.{literal_run, place_of, is_edge, is_kept, text_node, text_nodes}
use Rattle.razor_ast.specs.Nesting.{open_at}
use Rattle.razor_ast.specs.Nodes.{Content, Line, Lines, Sections, Item}
use Rattle.razor_ast.specs.Nodes as g
use Rattle.razor_ast.specs.Pieces.{IsKind, IsSign}
use Rattle.razor_ast.specs.Statements.{Leaves, section}
use Rattle.razor_ast.specs.Statements as gs
use Rattle.razor_reader.specs.declared.frame.Frame.{Frame}
use Rattle.razor_reader.specs.declared.frame.Frame.TheVariants as fr
use Rattle.razor_reader.specs.declared.frame.Next.{Next}
use Rattle.razor_reader.specs.declared.frame.Next.TheVariants as nx
use Rattle.razor_reader.specs.declared.frame.OpenBlock.{OpenBlock}
use Rattle.razor_reader.specs.declared.frame.OpenContent.{OpenContent}
use Rattle.razor_reader.specs.declared.frame.OpenSection.{OpenSection}
use Rattle.razor_reader.specs.declared.frame.OpenSwitch.{OpenSwitch}
use Rattle.razor_reader.specs.declared.frame.OpenTag.{OpenTag}
use Rattle.razor_reader.specs.declared.frame.Owner.{Owner}
use Rattle.razor_reader.specs.declared.frame.Owner.TheVariants as owner
use Rattle.razor_reader.specs.declared.frame.Wanted.TheVariants as wanted
use Rattle.razor_reader.specs.declared.mark.Mark.{Mark}
use Rattle.razor_reader.specs.declared.mark.Mark.TheVariants as mark
use Rattle.razor_reader.specs.Marks.{sign_mark, word_mark, token_mark, mark_of, is_mark}
use Rattle.razor_reader.specs.Reading.{Numbered, ◌>>=◌, has, after, past_space}
use Rattle.razor_reader.specs.BeginReading.{tag_node}
use Rattle.razor_reader.specs.HeadReading.{has_label, labels_first}
use Rattle.razor_reader.specs.ContentReading.{with_text, edge_of, item_edge, end_tag, is_text_end, end_of, content_by}
use Rattle.razor_reader.specs.ContentReading as c
use Rattle.razor_reader.specs.GoingReading as r
use Rattle.razor_reader.proofs.ReadLemmas.{bind_ok, moved, where_true, where_not, by_test}
use Rattle.razor_reader.proofs.MarkKinds.{of_close_brace, of_else}
use Rattle.razor_reader.proofs.MarkLemmas.{taken}
use Rattle.razor_reader.proofs.HeadSound.{labels_sound}
use Rattle.razor_reader.proofs.StageTypes.{given, Stage, After, OfContent, OfBlock, OfSwitch, OfSection}

abbrev To : Type 0
To = Next × ℕ × List Piece

-- literal texts
pub text_is : (found : List TNode) (before behind : Bool) (n : ℕ) (p : Place) (text : List ℕ) →
    with_text found (before, behind) n p text ≡ (found ++ text_nodes before behind n p text, n + length (text_nodes before behind n p text))
text_is found before behind n p text = go (is_kept before behind text)
  where
    no_more : (l : List TNode) → l ≡ l ++ []
    no_more [] = refl
    no_more (a ∷ l) = ap (λ q. a ∷ q) (no_more l)

    go : (b : Bool) → ◌≡◌ {A = List TNode × ℕ} (if b then (found ++ text_node n p text ∷ [], n + 1) else (found, n))
        (found ++ (if b then text_node n p text ∷ [] else []), n + length (if b then text_node n p text ∷ [] else []))
    go true = refl
    go false = let z : n ≡ n + 0 = omega arith in let l = no_more found in cc

-- an item of content, and whether it is an edge
sign_no_item : (sign : _) → edge_of (sign_mark sign) ≡ None
unfolding sign_mark
sign_no_item s.OpenRound = refl
sign_no_item _ = refl

word_no_item : (word : _) → edge_of (word_mark word) ≡ None
unfolding word_mark
word_no_item w.Break = refl
word_no_item _ = refl

token_no_item : (kind : _) → edge_of (token_mark kind) ≡ None
token_no_item (t.Sign sign) = sign_no_item sign
token_no_item (t.Word word) = word_no_item word
token_no_item _ = refl

edge_is : (kind : PieceKind) (behind : Bool) → edge_of (mark_of kind) ≡ Some behind → is_edge kind ≡ behind
edge_is (k.TagStart name) behind e = cc
edge_is k.At behind e = cc
edge_is k.CodeAt behind e = cc
edge_is (k.Code kind) behind e = let z : None ≡ Some behind = sym (token_no_item kind) ∙ e in absurd (cc)
edge_is _ behind e = absurd (cc)

-- an item stands first
pub record ItemEdge (ps : List Piece) (behind : Bool) : Type 0 where
  pub p : Piece
  pub us : List Piece
  pub whole : ps ≡ p ∷ us
  pub edge : is_edge p.kind ≡ behind

pub item_edge_sound : (ps : List Piece) (behind : Bool) → item_edge ps ≡ Some behind → ItemEdge ps behind
item_edge_sound [] behind e = absurd (cc)
item_edge_sound (p ∷ us) behind e = record { p = p; us = us; whole = refl; edge = edge_is p.kind behind e }

-- at the end of content a part is whole
end_done : (o : Owner) (found : List TNode) (n : ℕ) (ps : List Piece) (x : To) → end_of o found n ps ≡ Some x → (a : TNode) × (x.0 ≡ nx.Done a)
end_done (owner.Tag o) found n ps x e = let y = bind_ok (end_tag o.name.name ps) _ _ e in (tag_node o found, moved {A = To} (λ z. z.0 ≡ nx.Done (tag_node o found)) y.2 refl)
end_done (owner.Group p) found n [] x e = absurd (cc)
end_done (owner.Group p) found n (d ∷ ps) x e =
    let y = where_true (is_text_end d.kind) _ x e in
    let z = bind_ok (after mark.EndTagEnd (past_space ps)) _ _ y.1 in
    (nd.Group p found, moved {A = To} (λ q. q.0 ≡ nx.Done (nd.Group p found)) z.2 refl)
end_done (owner.Line p) found n ps x e =
    let y = bind_ok (after mark.LineEnd ps) _ _ e in (nd.Group p found, moved {A = To} (λ q. q.0 ≡ nx.Done (nd.Group p found)) y.2 refl)

-- the last of the nodes leaves
node_leaves_sound : (a : TNode) → r.node_leaves a ≡ true → Leaves (a ∷ [])
node_leaves_sound a e =
    elim (out-TNode a) as (λ x. out-TNode a ≡ x → (elim x [ TNode-F.Statement b ↦ r.leaves_by b | _ ↦ false ]) ≡ true → Leaves (a ∷ [])) [
      | TNode-F.Statement b ↦ λ i f. subst (λ q. Leaves (q ∷ [])) (sym (sym (roll-out-TNode a) ∙ ap roll-TNode i ∙ nd.rolls-Statement b)) (by b f)
      | _ ↦ λ i f. absurd (cc)
    ] refl e
  where
    by : (b : Stmt) → r.leaves_by b ≡ true → Leaves (nd.Statement b ∷ [])
    by b f =
        elim (out-StmtKind b.kind) as (λ x. out-StmtKind b.kind ≡ x → (elim x [ StmtKind-F.Break ↦ true | StmtKind-F.Return value ↦ true | _ ↦ false ]) ≡ true → Leaves (nd.Statement b ∷ [])) [
          | StmtKind-F.Break ↦ λ i h. subst (λ kind. Leaves (nd.Statement (stmt b.place kind) ∷ [])) (sym (sym (roll-out-StmtKind b.kind) ∙ ap roll-StmtKind i ∙ st.rolls-Break)) (gs.by_break b.place)
          | StmtKind-F.Return value ↦ λ i h. subst (λ kind. Leaves (nd.Statement (stmt b.place kind) ∷ [])) (sym (sym (roll-out-StmtKind b.kind) ∙ ap roll-StmtKind i ∙ st.rolls-Return value)) (gs.by_return b.place value)
          | _ ↦ λ i h. absurd (cc)
        ] refl f

leaves_sound : (nodes : List TNode) → r.leaves nodes ≡ true → Leaves nodes
leaves_sound [] e = absurd (cc)
leaves_sound (a ∷ []) e = node_leaves_sound a e
leaves_sound (a ∷ b ∷ others) e = gs.later a (b ∷ others) (leaves_sound (b ∷ others) e)

no_more : (l : List TNode) → l ++ [] ≡ l
no_more [] = refl
no_more (a ∷ l) = ap (λ q. a ∷ q) (no_more l)

no_more_sections : (l : List TSection) → l ++ [] ≡ l
no_more_sections [] = refl
no_more_sections (a ∷ l) = ap (λ q. a ∷ q) (no_more_sections l)

where_room : {A : Type 0} (b : Bool) (o : Option A) (a : A) → (if b then None else o) ≡ Some a → (b ≡ false) × (o ≡ Some a)
where_room true o a e = absurd (cc)
where_room false o a e = (refl, e)

not_there : (x : Mark) (ps : List Piece) → after x ps ≡ None → has x ps ≡ false
not_there x [] e = refl
not_there x (p ∷ ps) e = go (is_mark x p.kind) e
  where
    go : (b : Bool) → (if b then Some ps else None) ≡ None → b ≡ false
    go true e = absurd (cc)
    go false e = refl

module _ (all : List Piece) (G : List Piece → ℕ → TNode → Type 0) where
  abbrev Leads : To → Type 0
  Leads x = Stage all G x.0 x.1 x.2

  -- content
  with_item : (o : OpenContent) (n : ℕ) (ps : List Piece) (behind : Bool) → OfContent all G o n ps → item_edge (literal_run ps).1 ≡ Some behind →
      (rest : List Piece) (m : ℕ) (a : TNode) →
      Item (open_at all) (n + length (text_nodes o.edge behind n (place_of ps) (literal_run ps).0)) (literal_run ps).1 rest m a →
      OfContent all G (record { owner = o.owner; edge = behind; found = (o.found ++ text_nodes o.edge behind n (place_of ps) (literal_run ps).0) ++ a ∷ [] }) m rest
  with_item o n ps behind h e rest m a item = λ us i more b j vs content ended.
      let x = item_edge_sound (literal_run ps).1 behind e in
      let texts = text_nodes o.edge behind n (place_of ps) (literal_run ps).0 in
      h us i (texts ++ a ∷ more) b j vs
      (g.more_content o.edge n m i (literal_run ps).0 x.p ps x.us rest us texts a more
      (ap (λ l. ((literal_run ps).0, l)) x.whole) (ap (λ d. text_nodes o.edge d n (place_of ps) (literal_run ps).0) (sym x.edge))
      (subst (λ (l : List Piece). Item (open_at all) (n + length texts) l rest m a) x.whole item)
      (subst (λ (d : Bool). Content (open_at all) d m rest us i more) (sym x.edge) content))
      (ap (λ l. end_of o.owner l i us) (sym (append_assoc (o.found ++ texts) (a ∷ []) more ∙ append_assoc o.found texts (a ∷ more))) ∙ ended)

  pub content_sound : (o : OpenContent) (n : ℕ) (ps : List Piece) (x : To) → OfContent all G o n ps → c.content o n ps ≡ Some x → Leads x
  content_sound o n ps x h e = go (item_edge (literal_run ps).1) refl e
    where
      go : (d : Option Bool) → item_edge (literal_run ps).1 ≡ d → content_by d o n (place_of ps) (literal_run ps).0 (literal_run ps).1 ≡ Some x → Leads x
      go (Some behind) i e =
          let same = text_is o.found o.edge behind n (place_of ps) (literal_run ps).0 in
          moved {A = To} Leads e
          (subst (λ (y : List TNode × ℕ). Stage all G (nx.Inside (fr.Content (record { owner = o.owner; edge = behind; found = y.0 })) wanted.Item) y.1 (literal_run ps).1) (sym same)
          (λ rest m a item. with_item o n ps behind h i rest m a item))
      go None i e =
          let same = text_is o.found o.edge true n (place_of ps) (literal_run ps).0 in
          let texts = text_nodes o.edge true n (place_of ps) (literal_run ps).0 in
          let f : end_of o.owner (o.found ++ texts) (n + length texts) (literal_run ps).1 ≡ Some x = ap (λ y. end_of o.owner y.0 y.1 (literal_run ps).1) (sym same) ∙ e in
          let d = end_done o.owner (o.found ++ texts) (n + length texts) (literal_run ps).1 x f in
          subst (λ (y : Next). Stage all G y x.1 x.2) (sym d.1)
          (h (literal_run ps).1 (n + length texts) texts d.0 x.1 x.2 (g.last_text o.edge n (literal_run ps).0 ps (literal_run ps).1 texts refl refl)
          (f ∙ ap (λ y. Some (y, x.1, x.2)) d.1))

  -- blocks
  block_more : (o : OpenBlock) (n : ℕ) (ps : List Piece) → OfBlock all G o n ps → (rest : List Piece) (m : ℕ) (a : TNode) → Line (open_at all) (given o.jumps) n ps rest m a →
      OfBlock all G (record o { found = o.found ++ a ∷ [] }) m rest
  block_more o n ps h rest m a line = λ d us i more lines close.
      subst (λ (l : List TNode). G us i (nd.Block o.place l)) (sym (append_assoc o.found (a ∷ []) more))
      (h d us i (a ∷ more) (g.more_lines (given o.jumps) n m i ps rest (d ∷ us) a more line lines) close)

  pub block_sound : (o : OpenBlock) (n : ℕ) (ps : List Piece) (x : To) → OfBlock all G o n ps → r.block o n ps ≡ Some x → Leads x
  block_sound o n ps x h e = elim (by_test (not (r.ends ps)) _ _ x e) [
    | inl y ↦ moved {A = To} Leads y.1 (λ rest m a line. block_more o n ps h rest m a line)
    | inr y ↦
        let z = bind_ok (after mark.CloseBrace ps) _ _ y.1 in
        let q = taken mark.CloseBrace (k.Code (t.Sign s.CloseBrace)) ps z.0 of_close_brace z.1 in
        moved {A = To} Leads z.2 (subst (λ (l : List TNode). G z.0 n (nd.Block o.place l)) (no_more o.found)
        (h q.p z.0 n [] (subst (λ (l : List Piece). Lines (open_at all) (given o.jumps) n l (q.p ∷ z.0) n []) (sym q.whole) (g.no_line (given o.jumps) n (q.p ∷ z.0))) q.is))
  ]

  -- sections
  section_more : (o : OpenSection) (n : ℕ) (ps : List Piece) → OfSection all G o n ps → (rest : List Piece) (m : ℕ) (a : TNode) → Line (open_at all) (given o.before.jumps) n ps rest m a →
      OfSection all G (record o { found = o.found ++ a ∷ [] }) m rest
  section_more o n ps h rest m a line = λ us i more lines leaves.
      let same = append_assoc o.found (a ∷ []) more in
      subst (λ (l : List TNode). OfSwitch all G (r.switch_with (record o { found = l })) i us) (sym same)
      (h us i (a ∷ more) (g.more_lines (given o.before.jumps) n m i ps rest us a more line lines) (subst Leaves same leaves))

  pub section_sound : (o : OpenSection) (n : ℕ) (ps : List Piece) (x : To) → OfSection all G o n ps → r.section_on o n ps ≡ Some x → Leads x
  section_sound o n ps x h e = elim (by_test (not (r.ends ps)) _ _ x e) [
    | inl y ↦ moved {A = To} Leads y.1 (λ rest m a line. section_more o n ps h rest m a line)
    | inr y ↦
        let z = where_not (r.leaves o.found) _ x y.1 in
        let same = no_more o.found in
        moved {A = To} Leads z.1 (subst (λ (l : List TNode). OfSwitch all G (r.switch_with (record o { found = l })) n ps) same
        (h ps n [] (g.no_line (given o.before.jumps) n ps) (subst Leaves (sym same) (leaves_sound o.found z.0))))
  ]

  -- a section of a `switch`, of which the labels are these
  labelled_sound : (o : OpenSwitch) (n : ℕ) (ps : List Piece) (x : To) → OfSwitch all G o n ps → r.labelled o n ps ≡ Some x → Leads x
  labelled_sound o n ps x h e =
      let y = bind_ok (labels_first ps) _ _ e in
      let z = where_room (nat_lt o.room (defaults y.0.0)) _ x y.2 in
      let small : defaults y.0.0 ≤ o.room = ltb-false _ _ z.0 in
      moved {A = To} Leads z.1 (λ rest m more lines leaves d us i others sections close.
      subst (λ (l : List TSection). G us i (nd.Switch o.place o.value l)) (sym (append_assoc o.sections (section y.0.0 more ∷ []) others))
      (h d us i (section y.0.0 more ∷ others)
      (g.more_sections (given o.jumps) o.room n m i ps y.0.1 rest (d ∷ us) y.0.0 more others (labels_sound ps y.0.1 y.0.0 y.1) small lines leaves sections) close))

  pub switch_sound : (o : OpenSwitch) (n : ℕ) (ps : List Piece) (x : To) → OfSwitch all G o n ps → r.switch o n ps ≡ Some x → Leads x
  switch_sound o n ps x h e = elim (by_test (has_label ps) _ _ x e) [
    | inl y ↦ labelled_sound o n ps x h y.1
    | inr y ↦
        let z = bind_ok (after mark.CloseBrace ps) _ _ y.1 in
        let q = taken mark.CloseBrace (k.Code (t.Sign s.CloseBrace)) ps z.0 of_close_brace z.1 in
        moved {A = To} Leads z.2 (subst (λ (l : List TSection). G z.0 n (nd.Switch o.place o.value l)) (no_more_sections o.sections)
        (h q.p z.0 n [] (subst (λ (l : List Piece). Sections (open_at all) (given o.jumps) o.room n l (q.p ∷ z.0) n []) (sym q.whole) (g.no_section (given o.jumps) o.room n (q.p ∷ z.0))) q.is))
  ]

  -- behind a part inside a frame
  pub resume_sound : (f : Frame) (a : TNode) (n : ℕ) (ps : List Piece) (x : To) → After all G f ps n a → r.resume f a n ps ≡ Some x → Leads x
  resume_sound (fr.Content o) a n ps x h e = moved {A = To} Leads e h
  resume_sound (fr.Block o) a n ps x h e = moved {A = To} Leads e h
  resume_sound (fr.Section o) a n ps x h e = moved {A = To} Leads e h
  resume_sound (fr.Yes braced p j y) a n ps x h e = go (after mark.Else ps) refl e
    where
      go : (d : Option (List Piece)) → after mark.Else ps ≡ d → r.branched_by d (record { braced = braced; place = p; jumps = j; condition = y; first = a }) n ps ≡ Some x → Leads x
      go (Some rest) i e =
          let q = taken mark.Else (k.Code (t.Word w.Else)) ps rest of_else i in
          moved {A = To} Leads e (λ us l b made. h.1 q.p rest us l b q.whole q.is made)
      go None i e = moved {A = To} Leads e (h.0 (not_there mark.Else ps i))
  resume_sound (fr.No p y first) a n ps x h e = moved {A = To} Leads e h
  resume_sound (fr.While i p y) a n ps x h e = moved {A = To} Leads e h
  resume_sound (fr.For i p start condition step) a n ps x h e = moved {A = To} Leads e h
  resume_sound (fr.ForEach i p name list) a n ps x h e = moved {A = To} Leads e h
