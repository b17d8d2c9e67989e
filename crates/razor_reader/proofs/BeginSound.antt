-- What begins as a tag, an item or a line leads to one.
use Rattle.std.proofs.Common.{◌≡◌, ◌⊎◌, ℕ, ◌+◌, List, [], ◌∷◌, ◌++◌, refl, sym, ap, ◌∙◌, subst, inl, inr}
use Rattle.std.specs.Prelude.{Bool, true, false, not, ◌&&◌, codes, if◌then◌else◌, Option, Some, None}
use Rattle.std.specs.Str.{bytes_eq}
use Rattle.text_core.specs.declared.place.Place.{Place}
use Rattle.cs_ast.specs.declared.expression.Expr.{Expr}
use Rattle.cs_token.specs.declared.token.TokenKind.{TokenKind}
use Rattle.cs_token.specs.declared.token.TokenKind.TheVariants as t
use Rattle.cs_token.specs.declared.token.Sign.TheVariants as s
use Rattle.cs_token.specs.declared.token.Word.TheVariants as w
use Rattle.razor_token.specs.Tags.{is_component}
use Rattle.razor_token.specs.declared.piece.Piece.{Piece}
use Rattle.razor_token.specs.declared.piece.PieceKind.{PieceKind}
use Rattle.razor_token.specs.declared.piece.PieceKind.TheVariants as k
use Rattle.razor_ast.specs.declared.attribute.Attribute.{Attribute}
use Rattle.razor_ast.specs.declared.node.TNode.{TNode}
use Rattle.razor_ast.specs.declared.node.TNode.TheVariants as nd
use Rattle.razor_ast.specs.Attributes.{AttributesOf}
use Rattle.razor_ast.specs.Literals.{place_of}
use Rattle.razor_ast.specs.Nesting.{open_at}
use Rattle.razor_ast.specs.Nodes.{Spaced, Tag, Inside, Item, Line, Within, Otherwise, Code, Content, name_at}
use Rattle.razor_ast.specs.Nodes as g
use Rattle.razor_ast.specs.Pieces.{IsKind, IsSign, IsWord}
use Rattle.razor_ast.specs.Shown.{Shown}
use Rattle.razor_reader.specs.declared.frame.Jumps.{Jumps}
use Rattle.razor_reader.specs.declared.frame.Next.{Next}
use Rattle.razor_reader.specs.declared.frame.Next.TheVariants as nx
use Rattle.razor_reader.specs.declared.frame.OpenTag.{OpenTag}
use Rattle.razor_reader.specs.declared.frame.Owner.TheVariants as owner
use Rattle.razor_reader.specs.declared.frame.Wanted.{Wanted}
use Rattle.razor_reader.specs.declared.frame.Wanted.TheVariants as wanted
use Rattle.razor_reader.specs.declared.mark.Mark.TheVariants as mark
use Rattle.razor_reader.specs.Marks.{is_mark}
use Rattle.razor_reader.specs.Reading.{Numbered, ◌>>=◌, has, after, past_space}
use Rattle.razor_reader.specs.NameReading.{is_element_name}
use Rattle.razor_reader.specs.AttributeReading.{shown_first, attributes_first}
use Rattle.razor_reader.specs.StatementReading.{nowhere, statement}
use Rattle.razor_reader.specs.BeginReading as r
use Rattle.razor_reader.specs.ContentReading.{end_tag_by, end_tag, end_of_tag, end_of_group, end_of_line, end_of, is_text_end}
use Rattle.razor_reader.proofs.ReadLemmas.{bind_ok, moved, where_true, where_not, by_test, same_text}
use Rattle.razor_reader.proofs.MarkKinds.{of_space, of_content_start, of_empty_tag_end, of_end_tag_end, of_line_end, of_open_brace, of_if}
use Rattle.razor_reader.proofs.MarkLemmas.{taken, piece_sure}
use Rattle.razor_reader.proofs.NameSound.{element_name_sound}
use Rattle.razor_reader.proofs.AttributeSound.{attributes_sound}
use Rattle.razor_reader.proofs.ValueSound.{shown_first_sound}
use Rattle.razor_reader.proofs.StatementSound.{statement_sound}
use Rattle.razor_reader.proofs.StageTypes.{given, Free, MadeCode, Made, Stage, OfContent, stage_map}

abbrev To : Type 0
To = Next × ℕ × List Piece

pub spaced : (ps : List Piece) → Spaced ps (past_space ps)
spaced [] = g.close []
spaced (p ∷ ps) = go (is_mark mark.Space p.kind) refl
  where
    go : (b : Bool) → is_mark mark.Space p.kind ≡ b → Spaced (p ∷ ps) (if b then ps else p ∷ ps)
    go true e = g.apart p ps (piece_sure mark.Space k.Space p.kind of_space e)
    go false e = g.close (p ∷ ps)

-- an end tag of this name
pub record EndTag (name : List ℕ) (ps rest : List Piece) : Type 0 where
  pub close : Piece
  pub end : Piece
  pub us : List Piece
  pub whole : ps ≡ close ∷ us
  pub named : IsKind (k.EndTagStart name) close
  pub apart : Spaced us (end ∷ rest)
  pub ends : IsKind k.EndTagEnd end

pub end_tag_sound : (name : List ℕ) (ps rest : List Piece) → end_tag name ps ≡ Some rest → EndTag name ps rest
end_tag_sound name [] rest e = absurd (cc)
end_tag_sound name (p ∷ ps) rest e = go p.kind refl e
  where
    go : (of : PieceKind) → p.kind ≡ of → end_tag_by name of ps ≡ Some rest → EndTag name (p ∷ ps) rest
    go (k.EndTagStart found) i e =
        let x = where_true (bytes_eq found name) (after mark.EndTagEnd (past_space ps)) rest e in
        let q = taken mark.EndTagEnd k.EndTagEnd (past_space ps) rest of_end_tag_end x.1 in
        record {
          close = p;
          end = q.p;
          us = ps;
          whole = refl;
          named = i ∙ ap k.EndTagStart (same_text found name x.0);
          apart = subst (Spaced ps) q.whole (spaced ps);
          ends = q.is;
        }
    go _ i e = absurd (cc)

pub text_end_sound : (c : Piece) (ps rest : List Piece) → is_text_end c.kind ≡ true → after mark.EndTagEnd (past_space ps) ≡ Some rest → EndTag (codes "text") (c ∷ ps) rest
text_end_sound c ps rest e f = go c.kind refl e
  where
    go : (of : PieceKind) → c.kind ≡ of → is_text_end of ≡ true → EndTag (codes "text") (c ∷ ps) rest
    go (k.EndTagStart name) i e =
        let q = taken mark.EndTagEnd k.EndTagEnd (past_space ps) rest of_end_tag_end f in
        record { close = c; end = q.p; us = ps; whole = refl; named = i ∙ ap k.EndTagStart (same_text name (codes "text") e); apart = subst (Spaced ps) q.whole (spaced ps); ends = q.is }
    go _ i e = absurd (cc)

-- a tag as the grammar has it
same_node : (b : Bool) (n : ℕ) (p : Piece) (name : List ℕ) (attributes : List Attribute) (children : List TNode) →
    r.node_of b (record { number = n; place = p.place; name = name_at p name; component = b; attributes = attributes }) children ≡ g.tag_node b n p name attributes children
same_node true n p name attributes children = refl
same_node false n p name attributes children = refl

undone : (a b : TNode) → nx.Done a ≡ nx.Done b → a ≡ b
undone a b e = cc

done_same : (a b : TNode) (i j : ℕ) (us vs : List Piece) → ◌≡◌ {A = Option To} (Some (nx.Done a, i, us)) (Some (nx.Done b, j, vs)) → (a ≡ b) × (i ≡ j) × (us ≡ vs)
done_same a b i j us vs e =
    (undone a b (moved {A = To} (λ z. nx.Done a ≡ z.0) e refl), moved {A = To} (λ z. i ≡ z.1) e refl, moved {A = To} (λ z. us ≡ z.2) e refl)

module _ (all : List Piece) where
  abbrev around : Piece → List ℕ
  around = open_at all

  -- a tag behind its attributes
  tag_inside : (n i : ℕ) (p : Piece) (name : List ℕ) (ps us : List Piece) (attributes : List Attribute) (rest : List Piece) (m : ℕ) (children : List TNode) →
      IsKind (k.TagStart name) p → is_element_name name ≡ true → AttributesOf around (is_component name) (n + 1) ps us i attributes →
      Inside around name i (past_space us) rest m children →
      Tag around n (p ∷ ps) rest m (r.node_of (is_component name) (record { number = n; place = p.place; name = name_at p name; component = is_component name; attributes = attributes }) children)
  tag_inside n i p name ps us attributes rest m children there e h inner =
      subst (Tag around n (p ∷ ps) rest m) (sym (same_node (is_component name) n p name attributes children))
      (g.tag name n i m p ps us (past_space us) rest attributes children there (element_name_sound name e) h (spaced us) inner)

  tag_sound : (n : ℕ) (p : Piece) (name : List ℕ) (ps : List Piece) (x : To) → IsKind (k.TagStart name) p → r.tag all n p name ps ≡ Some x →
      Stage all (λ rest m a. Tag around n (p ∷ ps) rest m a) x.0 x.1 x.2
  tag_sound n p name ps x there e =
      let y = where_not (is_element_name name) _ x e in
      let z = bind_ok (attributes_first all (is_component name) (n + 1) ps) _ _ y.1 in
      let o : OpenTag = record { number = n; place = p.place; name = name_at p name; component = is_component name; attributes = z.0.0 } in
      go y.0 z.0.0 z.0.1 z.0.2 (attributes_sound all (is_component name) (n + 1) ps z.0.2 z.0.0 z.0.1 z.1) (after mark.EmptyTagEnd (past_space z.0.2)) refl z.2
    where
      go : is_element_name name ≡ true → (attributes : List Attribute) (i : ℕ) (us : List Piece) → AttributesOf around (is_component name) (n + 1) ps us i attributes →
          (d : Option (List Piece)) → after mark.EmptyTagEnd (past_space us) ≡ d →
          r.ended_or (record { number = n; place = p.place; name = name_at p name; component = is_component name; attributes = attributes }) i (past_space us) d ≡ Some x →
          Stage all (λ rest m a. Tag around n (p ∷ ps) rest m a) x.0 x.1 x.2
      go el attributes i us h (Some rest) f e =
          let q = taken mark.EmptyTagEnd k.EmptyTagEnd (past_space us) rest of_empty_tag_end f in
          moved {A = To} (λ y. Stage all (λ rest m a. Tag around n (p ∷ ps) rest m a) y.0 y.1 y.2) e
          (tag_inside n i p name ps us attributes rest i [] there el h
          (subst (λ (l : List Piece). Inside around name i l rest i []) (sym q.whole) (g.without_content name i q.p rest q.is)))
      go el attributes i us h None f e =
          let v = bind_ok (after mark.ContentStart (past_space us)) _ _ e in
          let b = taken mark.ContentStart k.ContentStart (past_space us) v.0 of_content_start v.1 in
          moved {A = To} (λ y. Stage all (λ rest m a. Tag around n (p ∷ ps) rest m a) y.0 y.1 y.2) v.2
          (λ rest m more a j vs content ended.
          let c = bind_ok (end_tag name rest) _ _ ended in
          let close = end_tag_sound name rest c.0 c.1 in
          moved {A = To} (λ y. (a2 : TNode) → y.0 ≡ nx.Done a2 → Tag around n (p ∷ ps) y.2 y.1 a2) c.2
          (λ a2 same. subst (Tag around n (p ∷ ps) c.0 m) (undone _ _ same)
          (tag_inside n i p name ps us attributes c.0 m more there el h
          (subst (λ (l : List Piece). Inside around name i l c.0 m more) (sym b.whole)
          (g.with_content name i m b.p close.close close.end v.0 close.us c.0 more b.is (subst (λ (l : List Piece). Content around true i v.0 l m more) close.whole content) close.named close.apart close.ends))))
          a refl)

  shown_sound : (n : ℕ) (p : Piece) (ps : List Piece) (x : To) → r.shown n p.place (p ∷ ps) ≡ Some x →
      (a : Expr) × ((rest : List Piece) × Shown (p ∷ ps) rest a × (x ≡ (nx.Done (nd.Content n p.place a), n + 1, rest)))
  shown_sound n p ps x e =
      let y = bind_ok (shown_first (p ∷ ps)) _ _ e in
      (y.0.0, (y.0.1, shown_first_sound (p ∷ ps) y.0.1 y.0.0 y.1, cc))

  -- a part of content
  item_sound : (n : ℕ) (ps : List Piece) (x : To) → r.item all n ps ≡ Some x → Stage all (Made all wanted.Item n ps) x.0 x.1 x.2
  item_sound n [] x e = absurd (cc)
  item_sound n (p ∷ ps) x e = go p.kind refl e
    where
      go : (of : PieceKind) → p.kind ≡ of → r.item_by all n of p ps ≡ Some x → Stage all (Made all wanted.Item n (p ∷ ps)) x.0 x.1 x.2
      go (k.TagStart name) i e =
          stage_map all (λ rest m a. Tag around n (p ∷ ps) rest m a) (Made all wanted.Item n (p ∷ ps)) (λ rest m a h. g.of_tag n m (p ∷ ps) rest a h) x.0 x.1 x.2 (tag_sound n p name ps x i e)
      go k.At i e =
          let y = shown_sound n p ps x e in
          subst (λ (z : To). Stage all (Made all wanted.Item n (p ∷ ps)) z.0 z.1 z.2) (sym y.1.2) (g.of_shown n p ps y.1.0 y.0 y.1.1)
      go k.CodeAt i e =
          stage_map all (MadeCode all true p.place nowhere n ps) (Made all wanted.Item n (p ∷ ps)) (λ rest m a h. g.of_code n m p ps rest a i (h false (inl refl))) x.0 x.1 x.2
          (statement_sound all true p.place nowhere n ps x e)
      go _ i e = absurd (cc)

  group_sound : (j : Jumps) (n : ℕ) (p : Piece) (ps : List Piece) (x : To) → IsKind (k.TagStart (codes "text")) p → r.group n p.place ps ≡ Some x →
      Stage all (Made all (wanted.Line j) n (p ∷ ps)) x.0 x.1 x.2
  group_sound j n p ps x there e =
      let v = bind_ok (after mark.ContentStart (past_space ps)) _ _ e in
      let b = taken mark.ContentStart k.ContentStart (past_space ps) v.0 of_content_start v.1 in
      moved {A = To} (λ y. Stage all (Made all (wanted.Line j) n (p ∷ ps)) y.0 y.1 y.2) v.2
      (λ rest m more a i vs content ended. closed rest m more a i vs b.p v.0 (subst (Spaced ps) b.whole (spaced ps)) b.is content ended)
    where
      closed : (rest : List Piece) (m : ℕ) (more : List TNode) (a : TNode) (i : ℕ) (vs : List Piece) (begin : Piece) (us : List Piece) →
          Spaced ps (begin ∷ us) → IsKind k.ContentStart begin → Content around true n us rest m more → end_of_group p.place more m rest ≡ Some (nx.Done a, i, vs) →
          Line around (given j) n (p ∷ ps) vs i a
      closed [] m more a i vs begin us s b content e = absurd (cc)
      closed (c ∷ rest) m more a i vs begin us s b content e =
          let x = where_true (is_text_end c.kind) _ (nx.Done a, i, vs) e in
          let y = bind_ok (after mark.EndTagEnd (past_space rest)) _ _ x.1 in
          let close = text_end_sound c rest y.0 x.0 y.1 in
          let d = done_same (nd.Group p.place more) a m i y.0 vs y.2 in
          subst (λ (q : List Piece). Line around (given j) n (p ∷ ps) q i a) d.2
          (subst (λ (q : ℕ). Line around (given j) n (p ∷ ps) y.0 q a) d.1
          (subst (Line around (given j) n (p ∷ ps) y.0 m) d.0
          (g.a_group (given j) n m p begin close.close close.end ps us close.us y.0 more there s b
          (subst (λ (l : List Piece). Content around true n us l m more) close.whole content) close.named close.apart close.ends)))

  line_start_sound : (j : Jumps) (n : ℕ) (p : Piece) (ps : List Piece) → IsKind k.LineStart p → OfContent all (Made all (wanted.Line j) n (p ∷ ps)) (record { owner = owner.Line p.place; edge = true; found = [] }) n ps
  line_start_sound j n p ps there = λ rest m more a i vs content e.
      let x = bind_ok (after mark.LineEnd rest) _ _ e in
      let q = taken mark.LineEnd k.LineEnd rest x.0 of_line_end x.1 in
      let d = done_same (nd.Group p.place more) a m i x.0 vs x.2 in
      subst (λ (z : List Piece). Line around (given j) n (p ∷ ps) z i a) d.2
      (subst (λ (z : ℕ). Line around (given j) n (p ∷ ps) x.0 z a) d.1
      (subst (Line around (given j) n (p ∷ ps) x.0 m) d.0
      (g.a_line (given j) n m p q.p ps x.0 more there (subst (λ (l : List Piece). Content around true n ps l m more) q.whole content) q.is)))

  -- a statement of a block, or what besides may stand there
  line_sound : (j : Jumps) (n : ℕ) (ps : List Piece) (x : To) → r.line all j n ps ≡ Some x → Stage all (Made all (wanted.Line j) n ps) x.0 x.1 x.2
  line_sound j n [] x e = absurd (cc)
  line_sound j n (p ∷ ps) x e = go p.kind refl e
    where
      tagged : (name : List ℕ) → p.kind ≡ k.TagStart name → r.tag_in_code all n p name ps ≡ Some x → Stage all (Made all (wanted.Line j) n (p ∷ ps)) x.0 x.1 x.2
      tagged name i e = elim (by_test (bytes_eq name (codes "text")) _ _ x e) [
        | inl h ↦ group_sound j n p ps x (i ∙ ap k.TagStart (same_text name (codes "text") h.0)) h.1
        | inr h ↦ stage_map all (λ rest m a. Tag around n (p ∷ ps) rest m a) (Made all (wanted.Line j) n (p ∷ ps)) (λ rest m a t. g.a_tag (given j) n m (p ∷ ps) rest a t) x.0 x.1 x.2 (tag_sound n p name ps x i h.1)
      ]

      go : (of : PieceKind) → p.kind ≡ of → r.line_by all j n of p ps ≡ Some x → Stage all (Made all (wanted.Line j) n (p ∷ ps)) x.0 x.1 x.2
      go (k.TagStart name) i e = tagged name i e
      go k.At i e =
          let y = shown_sound n p ps x e in
          subst (λ (z : To). Stage all (Made all (wanted.Line j) n (p ∷ ps)) z.0 z.1 z.2) (sym y.1.2) (g.a_shown (given j) n p ps y.1.0 y.0 y.1.1)
      go k.LineStart i e = moved {A = To} (λ z. Stage all (Made all (wanted.Line j) n (p ∷ ps)) z.0 z.1 z.2) e (line_start_sound j n p ps i)
      go k.CodeAt i e =
          stage_map all (MadeCode all false p.place j n ps) (Made all (wanted.Line j) n (p ∷ ps)) (λ rest m a h. g.a_marked (given j) n m p ps rest a i (h false (inl refl))) x.0 x.1 x.2
          (statement_sound all false p.place j n ps x e)
      go (k.Code kind) i e =
          stage_map all (MadeCode all false p.place j n (p ∷ ps)) (Made all (wanted.Line j) n (p ∷ ps)) (λ rest m a h. g.a_statement (given j) n m p ps rest a (h false (inl refl))) x.0 x.1 x.2
          (statement_sound all false p.place j n (p ∷ ps) x e)
      go _ i e = absurd (cc)

  body_sound : (braced : Bool) (j : Jumps) (n : ℕ) (ps : List Piece) (x : To) → r.body braced j n ps ≡ Some x → Stage all (Made all (wanted.Body braced j) n ps) x.0 x.1 x.2
  body_sound true j n [] x e = absurd (cc)
  body_sound false j n [] x e = absurd (cc)
  body_sound true j n (p ∷ ps) x e = go (has mark.OpenBrace (p ∷ ps)) refl e
    where
      go : (d : Bool) → has mark.OpenBrace (p ∷ ps) ≡ d → (if not d then None else statement true p.place j n (p ∷ ps)) ≡ Some x → Stage all (Made all (wanted.Body true j) n (p ∷ ps)) x.0 x.1 x.2
      go true i e =
          stage_map all (MadeCode all true p.place j n (p ∷ ps)) (Made all (wanted.Body true j) n (p ∷ ps))
          (λ rest m a h f free. g.in_block false (given j) f n m p ps rest a (piece_sure mark.OpenBrace (k.Code (t.Sign s.OpenBrace)) p.kind of_open_brace i) (h f free)) x.0 x.1 x.2
          (statement_sound all true p.place j n (p ∷ ps) x e)
      go false i e = absurd (cc)
  body_sound false j n (p ∷ ps) x e =
      stage_map all (MadeCode all false p.place j n (p ∷ ps)) (Made all (wanted.Body false j) n (p ∷ ps))
      (λ rest m a h f free. g.other (given j) f n m p ps rest a (h f free)) x.0 x.1 x.2
      (statement_sound all false p.place j n (p ∷ ps) x e)

  otherwise_sound : (braced : Bool) (j : Jumps) (n : ℕ) (ps : List Piece) (x : To) → r.otherwise braced j n ps ≡ Some x → Stage all (Made all (wanted.Otherwise braced j) n ps) x.0 x.1 x.2
  otherwise_sound braced j n [] x e =
      stage_map all (Made all (wanted.Body braced j) n []) (Made all (wanted.Otherwise braced j) n []) (λ rest m a h f free. g.otherwise_body (not braced) (given j) f n m [] rest a (h f free)) x.0 x.1 x.2
      (body_sound braced j n [] x e)
  otherwise_sound braced j n (p ∷ ps) x e = elim (by_test (has mark.If (p ∷ ps)) _ _ x e) [
    | inl h ↦
        stage_map all (MadeCode all braced p.place j n (p ∷ ps)) (Made all (wanted.Otherwise braced j) n (p ∷ ps))
        (λ rest m a code f free. g.otherwise_if (not braced) (given j) f n m p ps rest a (piece_sure mark.If (k.Code (t.Word w.If)) p.kind of_if h.0) (code f free)) x.0 x.1 x.2
        (statement_sound all braced p.place j n (p ∷ ps) x h.1)
    | inr h ↦
        stage_map all (Made all (wanted.Body braced j) n (p ∷ ps)) (Made all (wanted.Otherwise braced j) n (p ∷ ps)) (λ rest m a within f free. g.otherwise_body (not braced) (given j) f n m (p ∷ ps) rest a (within f free)) x.0 x.1 x.2
        (body_sound braced j n (p ∷ ps) x h.1)
  ]

  pub begin_sound : (x : Wanted) (n : ℕ) (ps : List Piece) (y : To) → r.begin all x n ps ≡ Some y → Stage all (Made all x n ps) y.0 y.1 y.2
  begin_sound wanted.Item n ps y e = item_sound n ps y e
  begin_sound (wanted.Line j) n ps y e = line_sound j n ps y e
  begin_sound (wanted.Body braced j) n ps y e = body_sound braced j n ps y e
  begin_sound (wanted.Otherwise braced j) n ps y e = otherwise_sound braced j n ps y e
