-- What tags are printed as, and what is known of them.
use Rattle.std.proofs.Common.{◌≡◌, ℕ, ◌+◌, Bool, true, false, not, ◌||◌, List, [], ◌∷◌, ◌++◌, map, length, refl, sym, ap, ◌∙◌, subst, append_assoc, arith}
use Rattle.std.specs.List.{list_any}
use Rattle.std.specs.Prelude.{codes}
use Rattle.text_core.specs.declared.place.Place.{Place}
use Rattle.cs_grammar.specs.Statements.{Jumps}
use Rattle.cs_print.specs.Alike.{Each}
use Rattle.cs_print.specs.Alike as each
use Rattle.razor_token.specs.declared.piece.Piece.{Piece}
use Rattle.razor_token.specs.declared.piece.PieceKind.TheVariants as k
use Rattle.razor_token.specs.Tags.{is_component}
use Rattle.razor_ast.specs.declared.attribute.Attribute.{Attribute}
use Rattle.razor_ast.specs.declared.attribute.AttributeKind.{AttributeKind}
use Rattle.razor_ast.specs.declared.node.TNode.{TNode}
use Rattle.razor_ast.specs.declared.node.TNode.TheVariants as nd
use Rattle.razor_ast.specs.Attributes.{is_bind, is_bind_event, is_bound}
use Rattle.razor_ast.specs.Literals.{is_edge}
use Rattle.razor_ast.specs.Pieces.{IsKind}
use Rattle.razor_ast.specs.Nodes.{Content, Inside, Tag, Line, name_at, tag_node}
use Rattle.razor_ast.specs.Nodes as gn
use Rattle.razor_print.specs.Attributes.{attributes_parts}
use Rattle.razor_print.specs.Nodes.{Printed, content, either, end_tag, tag_start, content_start, inside, tag, group, node}
use Rattle.razor_print.specs.Parts.{Parts}
use Rattle.razor_print.proofs.NodeLaws as law
use Rattle.printed_pieces.specs.Meant.{Mean}
use Rattle.printed_pieces.specs.Printable.{ArePrintable}
use Rattle.printed_pieces.specs.PrintableNodes.{ContentPrints}
use Rattle.printing_again.specs.Again.{AlikeAttributes, AlikeValues}
use Rattle.printing_again.specs.Again as ag
use Rattle.printing_again.proofs.MeantLaws.{first-piece}
use Rattle.printing_nodes.specs.AlikeNodes.{AlikeNodes, AlikeContent}
use Rattle.printing_nodes.specs.AlikeNodes as al
use Rattle.printing_nodes.specs.Answers.{Stops, ContentAgain}
use Rattle.printing_nodes.proofs.KnownNodes.{Known, Knows}
use Rattle.printing_nodes.proofs.Results.{InsideAgain, LineAgain, first_edge}
use Rattle.printing_nodes.proofs.TextsAgain.{stops-piece}

-- where `@bind:event` is among attributes, `@bind` is among those that are alike

same-bind : (j i : AttributeKind) → AlikeValues j i → is_bind j ≡ is_bind i
same-bind _ _ (ag.mixed n xs ys h) = refl
same-bind _ _ (ag.key a b h) = refl
same-bind _ _ (ag.event n a b h) = refl
same-bind _ _ (ag.bind n x p q) = refl
same-bind _ _ ag.bind_event = refl
same-bind _ _ (ag.nothing n) = refl
same-bind _ _ (ag.text n p q said a b) = refl
same-bind _ _ (ag.value n a b h) = refl
same-bind _ _ (ag.context n x p q) = refl

same-event : (j i : AttributeKind) → AlikeValues j i → is_bind_event j ≡ is_bind_event i
same-event _ _ (ag.mixed n xs ys h) = refl
same-event _ _ (ag.key a b h) = refl
same-event _ _ (ag.event n a b h) = refl
same-event _ _ (ag.bind n x p q) = refl
same-event _ _ ag.bind_event = refl
same-event _ _ (ag.nothing n) = refl
same-event _ _ (ag.text n p q said a b) = refl
same-event _ _ (ag.value n a b h) = refl
same-event _ _ (ag.context n x p q) = refl

any-same : (test : AttributeKind → Bool) → ((j i : AttributeKind) → AlikeValues j i → test j ≡ test i) → (xs ys : List Attribute) → Each AlikeAttributes xs ys → list_any (λ a. test a.kind) xs ≡ list_any (λ a. test a.kind) ys
any-same test same _ _ each.none = refl
any-same test same _ _ (each.more _ _ xs ys (ag.alike p q name j i h) others) =
    ap (λ z. z || list_any (λ a. test a.kind) xs) (same j i h) ∙ ap (λ z. test i || z) (any-same test same xs ys others)

pub bound_alike : (xs ys : List Attribute) → Each AlikeAttributes xs ys → is_bound xs ≡ is_bound ys
bound_alike xs ys h =
    ap (λ z. not z || list_any (λ a. is_bind a.kind) xs) (any-same is_bind_event same-event xs ys h)
    ∙ ap (λ z. not (list_any (λ a. is_bind_event a.kind) ys) || z) (any-same is_bind same-bind xs ys h)

-- a component's tag, or an element

pub node-tag : (b : Bool) (n : ℕ) (p : Piece) (name : List ℕ) (all : List Attribute) (children : List TNode) → node (tag_node b n p name all children) ≡ either (tag name all (map node children))
node-tag true n p name all children = law.node_child n p.place (name_at p name) all children
node-tag false n p name all children = law.node_element n p.place (name_at p name) all children

pub knows-tag : (b : Bool) (n : ℕ) (p : Piece) (name : List ℕ) (all : List Attribute) (children : List TNode) → Knows (tag_node b n p name all children) → ArePrintable (is_component name) all × ContentPrints false children
knows-tag true n p name all children h = subst (λ z. Known z) (nd.outs-Child n p.place (name_at p name) all children) h
knows-tag false n p name all children h = subst (λ z. Known z) (nd.outs-Element n p.place (name_at p name) all children) h

pub alike-tag : (b : Bool) (n : ℕ) (p q : Piece) (name : List ℕ) (xs ys : List Attribute) (cs ds : List TNode) → Each AlikeAttributes xs ys → AlikeContent cs ds → AlikeNodes (tag_node b n p name xs cs) (tag_node b n q name ys ds)
alike-tag true n p q name xs ys cs ds h i = al.child n p.place q.place _ _ name xs ys cs ds h i
alike-tag false n p q name xs ys cs ds h i = al.element n p.place q.place _ _ name xs ys cs ds h i

pub tag-is : (name : List ℕ) (all : List Attribute) (xs : List Printed) → tag name all xs ≡ tag_start name ∷ (attributes_parts all ++ inside name xs)
unfolding tag
tag-is name all xs = refl

pub group-is : (xs : List Printed) → group xs ≡ tag_start (codes "text") ∷ content_start ∷ (content xs ++ end_tag (codes "text"))
unfolding group
group-is xs = refl

module _ (source : Piece → List ℕ) where
  -- a tag is printed in content as in code, and no edge begins it
  pub tag-content : (n : ℕ) (ps rest : List Piece) (m : ℕ) (a : TNode) → Tag source n ps rest m a → (node a).content ≡ (node a).code
  tag-content _ _ _ _ _ (gn.tag name n i m p ps us vs rest all children is plain attributes space inner) =
      let e = node-tag (is_component name) n p name all children in
      ap (λ (z : Printed). z.content) e ∙ sym (ap (λ (z : Printed). z.code) e)

  pub tag-edge : (n : ℕ) (ps rest : List Piece) (m : ℕ) (a : TNode) → Tag source n ps rest m a → first_edge ps ≡ false
  tag-edge _ _ _ _ _ (gn.tag name n i m p ps us vs rest all children is plain attributes space inner) = ap (λ z. is_edge z) is

  no-append : (xs ys : List TNode) (y : TNode) → xs ++ y ∷ ys ≡ [] → true ≡ false
  no-append [] ys y e = absurd (cc)
  no-append (x ∷ xs) ys y e = absurd (cc)

  -- no node has no number
  pub content-none : (edge : Bool) (n : ℕ) (ps rest : List Piece) (m : ℕ) (nodes : List TNode) → Content source edge n ps rest m nodes → nodes ≡ [] → m ≡ n
  content-none _ _ _ _ _ _ (gn.last_text edge n text ps rest texts run is) none = ap (λ z. n + length z) none ∙ omega arith
  content-none _ _ _ _ _ _ (gn.more_content edge n i m text p ps us vs rest texts a nodes run is item more) none = let no_way = no-append texts nodes a none in absurd (cc)

-- content is spelled again, wherever it stands
abbrev pub ContentReads : (Piece → List ℕ) → ℕ → ℕ → List TNode → Type 0
ContentReads around n m nodes = (later : Parts) (us : List Piece) → Stops later → Mean (content (map node nodes) ++ later) us → ContentAgain around true n m nodes later us

module _ (around : Piece → List ℕ) where
  -- content, and the end tag of this name behind it
  record Closed (name : List ℕ) (n m : ℕ) (nodes : List TNode) (later : Parts) (us : List Piece) : Type 0 where
    close : Piece
    end : Piece
    rest : List Piece
    others : List TNode
    spelled : Content around true n us (close ∷ end ∷ rest) m others
    closes : IsKind (k.EndTagStart name) close
    ends : IsKind k.EndTagEnd end
    alike : AlikeContent nodes others
    mean : Mean later rest

  closed : (name : List ℕ) (n m : ℕ) (nodes : List TNode) (later : Parts) (us : List Piece) → ContentReads around n m nodes → Mean ((content (map node nodes) ++ end_tag name) ++ later) us → Closed name n m nodes later us
  closed name n m nodes later us reads mean =
      let x = reads (end_tag name ++ later) us (stops-piece (k.EndTagStart name) _ _ refl) (subst (λ z. Mean z us) (append_assoc (content (map node nodes)) (end_tag name) later) mean) in
      let close = first-piece (k.EndTagStart name) _ _ x.rest x.mean in
      let end = first-piece k.EndTagEnd _ later close.rest close.mean in
      record {
        close = close.p;
        end = end.p;
        rest = end.rest;
        others = x.others;
        spelled = subst (λ z. Content around true n us z m x.others) (sym (ap (λ z. close.p ∷ z) end.split ∙ close.split)) x.spelled;
        closes = close.is;
        ends = end.is;
        alike = x.alike;
        mean = end.mean;
      }

  pub inside-of : (name : List ℕ) (n m : ℕ) (children : List TNode) (later : Parts) (us : List Piece) → (children ≡ [] → m ≡ n) → ContentReads around n m children → Mean (inside name (map node children) ++ later) us → InsideAgain around name n m children later us
  inside-of name n m [] later us none reads mean =
      let x = first-piece k.EmptyTagEnd _ later us mean in
      record {
        rest = x.rest;
        others = [];
        spelled = subst (λ z. Inside around name n us x.rest z []) (sym (none refl)) (subst (λ z. Inside around name n z x.rest n []) x.split (gn.without_content name n x.p x.rest x.is));
        alike = al.no_node;
        mean = x.mean;
      }
  inside-of name n m (c ∷ cs) later us none reads mean =
      let begin = first-piece k.ContentStart _ _ us mean in
      let x = closed name n m (c ∷ cs) later begin.rest reads begin.mean in
      record {
        rest = x.rest;
        others = x.others;
        spelled = subst (λ z. Inside around name n z x.rest m x.others) begin.split (gn.with_content name n m begin.p x.close x.end begin.rest (x.end ∷ x.rest) x.rest x.others begin.is x.spelled x.closes (gn.close (x.end ∷ x.rest)) x.ends);
        alike = x.alike;
        mean = x.mean;
      }

  -- a group, as each `@:` is printed too
  pub group-of : (j : Jumps) (n m : ℕ) (place : Place) (items : List TNode) (later : Parts) (us : List Piece) → ContentReads around n m items → Mean ((node (nd.Group place items)).code ++ later) us → LineAgain around j n m (nd.Group place items) later us
  group-of j n m place items later us reads mean =
      let here = subst (λ z. Mean (z ++ later) us) (ap (λ (z : Printed). z.code) (law.node_group place items) ∙ group-is (map node items)) mean in
      let start = first-piece (k.TagStart (codes "text")) _ _ us here in
      let begin = first-piece k.ContentStart _ _ start.rest start.mean in
      let x = closed (codes "text") n m items later begin.rest reads begin.mean in
      record {
        rest = x.rest;
        other = nd.Group start.p.place x.others;
        spelled = subst (λ z. Line around j n z x.rest m (nd.Group start.p.place x.others)) (ap (λ z. start.p ∷ z) begin.split ∙ start.split)
            (gn.a_group j n m start.p begin.p x.close x.end (begin.p ∷ begin.rest) begin.rest (x.end ∷ x.rest) x.rest x.others start.is (gn.close (begin.p ∷ begin.rest)) begin.is x.spelled x.closes (gn.close (x.end ∷ x.rest)) x.ends);
        alike = al.group place start.p.place items x.others x.alike;
        mean = x.mean;
      }
