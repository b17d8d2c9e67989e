-- What begins as a tag, a content expression or a group is read so.
use Rattle.std.proofs.Common.{◌≡◌, ◌≢◌, ℕ, ◌+◌, List, [], ◌∷◌, ◌++◌, refl, sym, ap, ◌∙◌, subst}
use Rattle.std.specs.Prelude.{Bool, true, false, not, ◌&&◌, codes, if◌then◌else◌, Option, Some, None}
use Rattle.std.specs.Str.{bytes_eq}
use Rattle.text_core.specs.declared.place.Place.{Place}
use Rattle.cs_ast.specs.declared.expression.Expr.{Expr}
use Rattle.razor_token.specs.Tags.{is_component}
use Rattle.razor_token.specs.declared.piece.Piece.{Piece}
use Rattle.razor_token.specs.declared.piece.PieceKind.{PieceKind}
use Rattle.razor_token.specs.declared.piece.PieceKind.TheVariants as k
use Rattle.razor_ast.specs.declared.attribute.Attribute.{Attribute}
use Rattle.razor_ast.specs.declared.node.TNode.{TNode}
use Rattle.razor_ast.specs.declared.node.TNode.TheVariants as nd
use Rattle.razor_ast.specs.AttributeNames.{IsElementName}
use Rattle.razor_ast.specs.Attributes.{AttributesOf}
use Rattle.razor_ast.specs.Nesting.{open_at}
use Rattle.razor_ast.specs.Nodes.{Spaced, name_at}
use Rattle.razor_ast.specs.Nodes as g
use Rattle.razor_ast.specs.Pieces.{IsKind}
use Rattle.razor_ast.specs.Shown.{Shown}
use Rattle.razor_reader.specs.declared.frame.Jumps.{Jumps}
use Rattle.razor_reader.specs.declared.frame.Next.{Next}
use Rattle.razor_reader.specs.declared.frame.Next.TheVariants as nx
use Rattle.razor_reader.specs.declared.frame.OpenTag.{OpenTag}
use Rattle.razor_reader.specs.declared.frame.Owner.TheVariants as owner
use Rattle.razor_reader.specs.declared.mark.Mark.TheVariants as m
use Rattle.razor_reader.specs.Marks.{is_mark, mark_number}
use Rattle.razor_reader.specs.Reading.{Numbered, ◌>>=◌, has, after, past_space}
use Rattle.razor_reader.specs.NameReading.{is_element_name}
use Rattle.razor_reader.specs.AttributeReading.{shown_first, attributes_first, to_attribute, is_attribute, if_attribute}
use Rattle.razor_reader.specs.BeginReading as r
use Rattle.razor_reader.proofs.ReadLemmas.{same_text, other_text}
use Rattle.razor_reader.proofs.AttributeComplete.{attributes_complete}
use Rattle.razor_reader.proofs.ValueComplete.{FlatPieces, flat_rest, after_is, after_not, bind_is, shown_first_complete}

-- names of elements

differs : (text word : List ℕ) → text ≢ word → bytes_eq text word ≡ false
differs text word other = go (bytes_eq text word) refl
  where
    go : (b : Bool) → bytes_eq text word ≡ b → b ≡ false
    go true i = absurd (other (same_text text word i))
    go false i = refl

pub element_name_complete : (name : List ℕ) → IsElementName name → is_element_name name ≡ true
element_name_complete name h =
    ap (λ (b : Bool). not b && not (bytes_eq name (codes "style")) && not (bytes_eq name (codes "text"))) (differs name (codes "script") h.no_script)
    ∙ ap (λ (b : Bool). not b && not (bytes_eq name (codes "text"))) (differs name (codes "style") h.no_style)
    ∙ ap not (differs name (codes "text") h.no_text)

-- white space before the end of a tag

space_is : is_mark m.Space k.Space ≡ true
unfolding mark_number
space_is = refl

-- the end of a tag: neither white space, a value nor an attribute stands first
pub record Ends (ps : List Piece) : Type 0 where
  pub p : Piece
  pub us : List Piece
  pub whole : ps ≡ p ∷ us
  pub no_space : is_mark m.Space p.kind ≡ false
  pub no_value : is_mark m.ValueStart p.kind ≡ false
  pub no_attribute : is_attribute p.kind ≡ false

pub past_space_is : (ps us : List Piece) → Spaced ps us → Ends us → past_space ps ≡ us
past_space_is ps _ (g.close _) e =
    ap past_space e.whole ∙ ap (λ (b : Bool). if b then e.us else e.p ∷ e.us) e.no_space ∙ sym e.whole
past_space_is _ _ (g.apart space ps i) e = ap (λ (b : Bool). if b then ps else space ∷ ps) (ap (is_mark m.Space) i ∙ space_is)

no_start_space : is_mark m.ValueStart k.Space ≡ false
unfolding mark_number
no_start_space = refl

no_value_behind : (ps us : List Piece) → Spaced ps us → Ends us → has m.ValueStart ps ≡ false
no_value_behind ps _ (g.close _) e = ap (has m.ValueStart) e.whole ∙ e.no_value
no_value_behind _ _ (g.apart space ps i) e = ap (is_mark m.ValueStart) i ∙ no_start_space

no_attribute_behind : (ps us : List Piece) → Spaced ps us → Ends us → to_attribute ps ≡ None
no_attribute_behind ps _ (g.close _) e =
    ap to_attribute e.whole ∙ ap (λ (b : Bool). (if b then Some e.us else None) >>= if_attribute) e.no_space
no_attribute_behind _ _ (g.apart space ps i) e =
    ap (λ (b : Bool). (if b then Some ps else None) >>= if_attribute) (ap (is_mark m.Space) i ∙ space_is)
    ∙ ap if_attribute e.whole ∙ ap (λ (b : Bool). if b then Some (e.p ∷ e.us) else None) e.no_attribute

empty_ends : (end : Piece) (rest : List Piece) → IsKind k.EmptyTagEnd end → Ends (end ∷ rest)
unfolding mark_number
empty_ends end rest i = record {
  p = end;
  us = rest;
  whole = refl;
  no_space = ap (is_mark m.Space) i;
  no_value = ap (is_mark m.ValueStart) i;
  no_attribute = ap is_attribute i;
}

content_ends : (begin : Piece) (rest : List Piece) → IsKind k.ContentStart begin → Ends (begin ∷ rest)
unfolding mark_number
content_ends begin rest i = record {
  p = begin;
  us = rest;
  whole = refl;
  no_space = ap (is_mark m.Space) i;
  no_value = ap (is_mark m.ValueStart) i;
  no_attribute = ap is_attribute i;
}

empty_is : is_mark m.EmptyTagEnd k.EmptyTagEnd ≡ true
unfolding mark_number
empty_is = refl

start_is : is_mark m.ContentStart k.ContentStart ≡ true
unfolding mark_number
start_is = refl

start_no_empty : is_mark m.EmptyTagEnd k.ContentStart ≡ false
unfolding mark_number
start_no_empty = refl

-- a tag without content, and one with content, behind its attributes

opened_empty : (o : OpenTag) (n : ℕ) (ps : List Piece) (end : Piece) (rest : List Piece) → Spaced ps (end ∷ rest) → IsKind k.EmptyTagEnd end → r.opened o n ps ≡ Some (nx.Done (r.tag_node o []), n, rest)
opened_empty o n ps end rest s i =
    ap (λ (us : List Piece). r.ended_or o n us (after m.EmptyTagEnd us)) (past_space_is ps (end ∷ rest) s (empty_ends end rest i))
    ∙ ap (r.ended_or o n (end ∷ rest)) (after_is m.EmptyTagEnd k.EmptyTagEnd end rest empty_is i)

opened_content : (o : OpenTag) (n : ℕ) (ps : List Piece) (begin : Piece) (rest : List Piece) → Spaced ps (begin ∷ rest) → IsKind k.ContentStart begin
    → r.opened o n ps ≡ Some (r.content_in (owner.Tag o), n, rest)
opened_content o n ps begin rest s i =
    ap (λ (us : List Piece). r.ended_or o n us (after m.EmptyTagEnd us)) (past_space_is ps (begin ∷ rest) s (content_ends begin rest i))
    ∙ ap (r.ended_or o n (begin ∷ rest)) (after_not m.EmptyTagEnd k.ContentStart begin rest start_no_empty i)
    ∙ bind_is (after m.ContentStart (begin ∷ rest)) rest (λ rest. Some (r.content_in (owner.Tag o), n, rest)) (after_is m.ContentStart k.ContentStart begin rest start_is i)

tag_by : (all : List Piece) (n i : ℕ) (p : Piece) (name : List ℕ) (ps us vs : List Piece) (attributes : List Attribute) → FlatPieces ps → IsElementName name
    → AttributesOf (open_at all) (is_component name) (n + 1) ps us i attributes → Spaced us vs → Ends vs → r.tag all n p name ps ≡ r.opened (r.open_tag n p name attributes) i us
tag_by all n i p name ps us vs attributes f h a s e =
    ap (λ (b : Bool). if not b then None else (attributes_first all (is_component name) (n + 1) ps >>= λ x. r.opened (r.open_tag n p name x.0) x.1 x.2)) (element_name_complete name h)
    ∙ bind_is (attributes_first all (is_component name) (n + 1) ps) (attributes, i, us) (λ x. r.opened (r.open_tag n p name x.0) x.1 x.2)
    (attributes_complete all (is_component name) (n + 1) ps us i attributes f (no_value_behind us vs s e) (no_attribute_behind us vs s e) a)

-- a tag without content is read whole
pub empty_tag_complete : (all : List Piece) (n i : ℕ) (p end : Piece) (name : List ℕ) (ps us rest : List Piece) (attributes : List Attribute) → FlatPieces ps → IsElementName name
    → AttributesOf (open_at all) (is_component name) (n + 1) ps us i attributes → Spaced us (end ∷ rest) → IsKind k.EmptyTagEnd end
    → r.tag all n p name ps ≡ Some (nx.Done (r.tag_node (r.open_tag n p name attributes) []), i, rest)
empty_tag_complete all n i p end name ps us rest attributes f h a s e =
    tag_by all n i p name ps us (end ∷ rest) attributes f h a s (empty_ends end rest e) ∙ opened_empty (r.open_tag n p name attributes) i us end rest s e

-- a tag with content is read up to its content
pub tag_complete : (all : List Piece) (n i : ℕ) (p begin : Piece) (name : List ℕ) (ps us rest : List Piece) (attributes : List Attribute) → FlatPieces ps → IsElementName name
    → AttributesOf (open_at all) (is_component name) (n + 1) ps us i attributes → Spaced us (begin ∷ rest) → IsKind k.ContentStart begin
    → r.tag all n p name ps ≡ Some (r.content_in (owner.Tag (r.open_tag n p name attributes)), i, rest)
tag_complete all n i p begin name ps us rest attributes f h a s e =
    tag_by all n i p name ps us (begin ∷ rest) attributes f h a s (content_ends begin rest e) ∙ opened_content (r.open_tag n p name attributes) i us begin rest s e

-- `<text>` in code is read up to its content
pub group_complete : (n : ℕ) (p : Place) (begin : Piece) (ps rest : List Piece) → Spaced ps (begin ∷ rest) → IsKind k.ContentStart begin
    → r.group n p ps ≡ Some (r.content_in (owner.Group p), n, rest)
group_complete n p begin ps rest s i =
    ap (λ (us : List Piece). after m.ContentStart us >>= λ rest. Some (r.content_in (owner.Group p), n, rest)) (past_space_is ps (begin ∷ rest) s (content_ends begin rest i))
    ∙ bind_is (after m.ContentStart (begin ∷ rest)) rest (λ rest. Some (r.content_in (owner.Group p), n, rest)) (after_is m.ContentStart k.ContentStart begin rest start_is i)

-- a content expression is read
pub shown_complete : (n : ℕ) (p : Place) (ps rest : List Piece) (a : Expr) → FlatPieces ps → Shown ps rest a → r.shown n p ps ≡ Some (nx.Done (nd.Content n p a), n + 1, rest)
shown_complete n p ps rest a f h = bind_is (shown_first ps) (a, rest) (λ x. Some (nx.Done (nd.Content n p x.0), n + 1, x.1)) (shown_first_complete ps rest a f h)

-- a tag in code that isn't `<text>`, and `<text>`
pub tag_in_code_complete : (all : List Piece) (n : ℕ) (p : Piece) (name : List ℕ) (ps : List Piece) → IsElementName name → r.tag_in_code all n p name ps ≡ r.tag all n p name ps
tag_in_code_complete all n p name ps h = ap (λ (b : Bool). if b then r.group n p.place ps else r.tag all n p name ps) (differs name (codes "text") h.no_text)
