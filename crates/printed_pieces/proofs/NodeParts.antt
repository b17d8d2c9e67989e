-- What blocks, heads, tags and parts of content are made of.
use Rattle.std.proofs.Common.{◌≡◌, ℕ, Bool, true, false, List, [], ◌∷◌, ◌++◌, map, refl, sym, ap, ◌∙◌, subst, append_assoc, append-nil}
use Rattle.std.specs.declared.option.Option.{Option}
use Rattle.std.specs.Prelude.{codes, if◌then◌else◌}
use Rattle.std.specs.List.{flat_map}
use Rattle.std.proofs.lemmas.Bool.{false≢true}
use Rattle.cs_ast.specs.declared.expression.Expr.{Expr}
use Rattle.cs_ast.specs.declared.expression.Label.{Label}
use Rattle.cs_ast.specs.declared.expression.Stmt.{Stmt}
use Rattle.cs_token.specs.declared.token.TokenKind.TheVariants as t
use Rattle.cs_token.specs.declared.token.Word.{Word}
use Rattle.cs_token.specs.declared.token.Word.TheVariants as w
use Rattle.cs_print.specs.Layout.{code_text}
use Rattle.cs_print.specs.Printed.{Kinds, in_round, whole, printed}
use Rattle.razor_token.specs.declared.context.Point.{Point}
use Rattle.razor_token.specs.declared.context.Point.TheVariants as point
use Rattle.razor_token.specs.ContentFronts.{is_word}
use Rattle.razor_token.specs.Cutting.{last_of}
use Rattle.razor_token.specs.Tags.{is_component, void_elements, is_void}
use Rattle.razor_ast.specs.declared.attribute.Attribute.{Attribute}
use Rattle.razor_ast.specs.declared.node.TNode.{TNode}
use Rattle.razor_ast.specs.declared.node.TNode.TheFolds.{fold-roll-TSection}
use Rattle.razor_ast.specs.Statements.{section}
use Rattle.razor_print.specs.declared.before.Before.{Before}
use Rattle.razor_print.specs.declared.before.Before.TheVariants as bf
use Rattle.razor_print.specs.Attributes.{attributes_parts}
use Rattle.razor_print.specs.Nodes.{Printed, is_text, is_parted, parted, item, content, end_tag, tag_start, content_start, tag, behind_text, group, headed, otherwise, if_else, switch_of, for_head, foreach_head, for_loop, foreach_loop, while_loop, either, coded, literal, node_form, sectioned, node, section_parts}
use Rattle.razor_print.specs.Parts.{Parts, tokens, shown, in_block, doubled}
use Rattle.razor_print.specs.Parts as parts
use Rattle.printed_pieces.specs.Names.{IsTagName, tag_name}
use Rattle.printed_pieces.specs.PrintableNodes.{IsContentText, content_text}
use Rattle.printed_pieces.specs.Printable.{ArePrintable}
use Rattle.printed_pieces.proofs.AttributeLaws as a
use Rattle.printed_pieces.proofs.AttributeForms.{attributes-form}
use Rattle.printed_pieces.proofs.BraceLaws.{is_with, block_text}
use Rattle.printed_pieces.proofs.Forms.{takes_text, IsItem, IsContent, IsTag, InHead, InBlock}
use Rattle.printed_pieces.proofs.Forms as f
use Rattle.printed_pieces.proofs.TextEnds.{said-last}
use Rattle.printed_pieces.proofs.Segments.{Segment, segment-headed, is_if, BeginsBlock, head-goes, headed-code}
use Rattle.printed_pieces.proofs.ShownLaws.{IsClosed, round_text}

-- what stands in a block, with some text
pub record BlockText (with_else : Bool) (at : Point) (ps : Parts) (last : Point) : Type 0 where
  pub text : List ℕ
  pub is : InBlock with_else at ps text last

pub join-in : (with_else : Bool) (at middle last : Point) (ps qs : Parts) (text more : List ℕ) → InBlock with_else at ps text middle → InBlock with_else middle qs more last → InBlock with_else at (ps ++ qs) (text ++ more) last
join-in _ _ _ last _ qs _ more (f.done with_else at) later = later
join-in _ _ middle last _ qs _ more (f.run with_else at behind _ ks ps text code goes others) later =
    subst (λ z. InBlock with_else at z ((code_text ks ++ text) ++ more) last) (sym (append_assoc (tokens ks) ps qs))
    (subst (λ z. InBlock with_else at (tokens ks ++ (ps ++ qs)) z last) (sym (append_assoc (code_text ks) text more))
    (f.run with_else at behind last ks (ps ++ qs) (text ++ more) code goes (join-in with_else behind middle last ps qs text more others later)))
join-in _ _ middle last _ qs _ more (f.markup with_else _ us ps text between is others) later =
    subst (λ z. InBlock with_else point.Begins z ((text ++ between) ++ more) last) (sym (append_assoc us ps qs))
    (subst (λ z. InBlock with_else point.Begins (us ++ (ps ++ qs)) z last) (sym (append_assoc text between more))
    (f.markup with_else last us (ps ++ qs) text (between ++ more) is (join-in with_else point.Begins middle last ps qs between more others later)))
join-in _ _ middle last _ qs _ more (f.value with_else _ ks ps text is others) later =
    subst (λ z. InBlock with_else point.Begins z (((64 ∷ (round_text ks ++ [])) ++ text) ++ more) last) (sym (append_assoc (shown ks) ps qs))
    (subst (λ z. InBlock with_else point.Begins (shown ks ++ (ps ++ qs)) z last) (sym (append_assoc (64 ∷ (round_text ks ++ [])) text more))
    (f.value with_else last ks (ps ++ qs) (text ++ more) is (join-in with_else point.Begins middle last ps qs text more others later)))
join-in _ _ middle last _ qs _ more (f.braces with_else at inner_last _ us ps text between plain is others) later =
    subst (λ z. InBlock with_else at z ((block_text text ++ between) ++ more) last) (sym (append_assoc (in_block us) ps qs))
    (subst (λ z. InBlock with_else at (in_block us ++ (ps ++ qs)) z last) (sym (append_assoc (block_text text) between more))
    (f.braces with_else at inner_last last us (ps ++ qs) text (between ++ more) plain is (join-in with_else point.Begins middle last ps qs between more others later)))

pub block-join : (with_else : Bool) (at middle last : Point) (ps qs : Parts) → BlockText with_else at ps middle → BlockText with_else middle qs last → BlockText with_else at (ps ++ qs) last
block-join with_else at middle last ps qs one two = record { text = one.text ++ two.text; is = join-in with_else at middle last ps qs one.text two.text one.is two.is }

pub block-nil : (with_else : Bool) (at last : Point) (ps : Parts) → BlockText with_else at (ps ++ []) last → BlockText with_else at ps last
block-nil with_else at last ps h = subst (λ z. BlockText with_else at z last) (append-nil ps) h

pub block-more : (with_else : Bool) (at last : Point) (ps : Parts) → BlockText with_else at ps last → BlockText with_else at (ps ++ []) last
block-more with_else at last ps h = subst (λ z. BlockText with_else at z last) (sym (append-nil ps)) h

pub block-none : (with_else : Bool) (at : Point) → BlockText with_else at [] at
block-none with_else at = record { text = []; is = f.done with_else at }

-- a segment and what is behind it
pub block-run : (with_else : Bool) (at middle last : Point) (ks : Kinds) (ps : Parts) → Segment at ks middle → BlockText with_else middle ps last → BlockText with_else at (tokens ks ++ ps) last
block-run with_else at middle last ks ps segment h = record { text = _; is = f.run with_else at middle last ks ps h.text segment.code (segment.goes with_else) h.is }

pub block-braces : (with_else : Bool) (at last : Point) (ps : Parts) → is_with at ≡ false → BlockText false point.Begins ps last → BlockText with_else at (in_block ps) point.Begins
block-braces with_else at last ps plain h = block-nil with_else at point.Begins (in_block ps) (record { text = _; is = f.braces with_else at last point.Begins ps [] h.text [] plain h.is (f.done with_else point.Begins) })

-- `if` and the like, with what is behind the brackets
pub block-headed : (with_else : Bool) (at : Point) (word : Word) (ks : Kinds) (ps : Parts) → IsClosed ks → BlockText with_else point.Within ps point.Begins → BlockText with_else at (headed word ks ps) point.Begins
block-headed with_else at word ks ps closed h = block-run with_else at point.Within point.Begins (t.Word word ∷ in_round ks) ps (segment-headed at word ks closed) h

-- a tag, with some text
pub record TagText (ps : Parts) : Type 0 where
  pub text : List ℕ
  pub is : IsTag ps text

-- content, with some text
pub record ContentText (b : Before) (ps : Parts) : Type 0 where
  pub last : Before
  pub text : List ℕ
  pub is : IsContent b last ps text

pub block-markup : (with_else : Bool) (ps : Parts) → TagText ps → BlockText with_else point.Begins ps point.Begins
block-markup with_else ps h = block-nil with_else point.Begins point.Begins ps (record { text = _; is = f.markup with_else point.Begins ps [] h.text [] h.is (f.done with_else point.Begins) })

-- a part of content by what is printed of it
pub record ItemText (z : Printed) : Type 0 where
  pub text : List ℕ
  pub no_text : is_text z.leaves ≡ false
  pub is : (b : Before) → (z.marked ≡ true → b ≡ bf.Word → ⊥) → IsItem b z.leaves z.content text

pub one-item : (b left : Before) (ps : Parts) (text : List ℕ) → IsItem b left ps text → (qs : Parts) → ContentText left qs → ContentText b (ps ++ qs)
one-item b left ps text is qs more = record { last = more.last; text = text ++ more.text; is = f.item b left more.last ps qs text more.text is more.is }

pub other-word : bf.Other ≡ bf.Word → ⊥
other-word e = cc

pub unparted : (b : Before) (marked said : Bool) → is_parted b marked said ≡ false → marked ≡ true → b ≡ bf.Word → ⊥
unparted b marked said none is word = false≢true (sym (subst (λ y. is_parted y marked said ≡ false) word none) ∙ is)

-- a part that isn't literal text, parted where it has to be
pub place-item : (b : Before) (z : Printed) (qs : Parts) → ItemText z → ContentText z.leaves qs → ContentText b (item b z ++ qs)
place-item b z qs h later = go (is_parted b z.marked (is_text z.leaves)) refl
  where
    go : (p : Bool) → is_parted b z.marked (is_text z.leaves) ≡ p → ContentText b (parted p z.content ++ qs)
    go true e = one-item b bf.Other (parts.apart ∷ []) _ (f.apart b) (z.content ++ qs) (one-item bf.Other z.leaves z.content h.text (h.is bf.Other (λ m word. other-word word)) qs later)
    go false e = one-item b z.leaves z.content h.text (h.is b (λ m word. unparted b z.marked (is_text z.leaves) e m word)) qs later

-- literal text

pub text-leaves : (b : Bool) → is_text (if b then bf.Word else bf.Text) ≡ true
text-leaves true = refl
text-leaves false = refl

pub text-takes : (b : Bool) → takes_text (if b then bf.Word else bf.Text) ≡ false
text-takes true = refl
text-takes false = refl

pub said-item : (b : Before) (text : List ℕ) → takes_text b ≡ true → IsContentText text → IsItem b (behind_text text) (parts.said text ∷ []) (flat_map doubled text)
said-item b _ takes (content_text c text all) =
    f.said b (behind_text (c ∷ text)) (c ∷ text) takes (text-takes (is_word (last_of (c ∷ text)))) all
    (λ front e. ap (λ (z : Bool). if z then bf.Word else bf.Text) (ap is_word (sym (said-last front c text)) ∙ e))

pub place-text : (b : Before) (text : List ℕ) (qs : Parts) → is_text b ≡ false → IsContentText text → ContentText (behind_text text) qs → ContentText b (item b (literal text) ++ qs)
place-text bf.Other text qs e is later = one-item bf.Other (behind_text text) (parts.said text ∷ []) _ (said-item bf.Other text refl is) qs later
place-text bf.If text qs e is later =
    subst (λ z. ContentText bf.If (parted z (parts.said text ∷ []) ++ qs)) (sym (text-leaves (is_word (last_of text))))
    (one-item bf.If bf.Other (parts.apart ∷ []) _ (f.apart bf.If) (parts.said text ∷ qs) (one-item bf.Other (behind_text text) (parts.said text ∷ []) _ (said-item bf.Other text refl is) qs later))
place-text bf.Text text qs e is later = absurd (false≢true (sym e))
place-text bf.Word text qs e is later = absurd (false≢true (sym e))

-- where the first argument is false, no literal text stands right before
pub data Agrees : Bool → Before → Type 0 where
  text_before : (b : Before) → Agrees true b
  none_before : (b : Before) → is_text b ≡ false → Agrees false b

pub agrees-none : (b : Before) → Agrees false b → is_text b ≡ false
agrees-none _ (none_before b e) = e

-- what is printed in content and in code
pub either-item : (ps : Parts) (text : List ℕ) → ((b : Before) → IsItem b bf.Other ps text) → ItemText (either ps)
either-item ps text is = record { text = text; no_text = refl; is = λ b free. is b }

-- tags

pub is-false : (b : Bool) → (b ≡ true → ⊥) → b ≡ false
is-false true h = absurd (h refl)
is-false false h = refl

pub some-children : (x : TNode) (xs : List TNode) → x ∷ xs ≡ [] → ⊥
some-children x xs e = cc

pub whole-tag : (name : List ℕ) (all qs : Parts) (last : Before) (text inner : List ℕ) → IsTagName name → is_void name ≡ false → a.AreAttributes (is_component name) all text → IsContent bf.Other last qs inner
    → TagText (tag_start name ∷ (all ++ (content_start ∷ (qs ++ end_tag name))))
whole-tag name all qs last text inner is holds attributes content = record { text = _; is = f.whole last name all qs text inner is holds attributes content }

pub tag-parts : (name : List ℕ) (all : List Attribute) (children : List TNode) → IsTagName name → ArePrintable (is_component name) all → (is_void name ≡ true → children ≡ []) → ContentText bf.Other (content (map node children))
    → TagText (tag name all (map node children))
unfolding tag
tag-parts name all [] is attributes void h = let found = attributes-form (is_component name) all attributes in record { text = _; is = f.empty name (attributes_parts all) found.text is found.are }
tag-parts name all (x ∷ xs) is attributes void h =
    let found = attributes-form (is_component name) all attributes in
    whole-tag name (attributes_parts all) (content (map node (x ∷ xs))) h.last found.text h.text is (is-false (is_void name) (λ e. some-children x xs (void e))) found.are h.is

pub text-holds : is_void (codes "text") ≡ false
unfolding void_elements
text-holds = refl

pub group-parts : (items : List TNode) → ContentText bf.Other (content (map node items)) → TagText (group (map node items))
unfolding group
group-parts items h = whole-tag (codes "text") [] (content (map node items)) h.last [] h.text (tag_name _ _ refl refl) text-holds a.none h.is

pub section-law : (labels : List Label) (items : List TNode) → section_parts (section labels items) ≡ sectioned labels (map node items)
unfolding node section_parts
section-law labels items = fold-roll-TSection Printed Parts node_form (λ it. sectioned it.labels it.items) (record { labels = labels; items = items })

-- the parts of statements, unfolded
pub if-parts : (e : Expr) (holds : Printed) (fails : Option Printed) → if_else e holds fails ≡ headed w.If (whole (printed e)) (holds.code ++ otherwise fails)
unfolding if_else
if-parts e holds fails = refl

pub while-parts : (e : Expr) (body : Printed) → while_loop e body ≡ headed w.While (whole (printed e)) body.code
unfolding while_loop
while-parts e body = refl

pub for-parts : (start : Option Stmt) (test next : Option Expr) (body : Printed) → for_loop start test next body ≡ headed w.For (for_head start test next) body.code
unfolding for_loop
for-parts start test next body = refl

pub foreach-parts : (name : List ℕ) (e : Expr) (body : Printed) → foreach_loop name e body ≡ headed w.Foreach (foreach_head name e) body.code
unfolding foreach_loop
foreach-parts name e body = refl

pub switch-parts : (e : Expr) (sections : List Parts) → switch_of e sections ≡ headed w.Switch (whole (printed e)) (in_block (flat_map (λ x. x) sections))
unfolding switch_of
switch-parts e sections = refl

-- a block for code by its equation
pub as-code : (with_else : Bool) (at : Point) (x : TNode) (z : Printed) → node x ≡ z → BlockText with_else at z.code point.Begins → BlockText with_else at (node x).code point.Begins
as-code with_else at x z e h = subst (λ (y : Printed). BlockText with_else at y.code point.Begins) (sym e) h

-- code behind an at sign in content
pub record HeadText (with_else : Bool) (ps : Parts) : Type 0 where
  pub goes_on : Bool
  pub text : List ℕ
  pub is : InHead with_else goes_on ps text

pub head-more : (with_else : Bool) (ps : Parts) → HeadText with_else ps → HeadText with_else (ps ++ [])
head-more with_else ps h = subst (λ z. HeadText with_else z) (sym (append-nil ps)) h

-- the same that no `else` could go on with
pub record PlainHead (ps : Parts) : Type 0 where
  pub text : List ℕ
  pub is : InHead false false ps text

abbrev pub plain-head : (ps : Parts) → PlainHead ps → HeadText false ps
plain-head ps h = record { goes_on = false; text = h.text; is = h.is }

-- a word and brackets before it
pub headed-head : (word : Word) (ks : Kinds) (ps : Parts) → BeginsBlock word → IsClosed ks → HeadText (is_if word) ps → HeadText false (headed word ks ps)
headed-head word ks ps begins closed h =
    record { goes_on = h.goes_on; text = _; is = f.code false (is_if word) h.goes_on (t.Word word ∷ in_round ks) ps h.text (headed-code word ks closed) (λ cs. head-goes word cs ks begins closed) h.is }

pub head-as : (x : TNode) (z : Printed) → node x ≡ z → HeadText false z.code → HeadText false (node x).code
head-as x z e h = subst (λ (y : Printed). HeadText false y.code) (sym e) h

pub head-parts : (ps qs : Parts) → ps ≡ qs → HeadText false qs → HeadText false ps
head-parts ps qs e h = subst (λ y. HeadText false y) (sym e) h

pub block-parts : (with_else : Bool) (at : Point) (ps qs : Parts) → ps ≡ qs → BlockText with_else at qs point.Begins → BlockText with_else at ps point.Begins
block-parts with_else at ps qs e h = subst (λ y. BlockText with_else at y point.Begins) (sym e) h

-- an item that such code is
pub headed-item : (word : Word) (ks : Kinds) (ps : Parts) (left : Before) → f.IsCodeWord word → BeginsBlock word → IsClosed ks → (h : HeadText (is_if word) ps) → (h.goes_on ≡ true → takes_text left ≡ false) → is_text left ≡ false
    → ItemText (coded true left (headed word ks ps))
headed-item word ks ps left code begins closed h ends no_text = record {
  text = _;
  no_text = no_text;
  is = λ b free. f.headed b left word (is_if word) h.goes_on (in_round ks) ps h.text (free refl) code (headed-code word ks closed) (λ cs. head-goes word cs ks begins closed) h.is ends;
}

pub item-as : (x : TNode) (z : Printed) → node x ≡ z → ItemText z → ItemText (node x)
item-as x z e h = subst (λ y. ItemText y) (sym e) h

pub coded-as : (marked : Bool) (left : Before) (ps qs : Parts) → ps ≡ qs → ItemText (coded marked left qs) → ItemText (coded marked left ps)
coded-as marked left ps qs e h = subst (λ y. ItemText (coded marked left y)) (sym e) h
