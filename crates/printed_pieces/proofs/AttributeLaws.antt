-- Attributes are cut as meant.
use Rattle.std.proofs.Common.{◌≡◌, ℕ, ◌+◌, Bool, true, false, List, [], ◌∷◌, ◌++◌, length, None, refl, sym, ap, ◌∙◌, subst, append_assoc, arith, ne_eqb}
use Rattle.std.specs.declared.option.Option.{Option}
use Rattle.std.specs.Prelude.{◌==◌, codes}
use Rattle.std.specs.List.{list_all}
use Rattle.std.proofs.Math.Seq.{take-append_seam, drop-append_seam}
use Rattle.cs_ast.specs.declared.expression.Expr.{Expr}
use Rattle.cs_token.specs.Places.{place_after}
use Rattle.cs_token.specs.Reading.Runs.{strip}
use Rattle.cs_print.specs.Layout.{code_text}
use Rattle.cs_print.specs.Printed.{Kinds}
use Rattle.cs_print.proofs.CodeKinds.{IsCode}
use Rattle.razor_token.specs.declared.context.Change.{Change}
use Rattle.razor_token.specs.declared.context.Context.{Context}
use Rattle.razor_token.specs.declared.context.Context.TheVariants as x
use Rattle.razor_token.specs.declared.context.Holds.{Holds}
use Rattle.razor_token.specs.declared.context.Holds.TheVariants as h
use Rattle.razor_token.specs.declared.piece.PieceKind.TheVariants as k
use Rattle.razor_token.specs.declared.piece.Quote.{Quote}
use Rattle.razor_token.specs.declared.runs.RunKind.TheVariants as r
use Rattle.razor_token.specs.Runs.{is_of, run, begins}
use Rattle.razor_token.specs.CodeFronts.{mark}
use Rattle.razor_token.specs.TagFronts.{name_count, name_change, attribute_of, start_tag_at}
use Rattle.razor_token.specs.Tags.{held_by}
use Rattle.razor_token.specs.ValueFronts.{quoted_run}
use Rattle.razor_token.specs.Contexts.{changed, stays, enters}
use Rattle.razor_token.specs.Pieces.{piece}
use Rattle.razor_token.specs.Cutting.{opened_behind}
use Rattle.razor_print.specs.Parts.{Parts, quoted, led, tokens}
use Rattle.razor_print.specs.Parts as parts
use Rattle.printed_pieces.specs.Cut.{Stand}
use Rattle.printed_pieces.specs.Names.{IsAttributeName, plain, marked}
use Rattle.printed_pieces.proofs.WalkLaws.{stand-join, stand-piece, stand-nothing}
use Rattle.printed_pieces.proofs.LiteralLaws.{run-front, both, apart-from}
use Rattle.printed_pieces.proofs.ShownLaws.{IsClosed, round_text}
use Rattle.printed_pieces.proofs.QuoteFree.{IsFree}
use Rattle.printed_pieces.proofs.CodeValues.{stand-code-value}
use Rattle.printed_pieces.proofs.SuppliedLaws.{IsGiven, stand-supplied}
use Rattle.printed_pieces.proofs.ValueLaws.{quoted_text, IsLed, IsMixed, stand-led-value, stand-mixed-value, stand-text-value}

-- what ends the name of a tag, and of an attribute without a value
pub data EndsName : List ℕ → Type 0 where
  blank : (rest : List ℕ) → EndsName (32 ∷ rest)
  slash : (rest : List ℕ) → EndsName (47 ∷ rest)
  greater : (rest : List ℕ) → EndsName (62 ∷ rest)

-- a value in quotes, by what its attribute can have
pub data IsValue : Holds → Parts → List ℕ → Type 0 where
  as_given : (quote : Quote) (said : List ℕ) (a : Option Expr) → IsGiven quote said → IsValue h.Supplied (parts.supplied quote said a ∷ []) (quoted_text quote said)
  mixed : (quote : Quote) (ps : Parts) (text : List ℕ) → IsMixed quote false ps text → IsValue h.Mixed (quoted quote ps) (quoted_text quote text)
  led_by_at : (holds : Holds) (quote : Quote) (ks : Kinds) → IsLed holds → IsClosed ks → IsValue holds (quoted quote (led ks)) (quoted_text quote (64 ∷ round_text ks))
  code : (quote : Quote) (ks : Kinds) → IsCode ks → IsFree (mark quote) (code_text ks) → IsValue h.Code (quoted quote (tokens ks)) (quoted_text quote (code_text ks))
  as_text : (quote : Quote) (said : List ℕ) → list_all (is_of (quoted_run quote)) said ≡ true → IsValue h.Text (quoted quote (parts.verbatim said ∷ [])) (quoted_text quote said)

stand-value : (cs : List Context) (before rest : List ℕ) (holds : Holds) (ps : Parts) (text : List ℕ) → IsValue holds ps text → Stand (x.Named holds ∷ cs) before ps text rest cs
stand-value cs before rest _ _ _ (as_given quote said a all) = stand-supplied cs before rest quote said a all
stand-value cs before rest _ _ _ (mixed quote ps text is) = stand-mixed-value cs before rest quote ps text is
stand-value cs before rest _ _ _ (led_by_at holds quote ks leads is) = stand-led-value cs before rest holds quote ks leads is
stand-value cs before rest _ _ _ (code quote ks is free) = stand-code-value cs before rest quote ks is free
stand-value cs before rest _ _ _ (as_text quote said all) = stand-text-value cs before rest quote said all

-- it begins with `=`
begins-equal : (holds : Holds) (ps : Parts) (text rest : List ℕ) → IsValue holds ps text → begins (codes "=") (text ++ rest) ≡ true
unfolding strip
begins-equal _ _ _ rest (as_given quote said a all) = refl
begins-equal _ _ _ rest (mixed quote ps text is) = refl
begins-equal _ _ _ rest (led_by_at holds quote ks leads is) = refl
begins-equal _ _ _ rest (code quote ks is free) = refl
begins-equal _ _ _ rest (as_text quote said all) = refl

no-name : (holds : Holds) (ps : Parts) (text rest : List ℕ) → IsValue holds ps text → run r.AttributeName (text ++ rest) ≡ 0
no-name _ _ _ rest (as_given quote said a all) = refl
no-name _ _ _ rest (mixed quote ps text is) = refl
no-name _ _ _ rest (led_by_at holds quote ks leads is) = refl
no-name _ _ _ rest (code quote ks is free) = refl
no-name _ _ _ rest (as_text quote said all) = refl

ends-no-name : (rest : List ℕ) → EndsName rest → run r.AttributeName rest ≡ 0
ends-no-name _ (blank rest) = refl
ends-no-name _ (slash rest) = refl
ends-no-name _ (greater rest) = refl

ends-no-value : (rest : List ℕ) → EndsName rest → begins (codes "=") rest ≡ false
unfolding strip
ends-no-value _ (blank rest) = refl
ends-no-value _ (slash rest) = refl
ends-no-value _ (greater rest) = refl

-- the name of an attribute is found where it begins
other-first : (component void : Bool) (c : ℕ) (text : List ℕ) → (c == 32) ≡ false → (c == 9) ≡ false → (c == 10) ≡ false → (c == 13) ≡ false → (c == 47) ≡ false → (c == 62) ≡ false
    → start_tag_at component void (c ∷ text) ≡ attribute_of component (name_count (c ∷ text)) (c ∷ text)
unfolding start_tag_at strip
other-first component void c text a b d e f i = rw (a, b, d, e, f, i) refl

first-found : (component void : Bool) (name rest : List ℕ) → IsAttributeName name → start_tag_at component void (name ++ rest) ≡ attribute_of component (name_count (name ++ rest)) (name ++ rest)
first-found component void _ rest (plain c name is all) =
    other-first component void c (name ++ rest) (apart-from r.AttributeName c 32 is refl) (apart-from r.AttributeName c 9 is refl) (apart-from r.AttributeName c 10 is refl) (apart-from r.AttributeName c 13 is refl) (apart-from r.AttributeName c 47 is refl) (apart-from r.AttributeName c 62 is refl)
first-found component void _ rest (marked name all) = other-first component void 64 (name ++ rest) refl refl refl refl refl refl

plain-count : (c : ℕ) (text : List ℕ) → (c == 64) ≡ false → name_count (c ∷ text) ≡ run r.AttributeName (c ∷ text)
unfolding strip
plain-count c text e = rw e refl

marked-count : (text : List ℕ) → name_count (64 ∷ text) ≡ run r.AttributeName text + 1
unfolding strip
marked-count text = refl

count-is : (name rest : List ℕ) → IsAttributeName name → run r.AttributeName rest ≡ 0 → name_count (name ++ rest) ≡ length name
count-is _ rest (plain c name is all) ends =
    plain-count c (name ++ rest) (apart-from r.AttributeName c 64 is refl) ∙ run-front r.AttributeName (c ∷ name) rest (both (is_of r.AttributeName c) (list_all (is_of r.AttributeName) name) is all) ends
count-is _ rest (marked name all) ends =
    let long = run-front r.AttributeName name rest all ends in
    marked-count (name ++ rest) ∙ omega (arith, long)

some-name : (name : List ℕ) → IsAttributeName name → (length name == 0) ≡ false
some-name _ (plain c name is all) = ne_eqb (length (c ∷ name)) 0 (λ e. absurd (omega (arith, e)))
some-name _ (marked name all) = ne_eqb (length (64 ∷ name)) 0 (λ e. absurd (omega (arith, e)))

attribute-is : (component : Bool) (name rest : List ℕ) → IsAttributeName name → attribute_of component (length name) (name ++ rest) ≡ piece (k.AttributeName name) (length name) (name_change component name rest)
attribute-is component name rest is = rw (some-name name is, take-append_seam name rest, drop-append_seam name rest) refl

name-found : (component void : Bool) (name rest : List ℕ) → IsAttributeName name → run r.AttributeName rest ≡ 0
    → start_tag_at component void (name ++ rest) ≡ piece (k.AttributeName name) (length name) (name_change component name rest)
name-found component void name rest is ends =
    first-found component void name rest is ∙ ap (λ n. attribute_of component n (name ++ rest)) (count-is name rest is ends) ∙ attribute-is component name rest is

-- a blank before it

no-white : (name rest : List ℕ) → IsAttributeName name → run r.White (name ++ rest) ≡ 0
no-white _ rest (plain c name is all) = rw (apart-from r.AttributeName c 32 is refl, apart-from r.AttributeName c 9 is refl, apart-from r.AttributeName c 10 is refl, apart-from r.AttributeName c 13 is refl) refl
no-white _ rest (marked name all) = refl

space-found : (component void : Bool) (rest : List ℕ) → run r.White rest ≡ 0 → start_tag_at component void (32 ∷ rest) ≡ piece k.Space 1 stays
unfolding start_tag_at
space-found component void rest none = rw none refl

-- an attribute behind a blank, with a value or without one
pub data IsAttribute (component : Bool) : Parts → List ℕ → Type 0 where
  with_value : (name : List ℕ) (ps : Parts) (text : List ℕ) → IsAttributeName name → IsValue (held_by component name) ps text →
      IsAttribute component (parts.piece k.Space (32 ∷ []) ∷ parts.piece (k.AttributeName name) name ∷ ps) (32 ∷ (name ++ text))
  alone : (name : List ℕ) → IsAttributeName name → IsAttribute component (parts.piece k.Space (32 ∷ []) ∷ parts.piece (k.AttributeName name) name ∷ []) (32 ∷ (name ++ []))

-- attributes one behind another
pub data AreAttributes (component : Bool) : Parts → List ℕ → Type 0 where
  none : AreAttributes component [] []
  another : (ps qs : Parts) (text later : List ℕ) → IsAttribute component ps text → AreAttributes component qs later → AreAttributes component (ps ++ qs) (text ++ later)

-- a name behind a blank, and what is behind it
named-part : (component void : Bool) (cs ds : List Context) (before rest name more : List ℕ) (ps : Parts) (change : Change) → IsAttributeName name → run r.AttributeName (more ++ rest) ≡ 0
    → name_change component name (more ++ rest) ≡ change → change.sign ≡ None → changed change (x.StartTag component void ∷ cs) ≡ ds
    → Stand ds ((before ++ 32 ∷ []) ++ name) ps more rest (x.StartTag component void ∷ cs)
    → Stand (x.StartTag component void ∷ cs) before (parts.piece k.Space (32 ∷ []) ∷ parts.piece (k.AttributeName name) name ∷ ps) (32 ∷ (name ++ more)) rest (x.StartTag component void ∷ cs)
named-part component void cs ds before rest name more ps change is ends changes signless leads behind =
    let tag = x.StartTag component void ∷ cs in
    let white : run r.White ((name ++ more) ++ rest) ≡ 0 = ap (run r.White) (append_assoc name more rest) ∙ no-white name (more ++ rest) is in
    let found : start_tag_at component void (name ++ (more ++ rest)) ≡ piece (k.AttributeName name) (length name) change = name-found component void name (more ++ rest) is ends ∙ ap (λ z. piece (k.AttributeName name) (length name) z) changes in
    stand-join tag tag tag before (parts.piece k.Space (32 ∷ []) ∷ []) (parts.piece (k.AttributeName name) name ∷ ps) (32 ∷ []) (name ++ more) rest
    (stand-piece tag before (32 ∷ []) ((name ++ more) ++ rest) k.Space stays (space-found component void ((name ++ more) ++ rest) white) refl refl refl)
    (stand-join tag ds tag (before ++ 32 ∷ []) (parts.piece (k.AttributeName name) name ∷ []) ps name more rest
    (subst (λ z. Stand tag (before ++ 32 ∷ []) (parts.piece (k.AttributeName name) name ∷ []) name (more ++ rest) z) leads
    (stand-piece tag (before ++ 32 ∷ []) name (more ++ rest) (k.AttributeName name) change found refl refl (ap (λ z. opened_behind z (place_after (before ++ 32 ∷ [])) []) signless)))
    behind)

with-equal : (component : Bool) (name text : List ℕ) → begins (codes "=") text ≡ true → name_change component name text ≡ enters (x.Named (held_by component name))
with-equal component name text e = rw e refl

without-equal : (component : Bool) (name text : List ℕ) → begins (codes "=") text ≡ false → name_change component name text ≡ stays
without-equal component name text e = rw e refl

stand-attribute : (component void : Bool) (cs : List Context) (before rest : List ℕ) (ps : Parts) (text : List ℕ) → EndsName rest → IsAttribute component ps text
    → Stand (x.StartTag component void ∷ cs) before ps text rest (x.StartTag component void ∷ cs)
stand-attribute component void cs before rest _ _ ends (with_value name ps text is value) =
    let tag = x.StartTag component void ∷ cs in
    let holds = held_by component name in
    named-part component void cs (x.Named holds ∷ tag) before rest name text ps (enters (x.Named holds)) is (no-name holds ps text rest value)
    (with-equal component name (text ++ rest) (begins-equal holds ps text rest value)) refl refl (stand-value tag ((before ++ 32 ∷ []) ++ name) rest holds ps text value)
stand-attribute component void cs before rest _ _ ends (alone name is) =
    let tag = x.StartTag component void ∷ cs in
    named-part component void cs tag before rest name [] [] stays is (ends-no-name rest ends)
    (without-equal component name rest (ends-no-value rest ends)) refl refl (stand-nothing tag ((before ++ 32 ∷ []) ++ name) rest)

-- what stands behind an attribute ends a name
attribute-ends : (component : Bool) (ps : Parts) (text rest : List ℕ) → IsAttribute component ps text → EndsName (text ++ rest)
attribute-ends component _ _ rest (with_value name ps text is value) = blank _
attribute-ends component _ _ rest (alone name is) = blank _

pub attributes-end : (component : Bool) (ps : Parts) (text rest : List ℕ) → EndsName rest → AreAttributes component ps text → EndsName (text ++ rest)
attributes-end component _ _ rest ends none = ends
attributes-end component _ _ rest ends (another ps qs text later is others) = subst (λ z. EndsName z) (sym (append_assoc text later rest)) (attribute-ends component ps text (later ++ rest) is)

pub stand-attributes : (component void : Bool) (cs : List Context) (before rest : List ℕ) (ps : Parts) (text : List ℕ) → EndsName rest → AreAttributes component ps text
    → Stand (x.StartTag component void ∷ cs) before ps text rest (x.StartTag component void ∷ cs)
stand-attributes component void cs before rest _ _ ends none = stand-nothing (x.StartTag component void ∷ cs) before rest
stand-attributes component void cs before rest _ _ ends (another ps qs text later is others) =
    let tag = x.StartTag component void ∷ cs in
    stand-join tag tag tag before ps qs text later rest
    (stand-attribute component void cs before (later ++ rest) ps text (attributes-end component qs later rest ends others) is)
    (stand-attributes component void cs (before ++ text) rest qs later ends others)
