-- Printable attributes are printed in the forms that are cut as meant.
use Rattle.std.proofs.Common.{◌≡◌, ℕ, Bool, true, false, List, [], ◌∷◌, ◌++◌, refl, sym, subst}
use Rattle.std.specs.Prelude.{codes}
use Rattle.std.specs.List.{list_all, flat_map}
use Rattle.std.proofs.lemmas.Bool.{and_parts}
use Rattle.cs_token.specs.declared.characters.Class.TheVariants as class
use Rattle.cs_token.specs.declared.token.TokenKind.TheVariants as t
use Rattle.cs_token.specs.Characters.{is_in}
use Rattle.cs_print.specs.Layout.{token_text, gap_behind, code_text}
use Rattle.cs_print.specs.Printed.{whole, printed}
use Rattle.cs_print.proofs.CodeKinds as c
use Rattle.cs_print.proofs.ReadLemmas as rd
use Rattle.razor_token.specs.declared.context.Holds.{Holds}
use Rattle.razor_token.specs.declared.context.Holds.TheVariants as h
use Rattle.razor_token.specs.declared.piece.PieceKind.TheVariants as k
use Rattle.razor_token.specs.declared.piece.Quote.{Quote}
use Rattle.razor_token.specs.declared.piece.Quote.TheVariants as q
use Rattle.razor_token.specs.declared.runs.RunKind.TheVariants as r
use Rattle.razor_token.specs.Runs.{is_of}
use Rattle.razor_token.specs.Tags.{held_by}
use Rattle.razor_token.specs.ValueFronts.{quoted_run}
use Rattle.razor_ast.specs.declared.attribute.Attribute.{Attribute}
use Rattle.razor_ast.specs.declared.attribute.AttributeKind.{AttributeKind}
use Rattle.razor_ast.specs.declared.attribute.ValuePart.{ValuePart}
use Rattle.razor_print.specs.Attributes.{value_part, value_parts, attribute_parts, attributes_parts}
use Rattle.razor_print.specs.Parts.{Parts}
use Rattle.razor_print.specs.Parts as parts
use Rattle.razor_print.specs.Quotes.{text_quote, mixed_quote}
use Rattle.printed_pieces.specs.Names.{IsAttributeName}
use Rattle.printed_pieces.specs.Printable.{AreParts, IsValueText, IsKindOf, ArePrintable}
use Rattle.printed_pieces.specs.Printable as pr
use Rattle.printed_pieces.proofs.AttributeLaws.{IsValue, IsAttribute, AreAttributes}
use Rattle.printed_pieces.proofs.AttributeLaws as a
use Rattle.printed_pieces.proofs.LiteralLaws.{apart-from}
use Rattle.printed_pieces.proofs.QuoteFree.{IsFree, code-free, free-class, free-join}
use Rattle.printed_pieces.proofs.SuppliedLaws.{IsGiven}
use Rattle.printed_pieces.proofs.SuppliedLaws as su
use Rattle.printed_pieces.proofs.ValueLaws.{IsMixed, event, supplied}
use Rattle.printed_pieces.proofs.ValueLaws as v
use Rattle.printed_pieces.proofs.WrittenCode.{lexeme, name-lexeme, closed-value, closed-spelled, closed-expression}

-- parts with some text
record MixedText (quote : Quote) (b : Bool) (ps : Parts) : Type 0 where
  text : List ℕ
  is : IsMixed quote b ps text

mixed-parts : (quote : Quote) (b : Bool) (xs : List ValuePart) → AreParts quote b xs → MixedText quote b (flat_map value_part xs)
mixed-parts quote _ _ (pr.no_part b) = record { text = []; is = v.no_part b }
mixed-parts quote _ _ (pr.literal c text ps all more) = let found = mixed-parts quote true ps more in record { text = _; is = v.said (c ∷ text) (flat_map value_part ps) found.text all found.is }
mixed-parts quote _ _ (pr.shown b e ps is more) = let found = mixed-parts quote false ps more in record { text = _; is = v.shown b (whole (printed e)) (flat_map value_part ps) found.text (closed-value e is) found.is }

-- names

word-not-quote : (x : List ℕ) → list_all (is_in class.Word) x ≡ true → list_all (is_of (quoted_run q.Double)) x ≡ true
word-not-quote [] all = refl
word-not-quote (d ∷ x) all =
    let both = and_parts (is_in class.Word d) (list_all (is_in class.Word) x) all in
    rw (apart-from r.Word d 64 both.0 refl, apart-from r.Word d 34 both.0 refl, word-not-quote x both.1) refl

name-code : (name : List ℕ) → c.IsLexeme (t.Name name) → c.IsCode (t.Name name ∷ [])
name-code name is = rd.named name [] is c.none

name-free : (name : List ℕ) → c.IsLexeme (t.Name name) → IsFree 34 (code_text (t.Name name ∷ []))
unfolding code_text token_text gap_behind
name-free name is = free-join 34 (name ++ 32 ∷ []) [] (free-join 34 name (32 ∷ []) (free-class class.Word 34 name refl is.0.all) refl) refl

-- a value with some text, or none
record ValueText (holds : Holds) (ps : Parts) : Type 0 where
  text : List ℕ
  is : IsValue holds ps text

data Valued (component : Bool) (name : List ℕ) (ps : Parts) : Type 0 where
  has_value : ValueText (held_by component name) ps → Valued component name ps
  has_none : ps ≡ [] → Valued component name ps

held : (component : Bool) (name : List ℕ) (holds : Holds) (ps : Parts) (text : List ℕ) → held_by component name ≡ holds → IsValue holds ps text → Valued component name ps
held component name holds ps text e is = has_value (record { text = text; is = subst (λ z. IsValue z ps text) (sym e) is })

given : (said : List ℕ) → IsValueText said → IsGiven (text_quote said) said
given _ pr.empty = su.empty
given _ (pr.some c text is stands) = su.some c text is stands

value-form : (component : Bool) (name : List ℕ) (kind : AttributeKind) → IsKindOf component name kind → Valued component name (value_parts kind)
unfolding value_parts
value-form component name _ (pr.mixed n ps e is) = let found = mixed-parts (mixed_quote ps) false ps is in held component name h.Mixed _ _ e (a.mixed (mixed_quote ps) _ found.text found.is)
value-form component name _ (pr.key x e is) = let found = closed-expression x is in held component name h.Code _ _ e (a.code q.Single (whole (printed x)) found.code (code-free (whole (printed x)) found.code))
value-form component name _ (pr.event n x e is) = held component name h.Event _ _ e (a.led_by_at h.Event q.Double (whole (printed x)) event (closed-spelled x is))
value-form component name _ (pr.bind n field e is) =
    let known = lexeme (t.Name field.name) (name-lexeme field.name is) in
    held component name h.Code _ _ e (a.code q.Double (t.Name field.name ∷ []) (name-code field.name known) (name-free field.name known))
value-form component name _ (pr.bind_event e) = held component name h.Text _ _ e (a.as_text q.Double (codes "oninput") refl)
value-form component name _ (pr.nothing n) = has_none refl
value-form component name _ (pr.text n p said x e is) = held component name h.Supplied _ _ e (a.as_given (text_quote said) said x (given said is))
value-form component name _ (pr.value n x e is) = held component name h.Supplied _ _ e (a.led_by_at h.Supplied q.Double (whole (printed x)) supplied (closed-spelled x is))
value-form component name _ (pr.context n field e is) = held component name h.Text _ _ e (a.as_text q.Double field.name (word-not-quote field.name (lexeme (t.Name field.name) (name-lexeme field.name is)).0.all))

-- attributes with some text
pub record AttributesText (component : Bool) (ps : Parts) : Type 0 where
  pub text : List ℕ
  pub are : AreAttributes component ps text

one-form : (component : Bool) (x : Attribute) → IsAttributeName x.name → Valued component x.name (value_parts x.kind) → (text : List ℕ) × IsAttribute component (attribute_parts x) text
one-form component x is (has_value value) = (_, a.with_value x.name (value_parts x.kind) value.text is value.is)
one-form component x is (has_none none) =
    (_, subst (λ z. IsAttribute component (parts.piece k.Space (32 ∷ []) ∷ parts.piece (k.AttributeName x.name) x.name ∷ z) (32 ∷ (x.name ++ []))) (sym none) (a.alone x.name is))

pub attributes-form : (component : Bool) (all : List Attribute) → ArePrintable component all → AttributesText component (attributes_parts all)
attributes-form component _ pr.none = record { text = []; are = a.none }
attributes-form component _ (pr.another x others named is more) =
    let one = one-form component x named (value-form component x.name x.kind is) in
    let found = attributes-form component others more in
    record { text = one.0 ++ found.text; are = a.another (attribute_parts x) (attributes_parts others) one.0 found.text one.1 found.are }
