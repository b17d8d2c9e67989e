-- Attributes that stand in a text are printable.
use Rattle.std.proofs.Common.{◌≡◌, ◌≢◌, ℕ, Bool, true, false, List, [], ◌∷◌, ◌++◌, refl, sym, ap, ◌∙◌, subst, eqb-true, arith}
use Rattle.std.specs.Prelude.{◌==◌, codes, if◌then◌else◌}
use Rattle.std.specs.declared.option.Option.{Option}
use Rattle.std.specs.Str.{bytes_eq}
use Rattle.std.proofs.lemmas.Bool.{false≢true}
use Rattle.std.proofs.lemmas.Slice.Eq.{bytes_eq-Decides}
use Rattle.cs_ast.specs.declared.expression.Expr.{Expr}
use Rattle.cs_token.specs.declared.token.Token.{Token}
use Rattle.cs_token.specs.Reading.Runs.{strip}
use Rattle.cs_grammar.specs.Lambdas.{Spelled}
use Rattle.cs_grammar.specs.Tokens.{ident}
use Rattle.razor_token.specs.declared.context.Holds.{Holds}
use Rattle.razor_token.specs.declared.context.Holds.TheVariants as h
use Rattle.razor_token.specs.declared.piece.Piece.{Piece}
use Rattle.razor_token.specs.declared.piece.PieceKind.TheVariants as k
use Rattle.razor_token.specs.declared.piece.Quote.{Quote}
use Rattle.razor_token.specs.Tags.{held_by, held_by_parameter}
use Rattle.razor_ast.specs.declared.attribute.Attribute.{Attribute}
use Rattle.razor_ast.specs.Pieces.{IsKind, codes_of}
use Rattle.razor_ast.specs.Literals.{place_of}
use Rattle.razor_ast.specs.AttributeNames.{begins_at, IsEvent}
use Rattle.razor_ast.specs.AttributeNames as AttributeNames
use Rattle.razor_ast.specs.Attributes.{Parts, Behind, Led, EventValue, TextValue, BeginsValue, OfElement, OfComponent, KeyOf, OfTag, SomeAttributes}
use Rattle.razor_ast.specs.Attributes as spelled
use Rattle.printed_pieces.specs.Names.{IsAttributeName}
use Rattle.printed_pieces.specs.Printable.{IsKindOf, ArePrintable}
use Rattle.printed_pieces.specs.Printable as printable
use Rattle.printed_pieces.specs.Written.{AreProper, IsLexeme, IsWritten}
use Rattle.printable_texts.specs.Stands.{Where, tag, named, value, Supplies, Stands}
use Rattle.printable_texts.proofs.TokenLaws.{codes_stand, step, led, proper_front, proper_behind}
use Rattle.printable_texts.proofs.CodeLaws.{lexeme_named, first_lexeme}
use Rattle.printable_texts.proofs.ValueLaws.{parts_are, mixed_parts, quote_of}
use Rattle.printable_texts.proofs.SuppliedLaws.{text_rest, name_written}

-- behind the attributes of a tag
pub data Behind_attributes (component void : Bool) : List Piece → Type 0 where
  in_tag : (ps : List Piece) → Stands (tag component void) ps → Behind_attributes component void ps
  behind_a_name : (x : List ℕ) (ps : List Piece) → Stands (named component void x) ps → Behind_attributes component void ps

behind_space_is : (component void : Bool) (space : Piece) (ps : List Piece) → IsKind k.Space space → Behind_attributes component void (space ∷ ps) → Stands (tag component void) ps
behind_space_is component void space ps is (in_tag _ here) = (step (tag component void) k.Space space ps is here).2
behind_space_is component void space ps is (behind_a_name x _ here) = (step (named component void x) k.Space space ps is here).2

-- what the names of attributes can have
no_at : (c : ℕ) (x : List ℕ) → begins_at (c ∷ x) ≡ false → (c == 64) ≡ false
no_at c x e = go (c == 64) refl
  where
    go : (b : Bool) → (c == 64) ≡ b → (c == 64) ≡ false
    go false is = is
    go true is = absurd (false≢true (sym e ∙ ap (λ z. begins_at (z ∷ x)) (eqb-true c 64 is)))

abbrev plain_holds : Bool → List ℕ → Holds
plain_holds component x = if component then held_by_parameter x else h.Mixed

held_plain : (component : Bool) (x : List ℕ) → begins_at x ≡ false → held_by component x ≡ plain_holds component x
unfolding strip
held_plain component [] e = refl
held_plain component (c ∷ x) e = rw (no_at c x e) refl

held_mixed : (x : List ℕ) → begins_at x ≡ false → held_by false x ≡ h.Mixed
held_mixed x e = held_plain false x e

held_supplied : (x : List ℕ) → begins_at x ≡ false → x ≢ codes "Context" → held_by true x ≡ h.Supplied
held_supplied x e other = held_plain true x e ∙ go (bytes_eq x (codes "Context")) refl
  where
    go : (b : Bool) → bytes_eq x (codes "Context") ≡ b → held_by_parameter x ≡ h.Supplied
    go true is = absurd (other ((bytes_eq-Decides x (codes "Context")).0 is))
    go false is = rw is refl

held_key : (component : Bool) → held_by component (codes "@key") ≡ h.Code
unfolding strip
held_key component = refl

held_bind : held_by false (codes "@bind") ≡ h.Code
unfolding strip
held_bind = refl

held_bind_event : held_by false (codes "@bind:event") ≡ h.Text
unfolding strip
held_bind_event = refl

held_context : held_by true (codes "Context") ≡ h.Text
unfolding strip
held_context = refl

held_event : (component : Bool) (x : List ℕ) → IsEvent x → held_by component x ≡ h.Event
unfolding strip
held_event component _ (AttributeNames.event [] some all) = absurd (omega (arith, some))
held_event component _ (AttributeNames.event (c ∷ name) some all) = refl

-- a value behind its name
begun : (component void : Bool) (x : List ℕ) (p v : Piece) (ps : List Piece) → IsKind (k.AttributeName x) p → (quote : Option Quote) → IsKind (k.ValueStart quote) v → Stands (tag component void) (p ∷ v ∷ ps)
    → IsAttributeName x × Stands (value component void (held_by component x) quote) ps × Supplies (held_by component x) ps
begun component void x p v ps is quote starts here =
    let name = step (tag component void) (k.AttributeName x) p (v ∷ ps) is here in
    (name.0, (step (named component void x) (k.ValueStart quote) v ps starts name.2).2, led (named component void x) (k.ValueStart quote) v ps starts name.2)

-- code behind an at sign
behind_written : (ts : List Token) (a : Expr) → Behind ts a → AreProper ts → IsWritten Spelled a
behind_written ts a (spelled.whole _ _ h) proper = record { tokens = ts; proper = proper; tree = h }
behind_written _ a (spelled.in_round o c ts _ _ h _) proper = record { tokens = ts; proper = proper_front ts (c ∷ []) (proper_behind (o ∷ []) (ts ++ c ∷ []) proper); tree = h }

abbrev At : Bool → Bool → Holds → Option Quote → Where
At component void holds quote = value component void holds quote

led_written : (component void : Bool) (holds : Holds) (quote : Option Quote) (ps rest : List Piece) (a : Expr) → Led ps rest a → Stands (At component void holds quote) ps → IsWritten Spelled a × Stands (tag component void) rest
led_written component void holds quote _ rest a (spelled.quoted at end ts _ _ marks h ends) here =
    let place = At component void holds quote in
    let codes = codes_stand place ts (end ∷ rest) (step place k.At at (codes_of ts ++ end ∷ rest) marks here).2 in
    (behind_written ts a h codes.0, (step place k.ValueEnd end rest ends codes.1).2)
led_written component void holds quote _ rest a (spelled.bare at e end ts _ _ marks h over ends) here =
    let place = At component void holds quote in
    let codes = codes_stand place ts (e ∷ end ∷ rest) (step place k.At at (codes_of ts ++ e ∷ end ∷ rest) marks here).2 in
    (behind_written ts a h codes.0, (step place k.ValueEnd end rest ends (step place k.ExpressionEnd e (end ∷ rest) over codes.1).2).2)

event_written : (component void : Bool) (holds : Holds) (quote : Option Quote) (ps rest : List Piece) (a : Expr) → EventValue ps rest a → Stands (At component void holds quote) ps → IsWritten Spelled a × Stands (tag component void) rest
event_written component void holds quote ps rest a (spelled.led _ _ _ h) here = led_written component void holds quote ps rest a h here
event_written component void holds quote _ rest a (spelled.plain end ts _ _ h ends) here =
    let place = At component void holds quote in
    let codes = codes_stand place ts (end ∷ rest) here in
    (record { tokens = ts; proper = codes.0; tree = h }, (step place k.ValueEnd end rest ends codes.1).2)

-- one attribute
record Fine (component void : Bool) (a : Attribute) (rest : List Piece) : Type 0 where
  named_so : IsAttributeName a.name
  kind : IsKindOf component a.name a.kind
  behind_it : Behind_attributes component void rest

of_element : (void : Bool) (n m : ℕ) (ps rest : List Piece) (a : Attribute) → OfElement n ps rest m a → Stands (tag false void) ps → Fine false void a rest
of_element void n m _ rest _ (spelled.no_value _ x p _ is plain) here =
    let name = step (tag false void) (k.AttributeName x) p rest is here in
    record { named_so = name.0; kind = printable.mixed n [] (held_mixed x plain) (printable.no_part false); behind_it = behind_a_name x rest name.2 }
of_element void n m _ rest _ (spelled.mixed _ x p v ps _ parts is plain starts h) here =
    let value_in = begun false void x p v ps is starts.0 starts.1 here in
    let found = parts_are false void starts.0 false ps rest parts h (subst (λ z. Stands (At false void z starts.0) ps) (held_mixed x plain) value_in.1) (λ e. absurd (false≢true e)) in
    record { named_so = value_in.0; kind = printable.mixed n parts (held_mixed x plain) (mixed_parts (quote_of starts.0) parts found.0); behind_it = in_tag rest found.1 }
of_element void n m _ rest _ (spelled.event _ x p v ps _ a is named_on starts h) here =
    let value_in = begun false void x p v ps is starts.0 starts.1 here in
    let found = event_written false void (held_by false x) starts.0 ps rest a h value_in.1 in
    record { named_so = value_in.0; kind = printable.event n a (held_event false x named_on) found.0; behind_it = in_tag rest found.1 }
of_element void n m _ rest _ (spelled.bind _ x p v end name _ is starts named_x ends) here =
    let place = At false void (held_by false (codes "@bind")) starts.0 in
    let value_in = begun false void (codes "@bind") p v (codes_of (name ∷ []) ++ end ∷ rest) is starts.0 starts.1 here in
    let found = codes_stand place (name ∷ []) (end ∷ rest) value_in.1 in
    record {
      named_so = value_in.0;
      kind = printable.bind n (ident name x) held_bind (lexeme_named name x named_x (subst IsLexeme named_x (first_lexeme name [] found.0)));
      behind_it = in_tag rest (step place k.ValueEnd end rest ends found.1).2;
    }
of_element void n m _ rest _ (spelled.bind_event _ p v ps _ is starts h) here =
    let value_in = begun false void (codes "@bind:event") p v ps is starts.0 starts.1 here in
    record { named_so = value_in.0; kind = printable.bind_event held_bind_event; behind_it = in_tag rest (text_rest false void (held_by false (codes "@bind:event")) starts.0 ps rest _ h value_in.1) }

of_component : (around : Piece → List ℕ) (void : Bool) (n m : ℕ) (ps rest : List Piece) (a : Attribute) → OfComponent around n ps rest m a → Stands (tag true void) ps → Fine true void a rest
of_component around void n m _ rest _ (spelled.no_value _ x p _ is plain other) here =
    let name = step (tag true void) (k.AttributeName x) p rest is here in
    record { named_so = name.0; kind = printable.nothing n; behind_it = behind_a_name x rest name.2 }
of_component around void n m _ rest _ (spelled.text _ x said p v ps _ a is plain other starts h means) here =
    let value_in = begun true void x p v ps is starts.0 starts.1 here in
    let found = text_rest true void (held_by true x) starts.0 ps rest said h value_in.1 in
    let said_so = subst (λ z. Supplies z ps) (held_supplied x plain other) value_in.2 rest said h in
    record { named_so = value_in.0; kind = printable.text n (place_of ps) said a (held_supplied x plain other) said_so; behind_it = in_tag rest found }
of_component around void n m _ rest _ (spelled.value _ x p v ps _ a is plain other starts h) here =
    let value_in = begun true void x p v ps is starts.0 starts.1 here in
    let found = led_written true void (held_by true x) starts.0 ps rest a h value_in.1 in
    record { named_so = value_in.0; kind = printable.value n a (held_supplied x plain other) found.0; behind_it = in_tag rest found.1 }
of_component around void n m _ rest _ (spelled.context _ x p v ps _ is starts h named_x) here =
    let value_in = begun true void (codes "Context") p v ps is starts.0 starts.1 here in
    record {
      named_so = value_in.0;
      kind = printable.context n _ held_context (name_written x named_x);
      behind_it = in_tag rest (text_rest true void (held_by true (codes "Context")) starts.0 ps rest x h value_in.1);
    }

of_key : (component void : Bool) (ps rest : List Piece) (a : Attribute) → KeyOf ps rest a → Stands (tag component void) ps → Fine component void a rest
of_key component void _ rest _ (spelled.key p v end ts _ a is starts h ends) here =
    let place = At component void (held_by component (codes "@key")) starts.0 in
    let value_in = begun component void (codes "@key") p v (codes_of ts ++ end ∷ rest) is starts.0 starts.1 here in
    let found = codes_stand place ts (end ∷ rest) value_in.1 in
    record {
      named_so = value_in.0;
      kind = printable.key a (held_key component) (record { tokens = ts; proper = found.0; tree = h });
      behind_it = in_tag rest (step place k.ValueEnd end rest ends found.1).2;
    }

of_tag : (around : Piece → List ℕ) (component void : Bool) (n m : ℕ) (ps rest : List Piece) (a : Attribute) → OfTag around component n ps rest m a → Stands (tag component void) ps → Fine component void a rest
of_tag around _ void n m ps rest a (spelled.of_element _ _ _ _ _ h) here = of_element void n m ps rest a h here
of_tag around _ void n m ps rest a (spelled.of_component _ _ _ _ _ h) here = of_component around void n m ps rest a h here
of_tag around component void n m ps rest a (spelled.key _ _ _ _ _ h) here = of_key component void ps rest a h here

pub attributes_print : (around : Piece → List ℕ) (component void : Bool) (n m : ℕ) (ps rest : List Piece) (all : List Attribute) → SomeAttributes around component n ps rest m all → Behind_attributes component void ps
    → ArePrintable component all × Behind_attributes component void rest
attributes_print around component void n m _ rest _ (spelled.none _ _) here = (printable.none, here)
attributes_print around component void n m _ rest _ (spelled.more _ i _ space ps us _ a others is h hs) here =
    let one = of_tag around component void n i ps us a h (behind_space_is component void space ps is here) in
    let more = attributes_print around component void i m us rest others hs one.behind_it in
    (printable.another a others one.named_so one.kind more.0, more.1)
