-- What attributes spell is read.
use Rattle.std.proofs.Common.{◌≡◌, ◌≢◌, ℕ, zero, suc, ◌+◌, ◌<◌, ◌≤◌, List, [], ◌∷◌, ◌++◌, length, refl, sym, ap, ◌∙◌, subst, arith, append_assoc, length-append}
use Rattle.std.specs.Prelude.{Bool, true, false, not, ◌&&◌, ◌==◌, codes, if◌then◌else◌, map, Option, Some, None}
use Rattle.std.proofs.lemmas.Bool.{false≢true}
use Rattle.std.specs.Str.{bytes_eq}
use Rattle.text_core.specs.declared.place.Place.{Place}
use Rattle.cs_ast.specs.declared.expression.Expr.{Expr}
use Rattle.cs_token.specs.declared.token.Token.{Token}
use Rattle.cs_token.specs.declared.token.TokenKind.TheVariants as t
use Rattle.cs_token.specs.Places.{first_place}
use Rattle.cs_token.specs.Reading.Runs.{strip}
use Rattle.cs_token.proofs.RunLemmas.{strip-again}
use Rattle.razor_token.specs.declared.piece.Piece.{Piece}
use Rattle.razor_token.specs.declared.piece.PieceKind.{PieceKind}
use Rattle.razor_token.specs.declared.piece.PieceKind.TheVariants as k
use Rattle.razor_ast.specs.declared.attribute.Attribute.{Attribute}
use Rattle.razor_ast.specs.declared.attribute.AttributeKind.{AttributeKind}
use Rattle.razor_ast.specs.declared.attribute.AttributeKind.TheVariants as ak
use Rattle.razor_ast.specs.declared.attribute.Given.{Given}
use Rattle.razor_ast.specs.declared.attribute.Given.TheVariants as given
use Rattle.razor_ast.specs.declared.attribute.ValuePart.{ValuePart}
use Rattle.razor_ast.specs.AttributeNames.{begins_at, are_lower, IsEvent}
use Rattle.razor_ast.specs.AttributeNames as name
use Rattle.razor_ast.specs.Attributes.{attribute, BeginsValue, OfElement, OfComponent, KeyOf, OfTag, SomeAttributes, AttributesOf, TextValue, Led}
use Rattle.razor_ast.specs.Attributes as g
use Rattle.razor_ast.specs.Literals.{literal_of, with_literal, literal_run, place_of}
use Rattle.razor_ast.specs.Nesting.{open_at, open_before}
use Rattle.razor_ast.specs.Pieces.{IsKind, code, codes_of}
use Rattle.razor_ast.specs.TextValues.{token_from, IsExpressionOf, IsNameText, SpellsExpression}
use Rattle.razor_reader.specs.declared.mark.Mark.TheVariants as m
use Rattle.razor_reader.specs.declared.names.NameForm.{NameForm}
use Rattle.razor_reader.specs.declared.names.NameForm.TheVariants as f
use Rattle.razor_reader.specs.Marks.{is_mark, mark_number}
use Rattle.razor_reader.specs.Reading.{Read, Numbered, ◌>>=◌, has, after}
use Rattle.razor_reader.specs.NameReading.{name_form, at_form, plain_form, element_form, is_event, are_some_lower}
use Rattle.razor_reader.specs.TextReading.{text_expression, spelled_tokens, is_name_text, is_one_name, is_name_of}
use Rattle.razor_reader.specs.AttributeReading as r
use Rattle.razor_reader.proofs.ReadLemmas.{same_text, other_text}
use Rattle.razor_reader.proofs.TextSound.{text_sound, its_expression, tokens_complete}
use Rattle.razor_reader.proofs.ValueComplete.{FlatPieces, Shorter, behind_literal, behind_shown, run_behind, led_has_at, flat_behind, flat_rest, after_is, after_not, bind_is, at_is, value_no_at, literal_no_at, parts_complete, led_first_complete, event_value_complete, key_value_complete, name_value_complete, text_value_complete}

-- the forms of names

same_is : (text : List ℕ) → bytes_eq text text ≡ true
same_is text = go (bytes_eq text text) refl
  where
    go : (b : Bool) → bytes_eq text text ≡ b → b ≡ true
    go true i = refl
    go false i = absurd (other_text text text i refl)

other_is : (text word : List ℕ) → text ≢ word → bytes_eq text word ≡ false
other_is text word other = go (bytes_eq text word) refl
  where
    go : (b : Bool) → bytes_eq text word ≡ b → b ≡ false
    go true i = absurd (other (same_text text word i))
    go false i = refl

plain_name : (x : List ℕ) → begins_at x ≡ false → name_form false x ≡ f.Plain
plain_name x b = ap (λ (c : Bool). if c then at_form false x x else plain_form false x) b

parameter_name : (x : List ℕ) → begins_at x ≡ false → x ≢ codes "Context" → name_form true x ≡ f.Parameter
parameter_name x b other =
    ap (λ (c : Bool). if c then at_form true x x else plain_form true x) b ∙ ap (λ (c : Bool). if c then f.Context else f.Parameter) (other_is x (codes "Context") other)

context_name : name_form true (codes "Context") ≡ f.Context
context_name = refl

key_name : (component : Bool) → name_form component (codes "@key") ≡ f.Key
key_name component = refl

bind_name : name_form false (codes "@bind") ≡ f.Bind
bind_name = refl

bind_event_name : name_form false (codes "@bind:event") ≡ f.BindEvent
bind_event_name = refl

some_lower_is : (rest : List ℕ) → 0 < length rest → are_lower rest ≡ true → are_some_lower rest ≡ true
some_lower_is [] some lower = absurd (omega arith)
some_lower_is (c ∷ rest) some lower = lower

event_is : (rest : List ℕ) → 0 < length rest → are_lower rest ≡ true → is_event (codes "@on" ++ rest) ≡ true
event_is rest some lower = ap (λ o. elim o [ Some rest ↦ are_some_lower rest | None ↦ false ]) (strip-again (codes "@on") rest) ∙ some_lower_is rest some lower

event_name : (x : List ℕ) → IsEvent x → name_form false x ≡ f.Event
event_name _ (name.event rest some lower) = ap (λ (b : Bool). if b then f.Event else f.Nothing) (event_is rest some lower)

-- a value begins, or none

start_is : (v : Piece) → BeginsValue v → is_mark m.ValueStart v.kind ≡ true
unfolding mark_number
start_is v b = ap (is_mark m.ValueStart) b.1

start_there : (v : Piece) (ps : List Piece) → BeginsValue v → after m.ValueStart (v ∷ ps) ≡ Some ps
start_there v ps b = ap (λ (c : Bool). if c then Some ps else None) (start_is v b)

no_start : (ps : List Piece) → has m.ValueStart ps ≡ false → after m.ValueStart ps ≡ None
no_start [] b = refl
no_start (p ∷ ps) b = ap (λ (c : Bool). if c then Some ps else None) b

-- what an attribute means

abbrev named_by : Piece → List ℕ → AttributeKind × ℕ × List Piece → Numbered Attribute
named_by p x w = Some (attribute p x w.0, w.1, w.2)

abbrev by_kind : List Piece → Bool → ℕ → Piece → List Piece → PieceKind → Numbered Attribute
by_kind all component n p ps kind = r.attribute_from all component n kind p ps

attribute_is : (all : List Piece) (component : Bool) (n : ℕ) (p : Piece) (x : List ℕ) (ps rest : List Piece) (form : NameForm) (kind : AttributeKind) (n2 : ℕ) → IsKind (k.AttributeName x) p
    → name_form component x ≡ form → r.meaning all form n ps ≡ Some (kind, n2, rest) → r.attribute_first all component n (p ∷ ps) ≡ Some (attribute p x kind, n2, rest)
attribute_is all component n p x ps rest form kind n2 i j e =
    ap (by_kind all component n p ps) i
    ∙ ap (λ (o : Numbered AttributeKind). o >>= named_by p x) (ap (λ (form : NameForm). r.meaning all form n ps) j ∙ e)

-- a value behind the piece that begins it

begun : {B : Type 0} (v : Piece) (ps : List Piece) (next : List Piece → Option B) → BeginsValue v → (after m.ValueStart (v ∷ ps) >>= next) ≡ next ps
begun v ps next b = bind_is (after m.ValueStart (v ∷ ps)) ps next (start_there v ps b)

abbrev mixed_step : ℕ → List Piece → Option (List Piece) → Numbered AttributeKind
mixed_step n ps o = elim o [ None ↦ Some (ak.Mixed n [], n + 1, ps) | Some inner ↦ r.parts_first inner >>= λ x. Some (ak.Mixed n x.0, n + 1, x.1) ]

element_complete : (all : List Piece) (n : ℕ) (ps rest : List Piece) (n2 : ℕ) (a : Attribute) → FlatPieces ps → has m.ValueStart rest ≡ false → OfElement n ps rest n2 a
    → r.attribute_first all false n ps ≡ Some (a, n2, rest)
element_complete all _ _ _ _ _ flat clear (g.no_value n x p rest i b) =
    attribute_is all false n p x rest rest f.Plain (ak.Mixed n []) (n + 1) i (plain_name x b) (ap (mixed_step n rest) (no_start rest clear))
element_complete all _ _ _ _ _ flat clear (g.mixed n x p v ps rest parts i b s h) =
    attribute_is all false n p x (v ∷ ps) rest f.Plain (ak.Mixed n parts) (n + 1) i (plain_name x b)
    (ap (mixed_step n (v ∷ ps)) (start_there v ps s)
    ∙ bind_is (r.parts_first ps) (parts, rest) (λ w. Some (ak.Mixed n w.0, n + 1, w.1)) (parts_complete ps rest parts (flat_rest v ps (flat_rest p (v ∷ ps) flat)) h))
element_complete all _ _ _ _ _ flat clear (g.event n x p v ps rest a i e s h) =
    attribute_is all false n p x (v ∷ ps) rest f.Event (ak.Event n a) (n + 1) i (event_name x e)
    (begun v ps (λ inner. (r.event_value inner >>= λ w. Some (ak.Event n w.0, n + 1, w.1))) s
    ∙ bind_is (r.event_value ps) (a, rest) (λ w. Some (ak.Event n w.0, n + 1, w.1)) (event_value_complete ps rest a (flat_rest v ps (flat_rest p (v ∷ ps) flat)) h))
element_complete all _ _ _ _ _ flat clear (g.bind n x p v end u rest i s j h) =
    let two : n + 1 + 1 ≡ n + 2 = omega arith in
    subst (λ (n2 : ℕ). r.attribute_first all false n (p ∷ v ∷ code u ∷ end ∷ rest) ≡ Some (attribute p (codes "@bind") (ak.Bind n (record { place = u.place; name = x })), n2, rest)) two
    (attribute_is all false n p (codes "@bind") (v ∷ code u ∷ end ∷ rest) rest f.Bind (ak.Bind n (record { place = u.place; name = x })) (n + 1 + 1) i bind_name
    (begun v (code u ∷ end ∷ rest) (λ inner. (r.name_value inner >>= λ w. Some (ak.Bind n w.0, n + 1 + 1, w.1))) s
    ∙ bind_is (r.name_value (code u ∷ end ∷ rest)) (record { place = u.place; name = x }, rest) (λ w. Some (ak.Bind n w.0, n + 1 + 1, w.1)) (name_value_complete x u end rest j h)))
element_complete all _ _ _ _ _ flat clear (g.bind_event n p v ps rest i s h) =
    attribute_is all false n p (codes "@bind:event") (v ∷ ps) rest f.BindEvent ak.BindEvent n i bind_event_name
    (begun v ps (λ inner. (r.text_value inner >>= λ w. if bytes_eq w.0 (codes "oninput") then Some (ak.BindEvent, n, w.1) else None)) s
    ∙ bind_is (r.text_value ps) (codes "oninput", rest) (λ w. if bytes_eq w.0 (codes "oninput") then Some (ak.BindEvent, n, w.1) else None) (text_value_complete ps rest (codes "oninput") h)
    ∙ ap (λ (b : Bool). if b then Some (ak.BindEvent, n, rest) else None) (same_is (codes "oninput")))

-- the expression of a text, and a name

expression_is : (around : List ℕ) (begin : Place) (text : List ℕ) (a : Option Expr) → IsExpressionOf around begin text a → text_expression around begin text ≡ a
expression_is around begin text (Some a) h = its_expression around begin text a h
expression_is around begin text None none = go (text_expression around begin text) (text_sound around begin text)
  where
    go : (o : Option Expr) → IsExpressionOf around begin text o → o ≡ None
    go None h = refl
    go (Some b) h = absurd (none b h)

name_text_complete : (text : List ℕ) → IsNameText text → is_name_text text ≡ true
name_text_complete text h =
    ap (λ (o : Option (List Token)). elim (o >>= λ ts. Some (map (token_from first_place) ts)) [ Some ts ↦ is_one_name text ts | None ↦ false ]) (tokens_complete text (h.0 ∷ []) h.1)
    ∙ ap (is_name_of text) h.2 ∙ same_is text

abbrev kind_of_first : List Piece → PieceKind
kind_of_first [] = k.Gap
kind_of_first (p ∷ ps) = p.kind

text_has_no_at : (ps rest : List Piece) (text : List ℕ) → TextValue ps rest text → has m.At ps ≡ false
unfolding mark_number
text_has_no_at [] _ _ (g.text end _ rest text e i) = refl
text_has_no_at (p ∷ ps) _ _ (g.text end _ rest text e i) = go p.kind refl e
  where
    go : (kind : PieceKind) → p.kind ≡ kind → with_literal (literal_of kind) p ps (literal_run ps) ≡ (text, end ∷ rest) → is_mark m.At p.kind ≡ false
    go (k.Literal x) j e = ap (is_mark m.At) j
    go _ j e = ap (is_mark m.At) (ap (λ (run : List ℕ × List Piece). kind_of_first run.1) e ∙ i) ∙ value_no_at

abbrev given_step : List Piece → ℕ → List Piece → Bool → Read Given
given_step all start ps b = if b then (r.led_first ps >>= λ x. Some (given.Value x.0, x.1)) else r.text all start ps

no_given : (all : List Piece) (ps : List Piece) → has m.ValueStart ps ≡ false → r.given_first all ps ≡ Some (given.Nothing, ps)
unfolding mark_number
no_given all [] b = refl
no_given all (v ∷ ps) b = go v.kind b
  where
    go : (kind : PieceKind) → is_mark m.ValueStart kind ≡ false → r.given_from all kind v ps ≡ Some (given.Nothing, v ∷ ps)
    go (k.ValueStart quote) b = absurd (false≢true (sym b))
    go _ b = refl

-- an attribute of a component

component_complete : (all : List Piece) (n : ℕ) (ps rest : List Piece) (n2 : ℕ) (a : Attribute) → FlatPieces ps → has m.ValueStart rest ≡ false → OfComponent (open_at all) n ps rest n2 a
    → r.attribute_first all true n ps ≡ Some (a, n2, rest)
unfolding open_at
component_complete all _ _ _ _ _ flat clear (g.no_value n x p rest i b other) =
    attribute_is all true n p x rest rest f.Parameter (ak.Parameter n given.Nothing) (n + 1) i (parameter_name x b other)
    (bind_is (r.given_first all rest) (given.Nothing, rest) (λ w. Some (ak.Parameter n w.0, n + 1, w.1)) (no_given all rest clear))
component_complete all _ _ _ _ _ flat clear (g.text n x said p v ps rest a i b other s h e) =
    let read : r.given_first all (v ∷ ps) ≡ Some (given.Text (place_of ps) said a, rest) =
    ap (λ (kind : PieceKind). r.given_from all kind v ps) s.1
    ∙ ap (given_step all v.start ps) (text_has_no_at ps rest said h)
    ∙ bind_is (r.text_value ps) (said, rest) (λ w. Some (given.Text (place_of ps) w.0 (text_expression (open_before v.start [] all) (place_of ps) w.0), w.1)) (text_value_complete ps rest said h)
    ∙ ap (λ (o : Option Expr). Some (given.Text (place_of ps) said o, rest)) (expression_is (open_before v.start [] all) (place_of ps) said a e) in
    attribute_is all true n p x (v ∷ ps) rest f.Parameter (ak.Parameter n (given.Text (place_of ps) said a)) (n + 1) i (parameter_name x b other)
    (bind_is (r.given_first all (v ∷ ps)) (given.Text (place_of ps) said a, rest) (λ w. Some (ak.Parameter n w.0, n + 1, w.1)) read)
component_complete all _ _ _ _ _ flat clear (g.value n x p v ps rest a i b other s h) =
    let read : r.given_first all (v ∷ ps) ≡ Some (given.Value a, rest) =
    ap (λ (kind : PieceKind). r.given_from all kind v ps) s.1
    ∙ ap (given_step all v.start ps) (led_has_at ps rest a h)
    ∙ bind_is (r.led_first ps) (a, rest) (λ w. Some (given.Value w.0, w.1)) (led_first_complete ps rest a (flat_rest v ps (flat_rest p (v ∷ ps) flat)) h) in
    attribute_is all true n p x (v ∷ ps) rest f.Parameter (ak.Parameter n (given.Value a)) (n + 1) i (parameter_name x b other)
    (bind_is (r.given_first all (v ∷ ps)) (given.Value a, rest) (λ w. Some (ak.Parameter n w.0, n + 1, w.1)) read)
component_complete all _ _ _ _ _ flat clear (g.context n x p v ps rest i s h e) =
    attribute_is all true n p (codes "Context") (v ∷ ps) rest f.Context (ak.Context n (record { place = place_of ps; name = x })) (n + 1) i context_name
    (begun v ps (λ inner. (r.text_value inner >>= λ w. if is_name_text w.0 then Some (ak.Context n (record { place = place_of inner; name = w.0 }), n + 1, w.1) else None)) s
    ∙ bind_is (r.text_value ps) (x, rest) (λ w. if is_name_text w.0 then Some (ak.Context n (record { place = place_of ps; name = w.0 }), n + 1, w.1) else None) (text_value_complete ps rest x h)
    ∙ ap (λ (b : Bool). if b then Some (ak.Context n (record { place = place_of ps; name = x }), n + 1, rest) else None) (name_text_complete x e))

key_complete : (all : List Piece) (component : Bool) (n : ℕ) (ps rest : List Piece) (a : Attribute) → FlatPieces ps → KeyOf ps rest a → r.attribute_first all component n ps ≡ Some (a, n, rest)
key_complete all component n _ _ _ flat (g.key p v end ts rest a i s h j) =
    let inner : List Piece = codes_of ts ++ end ∷ rest in
    attribute_is all component n p (codes "@key") (v ∷ inner) rest f.Key (ak.Key a) n i (key_name component)
    (begun v inner (λ inner. (r.key_value inner >>= λ w. Some (ak.Key w.0, n, w.1))) s
    ∙ bind_is (r.key_value inner) (a, rest) (λ w. Some (ak.Key w.0, n, w.1)) (key_value_complete ts end rest a (flat_rest v inner (flat_rest p (v ∷ inner) flat)) h j))

tag_complete : (all : List Piece) (component : Bool) (n : ℕ) (ps rest : List Piece) (n2 : ℕ) (a : Attribute) → FlatPieces ps → has m.ValueStart rest ≡ false → OfTag (open_at all) component n ps rest n2 a
    → r.attribute_first all component n ps ≡ Some (a, n2, rest)
tag_complete all _ _ _ _ _ _ flat clear (g.of_element n n2 ps rest a h) = element_complete all n ps rest n2 a flat clear h
tag_complete all _ _ _ _ _ _ flat clear (g.of_component n n2 ps rest a h) = component_complete all n ps rest n2 a flat clear h
tag_complete all _ _ _ _ _ _ flat clear (g.key component n ps rest a h) = key_complete all component n ps rest a flat h

-- the pieces behind an attribute

pub one_more : (p : Piece) (ps us : List Piece) → Shorter ps us → Shorter (p ∷ ps) us
one_more p ps us s = let less = s.less in record { pre = p ∷ s.pre; whole = ap (λ l. p ∷ l) s.whole; less = omega arith }

behind_codes : (ts : List Token) (end : Piece) (rest : List Piece) → Shorter (codes_of ts ++ end ∷ rest) rest
behind_codes [] end rest = record { pre = end ∷ []; whole = refl; less = omega arith }
behind_codes (u ∷ ts) end rest = one_more (code u) (codes_of ts ++ end ∷ rest) rest (behind_codes ts end rest)

both : (ps us vs : List Piece) → Shorter ps us → Shorter us vs → Shorter ps vs
both ps us vs s z =
    let a = s.less in
    let b = z.less in
    record { pre = s.pre ++ z.pre; whole = s.whole ∙ ap (λ l. s.pre ++ l) z.whole ∙ sym (append_assoc s.pre z.pre vs); less = omega arith }

behind_parts : (ps rest : List Piece) (parts : List ValuePart) → g.Parts ps rest parts → Shorter ps rest
behind_parts _ _ _ (g.no_part end rest i) = behind_codes [] end rest
behind_parts _ _ _ (g.literal x text p ps us rest parts i e h) = both (p ∷ ps) us rest (behind_literal x text p ps us i e) (behind_parts us rest parts h)
behind_parts ps _ _ (g.shown _ us rest a parts h more) = both ps us rest (behind_shown ps us a h) (behind_parts us rest parts more)

behind_led : (ps rest : List Piece) (a : Expr) → Led ps rest a → Shorter ps rest
behind_led _ _ _ (g.quoted at end ts rest a i h j) = one_more at (codes_of ts ++ end ∷ rest) rest (behind_codes ts end rest)
behind_led _ _ _ (g.bare at x end ts rest a i h j l) =
    one_more at (codes_of ts ++ x ∷ end ∷ rest) rest (both (codes_of ts ++ x ∷ end ∷ rest) (end ∷ rest) rest (behind_codes ts x (end ∷ rest)) (behind_codes [] end rest))

behind_event : (ps rest : List Piece) (a : Expr) → g.EventValue ps rest a → Shorter ps rest
behind_event _ _ _ (g.led ps rest a h) = behind_led ps rest a h
behind_event _ _ _ (g.plain end ts rest a h i) = behind_codes ts end rest

behind_text : (ps rest : List Piece) (text : List ℕ) → TextValue ps rest text → Shorter ps rest
behind_text _ _ _ (g.text end ps rest text e i) =
    let b = run_behind ps in
    let whole : ps ≡ b.0 ++ end ∷ rest = b.1 ∙ ap (λ (run : List ℕ × List Piece). b.0 ++ run.1) e in
    let long = ap length whole ∙ length-append b.0 (end ∷ rest) in
    record { pre = b.0 ++ end ∷ []; whole = whole ∙ sym (append_assoc b.0 (end ∷ []) rest); less = omega arith }

pub behind_attribute : (around : Piece → List ℕ) (component : Bool) (n : ℕ) (ps rest : List Piece) (n2 : ℕ) (a : Attribute) → OfTag around component n ps rest n2 a → Shorter ps rest
behind_attribute around _ _ _ _ _ _ (g.of_element _ _ _ _ _ (g.no_value n x p rest i b)) = behind_codes [] p rest
behind_attribute around _ _ _ _ _ _ (g.of_element _ _ _ _ _ (g.mixed n x p v ps rest parts i b s h)) = one_more p (v ∷ ps) rest (one_more v ps rest (behind_parts ps rest parts h))
behind_attribute around _ _ _ _ _ _ (g.of_element _ _ _ _ _ (g.event n x p v ps rest a i e s h)) = one_more p (v ∷ ps) rest (one_more v ps rest (behind_event ps rest a h))
behind_attribute around _ _ _ _ _ _ (g.of_element _ _ _ _ _ (g.bind n x p v end u rest i s j h)) =
    one_more p (v ∷ code u ∷ end ∷ rest) rest (one_more v (code u ∷ end ∷ rest) rest (behind_codes (u ∷ []) end rest))
behind_attribute around _ _ _ _ _ _ (g.of_element _ _ _ _ _ (g.bind_event n p v ps rest i s h)) = one_more p (v ∷ ps) rest (one_more v ps rest (behind_text ps rest (codes "oninput") h))
behind_attribute around _ _ _ _ _ _ (g.of_component _ _ _ _ _ (g.no_value n x p rest i b other)) = behind_codes [] p rest
behind_attribute around _ _ _ _ _ _ (g.of_component _ _ _ _ _ (g.text n x said p v ps rest a i b other s h e)) = one_more p (v ∷ ps) rest (one_more v ps rest (behind_text ps rest said h))
behind_attribute around _ _ _ _ _ _ (g.of_component _ _ _ _ _ (g.value n x p v ps rest a i b other s h)) = one_more p (v ∷ ps) rest (one_more v ps rest (behind_led ps rest a h))
behind_attribute around _ _ _ _ _ _ (g.of_component _ _ _ _ _ (g.context n x p v ps rest i s h e)) = one_more p (v ∷ ps) rest (one_more v ps rest (behind_text ps rest x h))
behind_attribute around _ _ _ _ _ _ (g.key component n _ _ _ (g.key p v end ts rest a i s h j)) =
    one_more p (v ∷ (codes_of ts ++ end ∷ rest)) rest (one_more v (codes_of ts ++ end ∷ rest) rest (behind_codes ts end rest))

-- an attribute begins with its name

named_first : (x : List ℕ) (p : Piece) (ps : List Piece) → IsKind (k.AttributeName x) p → r.if_attribute (p ∷ ps) ≡ Some (p ∷ ps)
named_first x p ps i = ap (λ (kind : PieceKind). if r.is_attribute kind then Some (p ∷ ps) else None) i

attribute_begins : (around : Piece → List ℕ) (component : Bool) (n : ℕ) (ps rest : List Piece) (n2 : ℕ) (a : Attribute) → OfTag around component n ps rest n2 a → r.if_attribute ps ≡ Some ps
attribute_begins around _ _ _ _ _ _ (g.of_element _ _ _ _ _ (g.no_value n x p rest i b)) = named_first x p rest i
attribute_begins around _ _ _ _ _ _ (g.of_element _ _ _ _ _ (g.mixed n x p v ps rest parts i b s h)) = named_first x p (v ∷ ps) i
attribute_begins around _ _ _ _ _ _ (g.of_element _ _ _ _ _ (g.event n x p v ps rest a i e s h)) = named_first x p (v ∷ ps) i
attribute_begins around _ _ _ _ _ _ (g.of_element _ _ _ _ _ (g.bind n x p v end u rest i s j h)) = named_first (codes "@bind") p (v ∷ code u ∷ end ∷ rest) i
attribute_begins around _ _ _ _ _ _ (g.of_element _ _ _ _ _ (g.bind_event n p v ps rest i s h)) = named_first (codes "@bind:event") p (v ∷ ps) i
attribute_begins around _ _ _ _ _ _ (g.of_component _ _ _ _ _ (g.no_value n x p rest i b other)) = named_first x p rest i
attribute_begins around _ _ _ _ _ _ (g.of_component _ _ _ _ _ (g.text n x said p v ps rest a i b other s h e)) = named_first x p (v ∷ ps) i
attribute_begins around _ _ _ _ _ _ (g.of_component _ _ _ _ _ (g.value n x p v ps rest a i b other s h)) = named_first x p (v ∷ ps) i
attribute_begins around _ _ _ _ _ _ (g.of_component _ _ _ _ _ (g.context n x p v ps rest i s h e)) = named_first (codes "Context") p (v ∷ ps) i
attribute_begins around _ _ _ _ _ _ (g.key component n _ _ _ (g.key p v end ts rest a i s h j)) = named_first (codes "@key") p (v ∷ (codes_of ts ++ end ∷ rest)) i

-- attributes one behind another

space_is : is_mark m.Space k.Space ≡ true
unfolding mark_number
space_is = refl

space_no_start : is_mark m.ValueStart k.Space ≡ false
unfolding mark_number
space_no_start = refl

some_clear : (around : Piece → List ℕ) (component : Bool) (n : ℕ) (ps rest : List Piece) (n2 : ℕ) (found : List Attribute) → SomeAttributes around component n ps rest n2 found
    → has m.ValueStart rest ≡ false → has m.ValueStart ps ≡ false
some_clear around component _ _ _ _ _ (g.none n rest) clear = clear
some_clear around component _ _ _ _ _ (g.more n i n2 space ps us rest a others s h next) clear = ap (is_mark m.ValueStart) s ∙ space_no_start

abbrev then_more : List Piece → Bool → ℕ → Attribute × ℕ × List Piece → Numbered (List Attribute)
then_more all component left x = r.attributes_in all component left x.1 x.2 >>= λ y. Some (x.0 ∷ y.0, y.1, y.2)

abbrev attributes_step : List Piece → Bool → ℕ → ℕ → List Piece → Option (List Piece) → Numbered (List Attribute)
attributes_step all component left n ps o = elim o [ None ↦ Some ([], n, ps) | Some name ↦ r.attribute_first all component n name >>= then_more all component left ]

attributes_in_complete : (all : List Piece) (component : Bool) (left n : ℕ) (ps rest : List Piece) (n2 : ℕ) (found : List Attribute) → length ps < left → FlatPieces ps
    → has m.ValueStart rest ≡ false → r.to_attribute rest ≡ None → SomeAttributes (open_at all) component n ps rest n2 found → r.attributes_in all component left n ps ≡ Some (found, n2, rest)
unfolding r.attributes_in
attributes_in_complete all component zero _ _ _ _ _ short flat clear stops h = absurd (omega arith)
attributes_in_complete all component (suc left) _ _ _ _ _ short flat clear stops (g.none n rest) = ap (attributes_step all component left n rest) stops
attributes_in_complete all component (suc left) _ _ _ _ _ short flat clear stops (g.more n i n2 space ps us rest a others s h next) =
    let b = behind_attribute (open_at all) component n ps us i a h in
    let less = b.less in
    let there : r.to_attribute (space ∷ ps) ≡ Some ps =
    bind_is (after m.Space (space ∷ ps)) ps r.if_attribute (after_is m.Space k.Space space ps space_is s) ∙ attribute_begins (open_at all) component n ps us i a h in
    let flat_ps = flat_rest space ps flat in
    let first = tag_complete all component n ps us i a flat_ps (some_clear (open_at all) component i us rest n2 others next clear) h in
    let read = attributes_in_complete all component left i us rest n2 others (omega arith) (flat_behind b.pre us (subst FlatPieces b.whole flat_ps)) clear stops next in
    ap (attributes_step all component left n (space ∷ ps)) there
    ∙ bind_is (r.attribute_first all component n ps) (a, i, us) (then_more all component left) first
    ∙ bind_is (r.attributes_in all component left i us) (others, n2, rest) (λ y. Some (a ∷ y.0, y.1, y.2)) read

-- The attributes of a tag are read, where neither a value nor one more attribute follows.
pub attributes_complete : (all : List Piece) (component : Bool) (n : ℕ) (ps rest : List Piece) (n2 : ℕ) (found : List Attribute) → FlatPieces ps
    → has m.ValueStart rest ≡ false → r.to_attribute rest ≡ None → AttributesOf (open_at all) component n ps rest n2 found → r.attributes_first all component n ps ≡ Some (found, n2, rest)
unfolding r.some_attributes
attributes_complete all component n ps rest n2 found flat clear stops h =
    bind_is (r.some_attributes all component n ps) (found, n2, rest) (λ x. if g.is_bound x.0 then Some (x.0, x.1, x.2) else None)
    (attributes_in_complete all component (length ps + 1) n ps rest n2 found (omega arith) flat clear stops h.spelled)
    ∙ ap (λ (b : Bool). if b then Some (found, n2, rest) else None) h.bound
