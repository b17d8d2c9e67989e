-- What is read as attributes is spelled so.
use Rattle.std.proofs.Common.{◌≡◌, ◌⊎◌, ℕ, zero, suc, ◌+◌, List, [], ◌∷◌, ◌++◌, length, refl, sym, ap, ◌∙◌, subst, inl, inr, arith}
use Rattle.std.specs.Prelude.{Bool, true, false, codes, if◌then◌else◌, Option, Some, None}
use Rattle.std.specs.Str.{bytes_eq}
use Rattle.cs_ast.specs.declared.expression.Expr.{Expr}
use Rattle.cs_ast.specs.declared.identifier.Ident.{Ident}
use Rattle.cs_token.specs.declared.token.TokenKind.TheVariants as t
use Rattle.cs_grammar.specs.Tokens.{ident}
use Rattle.razor_token.specs.declared.piece.Piece.{Piece}
use Rattle.razor_token.specs.declared.piece.PieceKind.{PieceKind}
use Rattle.razor_token.specs.declared.piece.PieceKind.TheVariants as k
use Rattle.razor_token.specs.declared.piece.Quote.{Quote}
use Rattle.razor_ast.specs.declared.attribute.Attribute.{Attribute}
use Rattle.razor_ast.specs.declared.attribute.AttributeKind.{AttributeKind}
use Rattle.razor_ast.specs.declared.attribute.AttributeKind.TheVariants as ak
use Rattle.razor_ast.specs.declared.attribute.Given.{Given}
use Rattle.razor_ast.specs.declared.attribute.Given.TheVariants as given
use Rattle.razor_ast.specs.Attributes.{attribute, BeginsValue, OfElement, OfComponent, OfTag, KeyOf, SomeAttributes, AttributesOf}
use Rattle.razor_ast.specs.Attributes as g
use Rattle.razor_ast.specs.AttributeNames.{begins_at, IsEvent}
use Rattle.razor_ast.specs.Literals.{place_of}
use Rattle.razor_ast.specs.Nesting.{open_at, open_before}
use Rattle.razor_ast.specs.Pieces.{IsKind, codes_of}
use Rattle.razor_reader.specs.declared.mark.Mark.TheVariants as mark
use Rattle.razor_reader.specs.declared.names.NameForm.{NameForm}
use Rattle.razor_reader.specs.declared.names.NameForm.TheVariants as f
use Rattle.razor_reader.specs.Marks.{mark_of, mark_number, is_mark, sign_mark, word_mark, token_mark}
use Rattle.razor_reader.specs.Reading.{Read, Numbered, ◌>>=◌, has, after}
use Rattle.razor_reader.specs.NameReading.{name_form}
use Rattle.razor_reader.specs.TextReading.{text_expression, is_name_text}
use Rattle.razor_reader.specs.AttributeReading as r
use Rattle.razor_reader.proofs.MarkKinds.{of_space}
use Rattle.razor_reader.proofs.MarkLemmas.{taken, value_start}
use Rattle.razor_reader.proofs.NameSound.{FormOf, form_of}
use Rattle.razor_reader.proofs.NameSound as name
use Rattle.razor_reader.proofs.ReadLemmas.{bind_ok, moved, where_true, by_test, same_text}
use Rattle.razor_reader.proofs.TextSound.{text_sound, name_text_sound}
use Rattle.razor_reader.proofs.ValueSound.{Plain, Named, parts_sound, led_first_sound, event_value_sound, key_value_sound, name_value_sound, text_value_sound}

-- the piece that begins a value
record Begun (ps inner : List Piece) : Type 0 where
  v : Piece
  whole : ps ≡ v ∷ inner
  begins : BeginsValue v

begun : (ps inner : List Piece) → after mark.ValueStart ps ≡ Some inner → Begun ps inner
begun [] inner e = absurd (cc)
begun (v ∷ ps) inner e =
    let x = where_true (is_mark mark.ValueStart v.kind) (Some ps) inner e in
    record { v = v; whole = cc; begins = value_start v x.0 }

-- an attribute of this kind behind its name
Means : List Piece → Bool → ℕ → Piece → List ℕ → List Piece → AttributeKind → ℕ → List Piece → Type 0
Means all component n p x ps kind m rest = OfTag (open_at all) component n (p ∷ ps) rest m (attribute p x kind)

module _ (all : List Piece) (n : ℕ) (p : Piece) (x : List ℕ) (named : IsKind (k.AttributeName x) p) where
  mixed_sound : (ps rest : List Piece) (kind : AttributeKind) (m : ℕ) → begins_at x ≡ false → r.mixed n ps ≡ Some (kind, m, rest) → Means all false n p x ps kind m rest
  unfolding Means
  mixed_sound ps rest kind m b e = go (after mark.ValueStart ps) refl e
    where
      go : (o : Option (List Piece)) → after mark.ValueStart ps ≡ o →
          ◌≡◌ {A = Numbered AttributeKind} (elim o [ None ↦ Some (ak.Mixed n [], n + 1, ps) | Some inner ↦ r.parts_first inner >>= λ z. Some (ak.Mixed n z.0, n + 1, z.1) ]) (Some (kind, m, rest)) →
          OfTag (open_at all) false n (p ∷ ps) rest m (attribute p x kind)
      go None i e = moved {A = AttributeKind × ℕ × List Piece} (λ w. OfTag (open_at all) false n (p ∷ ps) w.2 w.1 (attribute p x w.0)) e
          (g.of_element n (n + 1) (p ∷ ps) ps (attribute p x (ak.Mixed n [])) (g.no_value n x p ps named b))
      go (Some inner) i e =
          let z = bind_ok (r.parts_first inner) _ _ e in
          let v = begun ps inner i in
          moved {A = AttributeKind × ℕ × List Piece} (λ w. OfTag (open_at all) false n (p ∷ ps) w.2 w.1 (attribute p x w.0)) z.2
          (subst (λ l. OfTag (open_at all) false n (p ∷ l) z.0.1 (n + 1) (attribute p x (ak.Mixed n z.0.0))) (sym v.whole)
          (g.of_element n (n + 1) (p ∷ v.v ∷ inner) z.0.1 (attribute p x (ak.Mixed n z.0.0))
          (g.mixed n x p v.v inner z.0.1 z.0.0 named b v.begins (parts_sound inner z.0.1 z.0.0 z.1))))

  event_sound : (ps rest : List Piece) (kind : AttributeKind) (m : ℕ) → IsEvent x → r.event n ps ≡ Some (kind, m, rest) → Means all false n p x ps kind m rest
  unfolding Means
  event_sound ps rest kind m h e =
      let i = bind_ok (after mark.ValueStart ps) _ _ e in
      let z = bind_ok (r.event_value i.0) _ _ i.2 in
      let v = begun ps i.0 i.1 in
      moved {A = AttributeKind × ℕ × List Piece} (λ w. OfTag (open_at all) false n (p ∷ ps) w.2 w.1 (attribute p x w.0)) z.2
      (subst (λ l. OfTag (open_at all) false n (p ∷ l) z.0.1 (n + 1) (attribute p x (ak.Event n z.0.0))) (sym v.whole)
      (g.of_element n (n + 1) (p ∷ v.v ∷ i.0) z.0.1 (attribute p x (ak.Event n z.0.0))
      (g.event n x p v.v i.0 z.0.1 z.0.0 named h v.begins (event_value_sound i.0 z.0.1 z.0.0 z.1))))

  -- the same by another spelling of the name
  renamed : (ps rest : List Piece) (component : Bool) (kind : AttributeKind) (m : ℕ) (word : List ℕ) → x ≡ word →
      (IsKind (k.AttributeName word) p → Means all component n p word ps kind m rest) → Means all component n p x ps kind m rest
  renamed ps rest component kind m word same h =
      subst (λ (y : List ℕ). Means all component n p y ps kind m rest) (sym same) (h (subst (λ (y : List ℕ). IsKind (k.AttributeName y) p) same named))

  bind_sound : (ps rest : List Piece) (kind : AttributeKind) (m : ℕ) → x ≡ codes "@bind" → r.bind n ps ≡ Some (kind, m, rest) → Means all false n p x ps kind m rest
  unfolding Means
  bind_sound ps rest kind m same e =
      let i = bind_ok (after mark.ValueStart ps) _ _ e in
      let z = bind_ok (r.name_value i.0) _ _ i.2 in
      let v = begun ps i.0 i.1 in
      let q = name_value_sound i.0 z.0.1 z.0.0 z.1 in
      let two : n + 2 ≡ n + 1 + 1 = omega arith in
      renamed ps rest false kind m (codes "@bind") same (λ there.
      moved {A = AttributeKind × ℕ × List Piece} (λ w. OfTag (open_at all) false n (p ∷ ps) w.2 w.1 (attribute p (codes "@bind") w.0)) z.2
      (subst (λ (c : ℕ). OfTag (open_at all) false n (p ∷ ps) z.0.1 c (attribute p (codes "@bind") (ak.Bind n z.0.0))) two
      (subst (λ (j : Ident). OfTag (open_at all) false n (p ∷ ps) z.0.1 (n + 2) (attribute p (codes "@bind") (ak.Bind n j))) (sym q.same)
      (subst (λ (l : List Piece). OfTag (open_at all) false n (p ∷ l) z.0.1 (n + 2) (attribute p (codes "@bind") (ak.Bind n (ident q.n q.x)))) (sym (v.whole ∙ ap (λ l. v.v ∷ l) q.whole))
      (g.of_element n (n + 2) (p ∷ v.v ∷ (codes_of (q.n ∷ []) ++ q.end ∷ z.0.1)) z.0.1 (attribute p (codes "@bind") (ak.Bind n (ident q.n q.x)))
      (g.bind n q.x p v.v q.end q.n z.0.1 there v.begins q.is q.ends))))))

  bind_event_sound : (ps rest : List Piece) (kind : AttributeKind) (m : ℕ) → x ≡ codes "@bind:event" → r.bind_event n ps ≡ Some (kind, m, rest) → Means all false n p x ps kind m rest
  unfolding Means
  bind_event_sound ps rest kind m same e =
      let i = bind_ok (after mark.ValueStart ps) _ _ e in
      let z = bind_ok (r.text_value i.0) _ _ i.2 in
      let d = where_true (bytes_eq z.0.0 (codes "oninput")) (Some (ak.BindEvent, n, z.0.1)) (kind, m, rest) z.2 in
      let v = begun ps i.0 i.1 in
      renamed ps rest false kind m (codes "@bind:event") same (λ there.
      moved {A = AttributeKind × ℕ × List Piece} (λ w. OfTag (open_at all) false n (p ∷ ps) w.2 w.1 (attribute p (codes "@bind:event") w.0)) d.1
      (subst (λ (l : List Piece). OfTag (open_at all) false n (p ∷ l) z.0.1 n (attribute p (codes "@bind:event") ak.BindEvent)) (sym v.whole)
      (g.of_element n n (p ∷ v.v ∷ i.0) z.0.1 (attribute p (codes "@bind:event") ak.BindEvent)
      (g.bind_event n p v.v i.0 z.0.1 there v.begins
      (subst (λ (y : List ℕ). g.TextValue i.0 z.0.1 y) (same_text z.0.0 (codes "oninput") d.0) (text_value_sound i.0 z.0.1 z.0.0 z.1))))))

  key_sound : (component : Bool) (ps rest : List Piece) (kind : AttributeKind) (m : ℕ) → x ≡ codes "@key" → r.key n ps ≡ Some (kind, m, rest) → Means all component n p x ps kind m rest
  unfolding Means
  key_sound component ps rest kind m same e =
      let i = bind_ok (after mark.ValueStart ps) _ _ e in
      let z = bind_ok (r.key_value i.0) _ _ i.2 in
      let v = begun ps i.0 i.1 in
      let q = key_value_sound i.0 z.0.1 z.0.0 z.1 in
      renamed ps rest component kind m (codes "@key") same (λ there.
      moved {A = AttributeKind × ℕ × List Piece} (λ w. OfTag (open_at all) component n (p ∷ ps) w.2 w.1 (attribute p (codes "@key") w.0)) z.2
      (subst (λ (l : List Piece). OfTag (open_at all) component n (p ∷ l) z.0.1 n (attribute p (codes "@key") (ak.Key z.0.0))) (sym (v.whole ∙ ap (λ l. v.v ∷ l) q.whole))
      (g.key component n (p ∷ v.v ∷ (codes_of q.ts ++ q.end ∷ z.0.1)) z.0.1 (attribute p (codes "@key") (ak.Key z.0.0))
      (g.key p v.v q.end q.ts z.0.1 z.0.0 there v.begins q.spelled q.ends))))

  context_sound : (ps rest : List Piece) (kind : AttributeKind) (m : ℕ) → x ≡ codes "Context" → r.context n ps ≡ Some (kind, m, rest) → Means all true n p x ps kind m rest
  unfolding Means
  context_sound ps rest kind m same e =
      let i = bind_ok (after mark.ValueStart ps) _ _ e in
      let z = bind_ok (r.text_value i.0) _ _ i.2 in
      let d = where_true (is_name_text z.0.0) _ (kind, m, rest) z.2 in
      let v = begun ps i.0 i.1 in
      renamed ps rest true kind m (codes "Context") same (λ there.
      moved {A = AttributeKind × ℕ × List Piece} (λ w. OfTag (open_at all) true n (p ∷ ps) w.2 w.1 (attribute p (codes "Context") w.0)) d.1
      (subst (λ (l : List Piece). OfTag (open_at all) true n (p ∷ l) z.0.1 (n + 1) (attribute p (codes "Context") (ak.Context n (record { place = place_of i.0; name = z.0.0 })))) (sym v.whole)
      (g.of_component n (n + 1) (p ∷ v.v ∷ i.0) z.0.1 (attribute p (codes "Context") (ak.Context n (record { place = place_of i.0; name = z.0.0 })))
      (g.context n z.0.0 p v.v i.0 z.0.1 there v.begins (text_value_sound i.0 z.0.1 z.0.0 z.1) (name_text_sound z.0.0 d.0)))))

  -- what is given to a parameter by a value
  given_sound : (v : Piece) (inner rest : List Piece) (a : Given) → begins_at x ≡ false → (x ≡ codes "Context" → ⊥) → BeginsValue v →
      r.given_by all v.start inner ≡ Some (a, rest) → OfComponent (open_at all) n (p ∷ v ∷ inner) rest (n + 1) (attribute p x (ak.Parameter n a))
  unfolding open_at
  given_sound v inner rest a b other begins e = elim (by_test (has mark.At inner) _ _ (a, rest) e) [
    | inl h ↦
        let z = bind_ok (r.led_first inner) _ _ h.1 in
        moved {A = Given × List Piece} (λ w. OfComponent (open_at all) n (p ∷ v ∷ inner) w.1 (n + 1) (attribute p x (ak.Parameter n w.0))) z.2
        (g.value n x p v inner z.0.1 z.0.0 named b other begins (led_first_sound inner z.0.1 z.0.0 z.1))
    | inr h ↦
        let z = bind_ok (r.text_value inner) _ _ h.1 in
        moved {A = Given × List Piece} (λ w. OfComponent (open_at all) n (p ∷ v ∷ inner) w.1 (n + 1) (attribute p x (ak.Parameter n w.0))) z.2
        (g.text n x z.0.0 p v inner z.0.1 (text_expression (open_before v.start [] all) (place_of inner) z.0.0) named b other begins
        (text_value_sound inner z.0.1 z.0.0 z.1) (text_sound (open_before v.start [] all) (place_of inner) z.0.0))
  ]

  given_first_sound : (ps rest : List Piece) (a : Given) → begins_at x ≡ false → (x ≡ codes "Context" → ⊥) → r.given_first all ps ≡ Some (a, rest) →
      OfComponent (open_at all) n (p ∷ ps) rest (n + 1) (attribute p x (ak.Parameter n a))
  given_first_sound [] rest a b other e =
      moved {A = Given × List Piece} (λ w. OfComponent (open_at all) n (p ∷ []) w.1 (n + 1) (attribute p x (ak.Parameter n w.0))) e (g.no_value n x p [] named b other)
  given_first_sound (v ∷ inner) rest a b other e = go v.kind refl e
    where
      go : (of : PieceKind) → v.kind ≡ of → r.given_from all of v inner ≡ Some (a, rest) → OfComponent (open_at all) n (p ∷ v ∷ inner) rest (n + 1) (attribute p x (ak.Parameter n a))
      go (k.ValueStart quote) i e = given_sound v inner rest a b other (quote, i) e
      go _ i e = moved {A = Given × List Piece} (λ w. OfComponent (open_at all) n (p ∷ v ∷ inner) w.1 (n + 1) (attribute p x (ak.Parameter n w.0))) e (g.no_value n x p (v ∷ inner) named b other)

  parameter_sound : (ps rest : List Piece) (kind : AttributeKind) (m : ℕ) → begins_at x ≡ false → (x ≡ codes "Context" → ⊥) → r.parameter all n ps ≡ Some (kind, m, rest) → Means all true n p x ps kind m rest
  unfolding Means
  parameter_sound ps rest kind m b other e =
      let z = bind_ok (r.given_first all ps) _ _ e in
      moved {A = AttributeKind × ℕ × List Piece} (λ w. OfTag (open_at all) true n (p ∷ ps) w.2 w.1 (attribute p x w.0)) z.2
      (g.of_component n (n + 1) (p ∷ ps) z.0.1 (attribute p x (ak.Parameter n z.0.0)) (given_first_sound ps z.0.1 z.0.0 b other z.1))

  meaning_sound : (component : Bool) (form : NameForm) (ps rest : List Piece) (kind : AttributeKind) (m : ℕ) → FormOf component x form →
      r.meaning all form n ps ≡ Some (kind, m, rest) → Means all component n p x ps kind m rest
  meaning_sound component form ps rest kind m (name.is_plain c b) e = subst (λ (d : Bool). Means all d n p x ps kind m rest) (sym c) (mixed_sound ps rest kind m b e)
  meaning_sound component form ps rest kind m (name.is_parameter c b other) e = subst (λ (d : Bool). Means all d n p x ps kind m rest) (sym c) (parameter_sound ps rest kind m b other e)
  meaning_sound component form ps rest kind m (name.is_context c same) e = subst (λ (d : Bool). Means all d n p x ps kind m rest) (sym c) (context_sound ps rest kind m same e)
  meaning_sound component form ps rest kind m (name.is_key same) e = key_sound component ps rest kind m same e
  meaning_sound component form ps rest kind m (name.is_event c h) e = subst (λ (d : Bool). Means all d n p x ps kind m rest) (sym c) (event_sound ps rest kind m h e)
  meaning_sound component form ps rest kind m (name.is_bind c same) e = subst (λ (d : Bool). Means all d n p x ps kind m rest) (sym c) (bind_sound ps rest kind m same e)
  meaning_sound component form ps rest kind m (name.is_bind_event c same) e = subst (λ (d : Bool). Means all d n p x ps kind m rest) (sym c) (bind_event_sound ps rest kind m same e)
  meaning_sound component form ps rest kind m name.is_nothing e = absurd (cc)

pub attribute_sound : (all : List Piece) (component : Bool) (n : ℕ) (ps rest : List Piece) (a : Attribute) (m : ℕ) → r.attribute_first all component n ps ≡ Some (a, m, rest) →
    OfTag (open_at all) component n ps rest m a
unfolding Means
attribute_sound all component n [] rest a m e = absurd (cc)
attribute_sound all component n (p ∷ ps) rest a m e = go p.kind refl e
  where
    go : (of : PieceKind) → p.kind ≡ of → r.attribute_from all component n of p ps ≡ Some (a, m, rest) → OfTag (open_at all) component n (p ∷ ps) rest m a
    go (k.AttributeName x) i e =
        let z = bind_ok (r.meaning all (name_form component x) n ps) _ _ e in
        moved {A = Attribute × ℕ × List Piece} (λ w. OfTag (open_at all) component n (p ∷ ps) w.2 w.1 w.0) z.2
        (meaning_sound all n p x i component (name_form component x) ps z.0.2 z.0.0 z.0.1 (form_of component x) z.1)
    go _ i e = absurd (cc)

attributes_in_sound : (all : List Piece) (component : Bool) (left n : ℕ) (ps rest : List Piece) (found : List Attribute) (m : ℕ) → r.attributes_in all component left n ps ≡ Some (found, m, rest) →
    SomeAttributes (open_at all) component n ps rest m found
unfolding r.attributes_in
attributes_in_sound all component zero n ps rest found m e = absurd (cc)
attributes_in_sound all component (suc left) n ps rest found m e = go (λ i us vs more l e. attributes_in_sound all component left i us vs more l e) (r.to_attribute ps) refl e
  where
    there : (us l : List Piece) → r.if_attribute us ≡ Some l → l ≡ us
    there [] l e = absurd (cc)
    there (q ∷ us) l e = let z = where_true (r.is_attribute q.kind) (Some (q ∷ us)) l e in cc

    go : ((i : ℕ) (us vs : List Piece) (more : List Attribute) (l : ℕ) → r.attributes_in all component left i us ≡ Some (more, l, vs) → SomeAttributes (open_at all) component i us vs l more) →
        (o : Option (List Piece)) → r.to_attribute ps ≡ o →
        ◌≡◌ {A = Numbered (List Attribute)} (elim o [
          | None ↦ Some ([], n, ps)
          | Some name ↦ r.attribute_first all component n name >>= λ x. (r.attributes_in all component left x.1 x.2 >>= λ y. Some (x.0 ∷ y.0, y.1, y.2))
        ]) (Some (found, m, rest)) → SomeAttributes (open_at all) component n ps rest m found
    go more None i e = moved {A = List Attribute × ℕ × List Piece} (λ w. SomeAttributes (open_at all) component n ps w.2 w.1 w.0) e (g.none n ps)
    go more (Some name) i e =
        let s = bind_ok (after mark.Space ps) _ _ i in
        let space = taken mark.Space k.Space ps s.0 of_space s.1 in
        let same = there s.0 name s.2 in
        let x = bind_ok (r.attribute_first all component n name) _ _ e in
        let y = bind_ok (r.attributes_in all component left x.0.1 x.0.2) _ _ x.2 in
        moved {A = List Attribute × ℕ × List Piece} (λ w. SomeAttributes (open_at all) component n ps w.2 w.1 w.0) y.2
        (subst (λ (l : List Piece). SomeAttributes (open_at all) component n l y.0.2 y.0.1 (x.0.0 ∷ y.0.0)) (sym (space.whole ∙ ap (λ l. space.p ∷ l) (sym same)))
        (g.more n x.0.1 y.0.1 space.p name x.0.2 y.0.2 x.0.0 y.0.0 space.is (attribute_sound all component n name x.0.2 x.0.0 x.0.1 x.1)
        (more x.0.1 x.0.2 y.0.2 y.0.0 y.0.1 y.1)))

pub attributes_sound : (all : List Piece) (component : Bool) (n : ℕ) (ps rest : List Piece) (found : List Attribute) (m : ℕ) → r.attributes_first all component n ps ≡ Some (found, m, rest) →
    AttributesOf (open_at all) component n ps rest m found
unfolding r.some_attributes
attributes_sound all component n ps rest found m e =
    let x = bind_ok (r.some_attributes all component n ps) _ _ e in
    let d = where_true (g.is_bound x.0.0) (Some (x.0.0, x.0.1, x.0.2)) (found, m, rest) x.2 in
    moved {A = List Attribute × ℕ × List Piece} (λ w. AttributesOf (open_at all) component n ps w.2 w.1 w.0) d.1
    (record { spelled = attributes_in_sound all component (length ps + 1) n ps x.0.2 x.0.0 x.0.1 x.1; bound = d.0 })
