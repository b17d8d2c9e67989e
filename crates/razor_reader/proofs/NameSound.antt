-- What the names of attributes are by the grammar.
use Rattle.std.proofs.Common.{◌≡◌, ◌≢◌, ℕ, ◌<◌, List, [], ◌∷◌, ◌++◌, length, refl, sym, ap, ◌∙◌, subst, arith}
use Rattle.std.specs.Prelude.{Bool, true, false, not, ◌&&◌, ◌==◌, codes, if◌then◌else◌, Option, Some, None}
use Rattle.std.proofs.lemmas.Bool.{eqb-true, eq-eqb}
use Rattle.std.specs.Str.{bytes_eq}
use Rattle.cs_token.specs.Reading.Runs.{strip}
use Rattle.cs_token.proofs.RunLemmas.{strip-some}
use Rattle.razor_ast.specs.AttributeNames.{begins_at, are_lower, IsEvent, IsElementName}
use Rattle.razor_ast.specs.AttributeNames as g
use Rattle.razor_reader.specs.declared.names.NameForm.{NameForm}
use Rattle.razor_reader.specs.declared.names.NameForm.TheVariants as f
use Rattle.razor_reader.specs.NameReading as r
use Rattle.razor_reader.proofs.ReadLemmas.{both_true, not_true, same_text, other_text}

-- what an attribute is by its name
pub data FormOf (component : Bool) (name : List ℕ) : NameForm → Type 0 where
  is_plain : component ≡ false → begins_at name ≡ false → FormOf component name f.Plain
  is_parameter : component ≡ true → begins_at name ≡ false → name ≢ codes "Context" → FormOf component name f.Parameter
  is_context : component ≡ true → name ≡ codes "Context" → FormOf component name f.Context
  is_key : name ≡ codes "@key" → FormOf component name f.Key
  is_event : component ≡ false → IsEvent name → FormOf component name f.Event
  is_bind : component ≡ false → name ≡ codes "@bind" → FormOf component name f.Bind
  is_bind_event : component ≡ false → name ≡ codes "@bind:event" → FormOf component name f.BindEvent
  is_nothing : FormOf component name f.Nothing

some_lower : (rest : List ℕ) → r.are_some_lower rest ≡ true → (0 < length rest) × (are_lower rest ≡ true)
some_lower [] e = absurd (cc)
some_lower (c ∷ rest) e = (omega arith, e)

event_sound : (name : List ℕ) → r.is_event name ≡ true → IsEvent name
event_sound name e = go (strip (codes "@on") name) refl e
  where
    go : (o : Option (List ℕ)) → strip (codes "@on") name ≡ o → elim o [ Some rest ↦ r.are_some_lower rest | None ↦ false ] ≡ true → IsEvent name
    go (Some rest) i e = let x = some_lower rest e in subst IsEvent (sym (strip-some (codes "@on") name rest i)) (g.event rest x.0 x.1)
    go None i e = absurd (cc)

element_form_of : (name : List ℕ) → FormOf false name (r.element_form name name)
element_form_of name = bound (bytes_eq name (codes "@bind")) refl
  where
    events : (b : Bool) → r.is_event name ≡ b → FormOf false name (if b then f.Event else f.Nothing)
    events true i = is_event refl (event_sound name i)
    events false i = is_nothing

    bound_event : (b : Bool) → bytes_eq name (codes "@bind:event") ≡ b → FormOf false name (if b then f.BindEvent else (if r.is_event name then f.Event else f.Nothing))
    bound_event true i = is_bind_event refl (same_text name (codes "@bind:event") i)
    bound_event false i = events (r.is_event name) refl

    bound : (b : Bool) → bytes_eq name (codes "@bind") ≡ b →
        FormOf false name (if b then f.Bind else (if bytes_eq name (codes "@bind:event") then f.BindEvent else (if r.is_event name then f.Event else f.Nothing)))
    bound true i = is_bind refl (same_text name (codes "@bind") i)
    bound false i = bound_event (bytes_eq name (codes "@bind:event")) refl

at_form_of : (component : Bool) (name : List ℕ) → FormOf component name (r.at_form component name name)
at_form_of component name = keyed (bytes_eq name (codes "@key")) refl
  where
    other : (c : Bool) → FormOf c name (if c then f.Nothing else r.element_form name name)
    other true = is_nothing
    other false = element_form_of name

    keyed : (b : Bool) → bytes_eq name (codes "@key") ≡ b → FormOf component name (if b then f.Key else (if component then f.Nothing else r.element_form name name))
    keyed true i = is_key (same_text name (codes "@key") i)
    keyed false i = other component

plain_form_of : (component : Bool) (name : List ℕ) → begins_at name ≡ false → FormOf component name (r.plain_form component name)
plain_form_of false name e = is_plain refl e
plain_form_of true name e = go (bytes_eq name (codes "Context")) refl
  where
    go : (b : Bool) → bytes_eq name (codes "Context") ≡ b → FormOf true name (if b then f.Context else f.Parameter)
    go true i = is_context refl (same_text name (codes "Context") i)
    go false i = is_parameter refl e (other_text name (codes "Context") i)

pub form_of : (component : Bool) (name : List ℕ) → FormOf component name (r.name_form component name)
form_of component name = go (begins_at name) refl
  where
    go : (b : Bool) → begins_at name ≡ b → FormOf component name (if b then r.at_form component name name else r.plain_form component name)
    go true i = at_form_of component name
    go false i = plain_form_of component name i

pub element_name_sound : (name : List ℕ) → r.is_element_name name ≡ true → IsElementName name
element_name_sound name e =
    let x = both_true (not (bytes_eq name (codes "script")) && not (bytes_eq name (codes "style"))) (not (bytes_eq name (codes "text"))) e in
    let y = both_true (not (bytes_eq name (codes "script"))) (not (bytes_eq name (codes "style"))) x.0 in
    record {
      no_script = other_text name (codes "script") (not_true _ y.0);
      no_style = other_text name (codes "style") (not_true _ y.1);
      no_text = other_text name (codes "text") (not_true _ x.1);
    }
