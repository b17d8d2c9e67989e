-- A component by itself that breaks no rule shows a page, or ends with a fault.
use Rattle.std.proofs.Common.{◌≡◌, ℕ, List, [], ◌∷◌, refl, sym, ap, subst, ◌∙◌}
use Rattle.std.specs.Prelude.{Bool, true, false, ◌==◌, slice_get, if◌then◌else◌, option_map, Option, Some, None}
use Rattle.std.specs.List.{flat_map}
use Rattle.cs_ast.specs.declared.cs_type.CsType.{CsType}
use Rattle.cs_ast.specs.declared.member.Member.{Member}
use Rattle.cs_ast.specs.declared.member.MemberKind.{MemberKind}
use Rattle.cs_ast.specs.declared.member.MemberKind.TheVariants.{Field, Parameter, Method, Getter, RecordDef}
use Rattle.cs_ast.specs.declared.value.Value.{Value}
use Rattle.cs_meaning.specs.State.{Fields, state}
use Rattle.cs_meaning.specs.Outcome.{Outcome}
use Rattle.cs_meaning.specs.Outcome as code
use Rattle.cs_meaning.specs.Meaning.{setting}
use Rattle.cs_meaning.specs.State.{State}
use Rattle.cs_typing.specs.Types.{Types}
use Rattle.cs_accepted.specs.Scopes.{record_type}
use Rattle.cs_typing.specs.Outcomes.{Fits, no_jump}
use Rattle.cs_typing.specs.Values.{ValuesHave}
use Rattle.cs_typing.specs.Values as has
use Rattle.cs_typing.specs.States.{HasValue, FieldsHave, StateHas}
use Rattle.cs_typing.specs.Settings.{SettingHas}
use Rattle.cs_typing.specs.States as states
use Rattle.cs_typing.proofs.ValueLists.{value_in}
use Rattle.drawing_meaning.specs.Drawing.{Drawing, Drawn}
use Rattle.drawing_meaning.specs.Drawing as drawing
use Rattle.drawing_meaning.specs.Shows.{stage_at, at_first}
use Rattle.frame_core.specs.declared.item.Item.{Item}
use Rattle.razor_ast.specs.declared.component.Component.{Component}
use Rattle.page_meaning.specs.Fresh.{First, Shown, nodes_of, of_items, of_fields, items_shown, fresh_alone}
use Rattle.page_meaning.specs.Initial.{no_fields, fields_of, initial_fields}
use Rattle.page_meaning.specs.Items.{bodies, templates, items_from, items_of_acts}
use Rattle.page_meaning.specs.ProgramTypes.{field_of, parameter_of, declared_at}
use Rattle.page_typing.specs.Drawings.{DrawnFits, ItemsDrawn}
use Rattle.page_typing.specs.Pages.{NoParameters, IsAlone, IsShown, one_instance}
use Rattle.page_typing.proofs.ActSoundness.{siblings_drawn}
use Rattle.page_typing.proofs.AloneInitial.{bare_types, fields_fit, values_more}
use Rattle.page_typing.proofs.AloneRules.{alone_home, Sound}
use Rattle.page_typing.proofs.AloneTypes.{types, acts_are, bodies_have, templates_have, made_fits, walked}
use Rattle.page_typing.proofs.TemplateSoundness.{stage_has}
use Rattle.page_typing.proofs.Whole.{items_show}
use Rattle.page_typing.specs.Homes.{surroundings}

-- no parameter is declared
none_declared : (members : List Member) → NoParameters members → flat_map (λ (one : Member). parameter_of one.kind) members ≡ []
none_declared [] h = refl
none_declared (one ∷ others) h = by one.kind (h.0, tt) (none_declared others h.1)
  where
    by : (m : MemberKind) → NoParameters (record { place = one.place; kind = m } ∷ []) → flat_map (λ (z : Member). parameter_of z.kind) others ≡ [] → flat_map (λ (z : Member). parameter_of z.kind) (record { place = one.place; kind = m } ∷ others) ≡ []
    by (Parameter cascading source cs_type name initial) k e = absurd k.0
    by (Field cs_type name initial) k e = e
    by (Method result name arguments of) k e = e
    by (Getter result name value) k e = e
    by (RecordDef name parts) k e = e

-- what is shown of items that no component is part of
shown_page : (found : Option Shown) → (it : Shown) × (found ≡ Some it) → IsShown (nodes_of found)
shown_page None h = absurd (cc)
shown_page (Some it) h = tt

pub drawn_shown : (given : Types) (items : Drawn (List Item)) → DrawnFits (ItemsDrawn given false []) items → IsShown (of_items items)
drawn_shown given (drawing.gives all d) h = shown_page (items_shown 1 all 0) (items_show given 1 all (h.0 refl) 0)
drawn_shown given (drawing.faults met d) h = tt
drawn_shown given drawing.stuck h = absurd h

-- the values that own fields begin with
begun_shown : (given : Types) (good : List Value → State → Type 0) (begun : Outcome (List Value)) (next : List Value → First) → Fits (no_jump given) good begun → ((values : List Value) (s : State) → good values s → IsShown (next values)) → IsShown (of_fields begun next)
begun_shown given good (code.gives values s) next h further = further values s h
begun_shown given good (code.faults met s) next h further = tt
begun_shown given good (code.breaks s) next h further = absurd h
begun_shown given good (code.continues s) next h further = absurd h
begun_shown given good (code.returns x s) next h further = absurd h
begun_shown given good code.stuck next h further = absurd h

weaker_fits : {A : Type 0} (given : Types) (good better : A → State → Type 0) (begun : Outcome A) → Fits (no_jump given) good begun → ((x : A) (s : State) → good x s → better x s) → Fits (no_jump given) better begun
weaker_fits given good better (code.gives x s) h further = further x s h
weaker_fits given good better (code.faults met s) h further = h
weaker_fits given good better (code.breaks s) h further = h
weaker_fits given good better (code.continues s) h further = h
weaker_fits given good better (code.returns x s) h further = h
weaker_fits given good better code.stuck h further = h

module _ (component : Component) (sound : Sound component) (formed : IsAlone component) where
  abbrev pub all_types : Types
  all_types = types component sound formed

  abbrev bare : Types
  bare = bare_types all_types.records one_instance

  abbrev field_types : List CsType
  field_types = flat_map (λ (one : Member). field_of one.kind) component.members

  -- only one instance is there, and it is of the only component
  the_instance : (who position : ℕ) → one_instance who ≡ Some position → ((who == 1) ≡ true) × (0 ≡ position)
  the_instance who position e = by (who == 1) refl e
    where
      by : (b : Bool) → (who == 1) ≡ b → (if b then Some 0 else None) ≡ Some position → ((who == 1) ≡ true) × (0 ≡ position)
      by true is e1 = (is, cc)
      by false is e1 = absurd (cc)

  fields_have : (values : List Value) → ValuesHave all_types field_types values → FieldsHave all_types all_types.fields (fields_of 1 values)
  fields_have values h who position number type there declared =
      let one = the_instance who position there in
      let typed : slice_get field_types number ≡ Some type = ap (λ (z : ℕ). declared_at field_of (slice_get (component ∷ []) z) number) one.1 ∙ declared in
      subst (λ (b : Bool). HasValue all_types type (if b then slice_get values number else None)) (sym one.0) (value_in all_types field_types values number type h typed)

  parameters_have : FieldsHave all_types all_types.parameters no_fields
  parameters_have who position number type there declared =
      let one = the_instance who position there in
      let typed : slice_get (flat_map (λ (z : Member). parameter_of z.kind) component.members) number ≡ Some type = ap (λ (z : ℕ). declared_at parameter_of (slice_get (component ∷ []) z) number) one.1 ∙ declared in
      let nothing : slice_get {X = CsType} [] number ≡ Some type = ap (λ (z : List CsType). slice_get z number) (sym (none_declared component.members formed.no_parameters)) ∙ typed in
      absurd (no_place number nothing)
    where
      no_place : (n : ℕ) → slice_get {X = CsType} [] n ≡ Some type → ⊥
      no_place n k = absurd (cc)

  -- the items over fields of these types
  pub over_fields : (fields : Fields) (depth : ℕ) → FieldsHave all_types all_types.fields fields → DrawnFits (ItemsDrawn all_types false []) (items_from (component ∷ []) no_fields 0 component 1 depth (at_first fields 1000000))
  unfolding items_from
  over_fields fields depth h =
      let stage = stage_at no_fields (bodies (component ∷ [])) (templates (component ∷ [])) 1 1 depth in
      let stands = stage_has all_types false no_fields (bodies (component ∷ [])) (templates (component ∷ [])) parameters_have (bodies_have component sound formed) (templates_have component sound formed) 0 1 1 depth refl in
      subst (λ z. DrawnFits (ItemsDrawn all_types false []) (items_of_acts z stage (at_first fields 1000000))) (sym (acts_are component sound formed))
      (siblings_drawn (surroundings all_types (alone_home component)) false stage stands [] [] (walked component sound formed []).it.made (at_first fields 1000000) (made_fits component sound formed) (has.none, (h, states.none)))

  -- its code runs among these types
  pub setting_has : (calls : ℕ) → SettingHas (surroundings all_types (alone_home component)) (setting 1 no_fields (bodies (component ∷ [])) calls)
  setting_has calls = record { there = refl; parameters_have = parameters_have; bodies_have = bodies_have component sound formed }

  -- the initial values of its own fields have their types
  pub initial_have : Fits (no_jump bare) (λ values s. FieldsHave all_types all_types.fields (fields_of 1 values)) (initial_fields (alone_home component) 1 component.members)
  initial_have =
      let stands : SettingHas (record { types = bare; component = 0 }) (setting 1 no_fields [] 1) = record { there = refl; parameters_have = λ who position number type there declared. absurd (cc); bodies_have = record { has = λ number body e. absurd (cc) } } in
      let begins : StateHas bare [] (state [] no_fields [] 1000000) = (has.none, (λ who position number type there declared. absurd (cc), states.none)) in
      weaker_fits bare _ _ _ (fields_fit (alone_home component) all_types.records one_instance (setting 1 no_fields [] 1) 0 (λ name it e. ap (option_map record_type) e) stands sound.invoking sound.circular component.members (state [] no_fields [] 1000000) sound.members begins)
      (λ values s h. fields_have values (values_more all_types.records one_instance all_types (λ name. refl) field_types values h.0))

  pub page_shown : IsShown (fresh_alone component)
  unfolding fresh_alone
  page_shown = begun_shown bare _ _ _ initial_have (λ values s h. drawn_shown all_types _ (over_fields (fields_of 1 values) 1 h))
