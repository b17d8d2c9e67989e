-- The first rendering of a compiled component is that of the component.
use Rattle.std.proofs.Common.{◌≡◌, ◌∙◌, refl, sym, ap, ℕ, List, [], ◌∷◌, ◌++◌, map}
use Rattle.std.specs.Prelude.{Option, Some, None, slice_get}
use Rattle.cs_ast.specs.declared.code.Code.{Code}
use Rattle.cs_ast.specs.declared.cs_type.TypeExpr.{TypeExpr}
use Rattle.cs_ast.specs.declared.member.Member.{Member}
use Rattle.cs_ast.specs.declared.member.MemberKind.{MemberKind}
use Rattle.cs_ast.specs.declared.member.MemberKind.TheVariants.{Field, Parameter, Method, Getter, RecordDef}
use Rattle.cs_ast.specs.declared.value.Value.{Value}
use Rattle.cs_meaning.specs.Meaning.{setting}
use Rattle.cs_meaning.specs.Outcome.{Outcome, gives, breaks, continues, returns, faults, stuck, and_then}
use Rattle.cs_meaning.specs.State.{Fields, State, state}
use Rattle.cs_rules.specs.declared.checked.Checked.{Checked}
use Rattle.cs_rules.specs.Judged as judged
use Rattle.cs_rules.specs.Judged.{Judged, fine}
use Rattle.cs_rules.specs.Judged.{◌>>=◌ as ◌>>>=◌}
use Rattle.cs_rules.specs.Trees.{value_in}
use Rattle.cs_rules.specs.Written.{type_of}
use Rattle.drawing_meaning.specs.Acts.{Act, all_siblings}
use Rattle.drawing_meaning.specs.Drawing as drawing
use Rattle.drawing_meaning.specs.Drawing.{Drawing, Drawn}
use Rattle.drawing_meaning.specs.Shows.{at_first, stage_at}
use Rattle.drawing_meaning.specs.Stages.{Stage}
use Rattle.frame_core.specs.declared.item.Item.{Item}
use Rattle.frame_compiler.specs.Compiles.{Compiles, made_by, meaning_of, meanings_from}
use Rattle.frame_parts.specs.Components.{Meaning, component_meaning, declared, field, field_in, meaning, parameter_in}
use Rattle.frame_program.specs.Frames as frames
use Rattle.frame_program.specs.Frames.{component_items, frames_of}
use Rattle.frame_program.specs.Operations.{act_of}
use Rattle.frame_program.specs.declared.compiled.Compiled.{Compiled}
use Rattle.frame_program.specs.declared.compiled.RunScope.{RunScope}
use Rattle.frame_program.specs.declared.compiled.CompiledComponent.{CompiledComponent}
use Rattle.frame_program.specs.declared.compiled.CompiledField.{CompiledField}
use Rattle.page_meaning.specs.Fresh.{fresh_alone, of_fields, of_items}
use Rattle.page_meaning.specs.Initial.{default_of, field_values, fields_of, if_fine, initial_fields, no_fields, with_field_value}
use Rattle.page_meaning.specs.Items.{bodies, component_acts, items, items_from, items_of_acts, templates}
use Rattle.page_meaning.specs.Resolved as resolved
use Rattle.page_meaning.specs.Resolved.{Resolves, ◌>>=◌}
use Rattle.razor_ast.specs.declared.component.Component.{Component}
use Rattle.razor_rules.specs.Programs.{home_of}
use Rattle.razor_rules.specs.Scopes.{Home, initial_scope}
use Rattle.first_rendering.specs.Alone.{items_alone}
use Rattle.first_rendering.specs.First.{FirstItems, behind_fields, fields_in, first_items, initial_values, instance_items, of_drawn, own_value, page_of}
use mathlib.Core.Path.{fun_ext}

abbrev in_front : Value → Outcome (List Value) → Outcome (List Value)
in_front x outcome = and_then outcome (λ xs s. gives (x ∷ xs) s)

one-in-front : (x : Value) (outcome : Outcome (List Value)) (next : List Value → FirstItems) → behind_fields (in_front x outcome) next ≡ behind_fields outcome (λ xs. next (x ∷ xs))
one-in-front x (gives xs s) next = refl
one-in-front x (breaks s) next = refl
one-in-front x (continues s) next = refl
one-in-front x (returns y s) next = refl
one-in-front x (faults fault s) next = refl
one-in-front x stuck next = refl

-- what follows initial values is the same, whichever of these they come by
abbrev Same : (State → Outcome (List Value)) → (ℕ → Outcome (List Value)) → Type 0
Same one other = (s : State) (next : List Value → FirstItems) → behind_fields (one s) next ≡ behind_fields (other s.left) next

behind-one : (one : State → Outcome (List Value)) (other : ℕ → Outcome (List Value)) (x : Value) (s : State) (next : List Value → FirstItems) → Same one other
    → behind_fields (in_front x (one s)) next ≡ behind_fields (in_front x (other s.left)) next
behind-one one other x s next same =
    one-in-front x (one s) next ∙ same s (λ xs. next (x ∷ xs)) ∙ sym (one-in-front x (other s.left) next)

behind-value : (one : State → Outcome (List Value)) (other : ℕ → Outcome (List Value)) (outcome : Outcome Value) (next : List Value → FirstItems) → Same one other
    → behind_fields (and_then outcome (λ x s. in_front x (one s))) next ≡ behind_fields (and_then outcome (λ x s. in_front x (other s.left))) next
behind-value one other (gives x s) next same = behind-one one other x s next same
behind-value one other (breaks s) next same = refl
behind-value one other (continues s) next same = refl
behind-value one other (returns x s) next same = refl
behind-value one other (faults fault s) next same = refl
behind-value one other stuck next same = refl

cut-front : (here : List CompiledField) (more : Judged (List CompiledField)) (fields : List CompiledField) → (more >>>= (λ others. fine (here ++ others))) ≡ fine fields
    → (others : List CompiledField) × (more ≡ fine others) × (fields ≡ here ++ others)
cut-front here (fine others) fields e = (others, refl, cc)
cut-front here (judged.breaks rule place) fields e = absurd (cc)

-- a field without a value, or with one that is fine
module _ (home : Home) (cs_type : TypeExpr) (name : List ℕ) (others : List Member) where
  with-code : (value : Judged Checked) (fields : List CompiledField) (s : State) (next : List Value → FirstItems)
      → ((more : List CompiledField) → declared (field_in home) others ≡ fine more → Same (field_values home (setting 1 no_fields [] 1) others) (initial_values more))
      → (((value >>>= (λ x. fine x.code)) >>>= (λ code. fine (Some code))) >>>= (λ code. fine (field name (type_of cs_type) None code ∷ [])) >>>= (λ here. declared (field_in home) others >>>= (λ more. fine (here ++ more)))) ≡ fine fields
      → behind_fields (and_then (if_fine (setting 1 no_fields [] 1) value s) (λ x s1. in_front x (field_values home (setting 1 no_fields [] 1) others s1))) next ≡ behind_fields (initial_values fields s.left) next
  with-code (fine x) fields s next same e =
      let cut = cut-front (field name (type_of cs_type) None (Some x.code) ∷ []) (declared (field_in home) others) fields e in
      behind-value (field_values home (setting 1 no_fields [] 1) others) (initial_values cut.0) (own_value x.code s.left) next (same cut.0 cut.1)
      ∙ ap (λ (xs : List CompiledField). behind_fields (initial_values xs s.left) next) (sym cut.2)
  with-code (judged.breaks rule place) fields s next same e = absurd (cc)

  without-code : (fields : List CompiledField) (s : State) (next : List Value → FirstItems)
      → ((more : List CompiledField) → declared (field_in home) others ≡ fine more → Same (field_values home (setting 1 no_fields [] 1) others) (initial_values more))
      → (declared (field_in home) others >>>= (λ more. fine (field name (type_of cs_type) None None ∷ more))) ≡ fine fields
      → behind_fields (in_front (default_of (type_of cs_type)) (field_values home (setting 1 no_fields [] 1) others s)) next ≡ behind_fields (initial_values fields s.left) next
  without-code fields s next same e =
      let cut = cut-front (field name (type_of cs_type) None None ∷ []) (declared (field_in home) others) fields e in
      behind-one (field_values home (setting 1 no_fields [] 1) others) (initial_values cut.0) (default_of (type_of cs_type)) s next (same cut.0 cut.1)
      ∙ ap (λ (xs : List CompiledField). behind_fields (initial_values xs s.left) next) (sym cut.2)

abbrev SameValues : Home → List Member → Type 0
SameValues home members = (fields : List CompiledField) → declared (field_in home) members ≡ fine fields → Same (field_values home (setting 1 no_fields [] 1) members) (initial_values fields)

no-field : (home : Home) (others : List Member) (fields : List CompiledField) → (declared (field_in home) others >>>= (λ more. fine ([] ++ more))) ≡ fine fields → declared (field_in home) others ≡ fine fields
no-field home others fields e =
    let cut = cut-front [] (declared (field_in home) others) fields e in
    cut.1 ∙ ap fine (sym cut.2)

one-member : (home : Home) (one : MemberKind) (others : List Member) (fields : List CompiledField) (s : State) (next : List Value → FirstItems) → SameValues home others
    → (field_in home one >>>= (λ here. declared (field_in home) others >>>= (λ more. fine (here ++ more)))) ≡ fine fields
    → behind_fields (with_field_value home (setting 1 no_fields [] 1) one (field_values home (setting 1 no_fields [] 1) others) s) next ≡ behind_fields (initial_values fields s.left) next
unfolding field_in
one-member home (Field cs_type name None) others fields s next same e = without-code home cs_type name.name others fields s next same e
one-member home (Field cs_type name (Some a)) others fields s next same e = with-code home cs_type name.name others (value_in (initial_scope home) a) fields s next same e
one-member home (Parameter cascading source cs_type name initial) others fields s next same e = same fields (no-field home others fields e) s next
one-member home (Method result name arguments body) others fields s next same e = same fields (no-field home others fields e) s next
one-member home (Getter result name value) others fields s next same e = same fields (no-field home others fields e) s next
one-member home (RecordDef name parts) others fields s next same e = same fields (no-field home others fields e) s next

pub same-values : (home : Home) (members : List Member) → SameValues home members
same-values home [] fields e s next = let is : fields ≡ [] = cc in ap (λ (xs : List CompiledField). behind_fields (initial_values xs s.left) next) (sym is)
same-values home (one ∷ others) fields e s next = one-member home one.kind others fields s next (same-values home others) e

-- the fields of what a component comes to
part-fields : (fields parameters : Judged (List CompiledField)) (acts : Resolves (List Act)) (whole : List CompiledField → List CompiledField → List Act → Meaning)
    → ((fs ps : List CompiledField) (them : List Act) → (whole fs ps them).fields ≡ fs)
    → (m : Meaning) → made_by (resolved.judged fields >>= (λ fs. resolved.judged parameters >>= (λ ps. acts >>= (λ them. resolved.alone (whole fs ps them))))) ≡ fine m → fields ≡ fine m.fields
part-fields (fine fs) (fine ps) (fine x) whole says m is =
    let same : whole fs ps x.made ≡ m = cc in
    ap fine (sym (says fs ps x.made) ∙ ap (λ (it : Meaning). it.fields) same)
part-fields (fine fs) (fine ps) (judged.breaks rule place) whole says m is = absurd (cc)
part-fields (fine fs) (judged.breaks rule place) acts whole says m is = absurd (cc)
part-fields (judged.breaks rule place) parameters acts whole says m is = absurd (cc)

part-acts : (fields parameters : Judged (List CompiledField)) (acts : Resolves (List Act)) (whole : List CompiledField → List CompiledField → List Act → Meaning)
    → ((fs ps : List CompiledField) (them : List Act) → (whole fs ps them).acts ≡ them)
    → (m : Meaning) → made_by (resolved.judged fields >>= (λ fs. resolved.judged parameters >>= (λ ps. acts >>= (λ them. resolved.alone (whole fs ps them))))) ≡ fine m → made_by acts ≡ fine m.acts
part-acts (fine fs) (fine ps) (fine x) whole says m is =
    let same : whole fs ps x.made ≡ m = cc in
    ap fine (sym (says fs ps x.made) ∙ ap (λ (it : Meaning). it.acts) same)
part-acts (fine fs) (fine ps) (judged.breaks rule place) whole says m is = absurd (cc)
part-acts (fine fs) (judged.breaks rule place) acts whole says m is = absurd (cc)
part-acts (judged.breaks rule place) parameters acts whole says m is = absurd (cc)

part-name : (fields parameters : Judged (List CompiledField)) (acts : Resolves (List Act)) (whole : List CompiledField → List CompiledField → List Act → Meaning) (name : List ℕ)
    → ((fs ps : List CompiledField) (them : List Act) → (whole fs ps them).name ≡ name)
    → (m : Meaning) → made_by (resolved.judged fields >>= (λ fs. resolved.judged parameters >>= (λ ps. acts >>= (λ them. resolved.alone (whole fs ps them))))) ≡ fine m → m.name ≡ name
part-name (fine fs) (fine ps) (fine x) whole name says m is =
    let same : whole fs ps x.made ≡ m = cc in
    ap (λ (it : Meaning). it.name) (sym same) ∙ says fs ps x.made
part-name (fine fs) (fine ps) (judged.breaks rule place) whole name says m is = absurd (cc)
part-name (fine fs) (judged.breaks rule place) acts whole name says m is = absurd (cc)
part-name (judged.breaks rule place) parameters acts whole name says m is = absurd (cc)

name-of-component : (home : Home) (component : Component) (m : Meaning) → made_by (component_meaning home component) ≡ fine m → m.name ≡ component.name
unfolding component_meaning
name-of-component home component m is =
    part-name (declared (field_in home) component.members) (declared (parameter_in home) component.members) (component_acts home component) (λ fs ps them. meaning home component fs ps them)
    component.name (λ fs ps them. refl) m is

component-fields : (home : Home) (component : Component) (m : Meaning) → made_by (component_meaning home component) ≡ fine m → declared (field_in home) component.members ≡ fine m.fields
unfolding component_meaning
component-fields home component m is =
    part-fields (declared (field_in home) component.members) (declared (parameter_in home) component.members) (component_acts home component) (λ fs ps them. meaning home component fs ps them)
    (λ fs ps them. refl) m is

acts-of-component : (home : Home) (component : Component) (m : Meaning) → made_by (component_meaning home component) ≡ fine m → made_by (component_acts home component) ≡ fine m.acts
unfolding component_meaning
acts-of-component home component m is =
    part-acts (declared (field_in home) component.members) (declared (parameter_in home) component.members) (component_acts home component) (λ fs ps them. meaning home component fs ps them)
    (λ fs ps them. refl) m is

-- one component alone is compiled to one
only : (first : Judged Meaning) (all : List CompiledComponent) → (first >>>= (λ one. fine (one ∷ []))) ≡ fine (map meaning_of all)
    → (one : CompiledComponent) × (slice_get all 0 ≡ Some one) × (first ≡ fine (meaning_of one))
only (fine m) [] e = absurd (cc)
only (fine m) (one ∷ more) e = let same : m ≡ meaning_of one = cc in (one, refl, ap fine same)
only (judged.breaks rule place) all e = absurd (cc)

-- what it is compiled to: its name, its fields, and what its template does
pub record Lone (component : Component) (all : List CompiledComponent) : Type 0 where
  pub one : CompiledComponent
  pub there : slice_get all 0 ≡ Some one
  pub named : one.name ≡ component.name
  pub fields : declared (field_in (home_of (component ∷ []) 0 component)) component.members ≡ fine one.fields
  pub acts : made_by (component_acts (home_of (component ∷ []) 0 component) component) ≡ fine (map act_of one.operations)

pub lone : (component : Component) (all : List CompiledComponent) → meanings_from (component ∷ []) 0 (component ∷ []) ≡ fine (map meaning_of all) → Lone component all
lone component all e =
    let home = home_of (component ∷ []) 0 component in
    let found = only (made_by (component_meaning home component)) all e in
    record {
      one = found.0;
      there = found.1;
      named = name-of-component home component (meaning_of found.0) found.2;
      fields = component-fields home component (meaning_of found.0) found.2;
      acts = acts-of-component home component (meaning_of found.0) found.2;
    }

fine-acts : (m : Resolves (List Act)) (acts : List Act) → made_by m ≡ fine acts → (stage : Stage) (d : Drawing) → items_of_acts m stage d ≡ all_siblings acts stage d
fine-acts (fine it) acts is stage d =
    let same : it.made ≡ acts = cc in
    ap (λ (them : List Act). all_siblings them stage d) same
fine-acts (judged.breaks rule place) acts is stage d = absurd (cc)

abbrev first_scope : RunScope
first_scope = record { who = 1; component = 0; depth = 1 }

-- the items are those of the component
draws : (component : Component) (compiled : Compiled) (fields : Fields) → Compiles (component ∷ []) compiled → Lone component compiled.components
    → frames_of compiled first_scope fields no_fields (record { left = 1000000; depth = 1 }) ≡ items (component ∷ []) no_fields fields 0 component 1 1
unfolding items_from
draws component compiled fields known it =
    let home = home_of (component ∷ []) 0 component in
    let d = at_first fields 1000000 in
    let acts = map act_of it.one.operations in
    ap (λ (one : Option CompiledComponent). component_items one (stage_at no_fields compiled.bodies (frames.templates_in compiled.fragments) 1 1 1) d) it.there
    ∙ ap (λ (of : List (ℕ × Code)). all_siblings acts (stage_at no_fields of (frames.templates_in compiled.fragments) 1 1 1) d) known.bodies
    ∙ ap (λ (of : ℕ → Option (List Act)). all_siblings acts (stage_at no_fields (bodies (component ∷ [])) of 1 1 1) d) (fun_ext known.fragments)
    ∙ sym (fine-acts (component_acts home component) acts it.acts (stage_at no_fields (bodies (component ∷ [])) (templates (component ∷ [])) 1 1 1) d)

pub first-items : (component : Component) (compiled : Compiled) → Compiles (component ∷ []) compiled → first_items compiled ≡ items_alone component
unfolding items_alone
first-items component compiled known =
    let home = home_of (component ∷ []) 0 component in
    let it = lone component compiled.components known.meanings in
    ap (λ (one : Option CompiledComponent). behind_fields (fields_in one) (instance_items compiled)) it.there
    ∙ sym (same-values home component.members it.one.fields it.fields (state [] no_fields [] 1000000) (instance_items compiled))
    ∙ ap (λ (next : List Value → FirstItems). behind_fields (initial_fields home 1 component.members) next) (fun_ext (λ values. ap of_drawn (draws component compiled (fields_of 1 values) known it)))

page-of-drawn : (d : Drawn (List Item)) → page_of (of_drawn d) ≡ of_items d
page-of-drawn (drawing.gives all s) = refl
page-of-drawn (drawing.faults met s) = refl
page-of-drawn drawing.stuck = refl

page-behind : (outcome : Outcome (List Value)) (draw : List Value → Drawn (List Item)) → page_of (behind_fields outcome (λ values. of_drawn (draw values))) ≡ of_fields outcome (λ values. of_items (draw values))
page-behind (gives values s) draw = page-of-drawn (draw values)
page-behind (breaks s) draw = refl
page-behind (continues s) draw = refl
page-behind (returns x s) draw = refl
page-behind (faults fault s) draw = refl
page-behind stuck draw = refl

-- the page of the first items is the fresh rendering
pub page-alone : (component : Component) → page_of (items_alone component) ≡ fresh_alone component
unfolding items_alone fresh_alone
page-alone component =
    page-behind (initial_fields (home_of (component ∷ []) 0 component) 1 component.members) (λ values. items (component ∷ []) no_fields (fields_of 1 values) 0 component 1 1)
