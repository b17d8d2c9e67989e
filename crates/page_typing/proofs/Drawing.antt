-- How drawings that keep to the types are put together.
use Rattle.std.proofs.Common.{◌≡◌, ℕ, ◌+◌, ◌-◌, ◌/◌, List, refl, sym, subst}
use Rattle.std.specs.Prelude.{Bool, true, false, ◌||◌, nat_lt, if◌then◌else◌, Option, Some}
use Rattle.cs_ast.specs.Sizes.{size_of}
use Rattle.cs_ast.specs.Texts.{text_of}
use Rattle.cs_ast.specs.declared.code.Code.{Code}
use Rattle.cs_ast.specs.declared.cs_type.CsType.{CsType}
use Rattle.cs_ast.specs.declared.cs_type.CsType.TheVariants as t
use Rattle.cs_ast.specs.declared.value.Value.{Value}
use Rattle.cs_ast.specs.declared.value.Value.TheVariants as v
use Rattle.cs_meaning.specs.declared.fault.Fault.TheVariants.{FuelSpent, ValueTooLarge}
use Rattle.cs_meaning.specs.State.{State, state, spent}
use Rattle.cs_meaning.specs.Outcome as code
use Rattle.cs_meaning.specs.Outcome.{Outcome, and_then as code_and_then, charged, found}
use Rattle.cs_meaning.specs.Scopes.{of_body}
use Rattle.cs_meaning.specs.Meaning.{meaning, body_meaning}
use Rattle.cs_meaning.specs.NewValues.{new_text}
use Rattle.cs_typing.specs.Types.{Types}
use Rattle.cs_typing.specs.Values.{ValueHas}
use Rattle.cs_typing.specs.Expressions.{Surroundings, CodeHas}
use Rattle.cs_typing.specs.States.{StateHas}
use Rattle.cs_typing.specs.Outcomes.{Fits, no_jump}
use Rattle.cs_typing.specs.Settings.{SettingHas}
use Rattle.cs_typing.proofs.ValueKinds.{is_bool}
use Rattle.cs_typing.proofs.BodySoundness.{expression_sound}
use Rattle.cs_typing.proofs.Fitting.{either_fits, charged_fits}
use Rattle.cs_meaning.specs.Kinds.{truth_of, string_of}
use Rattle.drawing_meaning.specs.declared.fault.PageFault.TheVariants.{PageTooLarge}
use Rattle.drawing_meaning.specs.Drawing.{Drawing, Drawn, gives, faults, stuck, Draws, and_then, of_outcome, known, pay, begun, begun_at, component_begun, IsDrawn}
use Rattle.drawing_meaning.specs.Stages.{Stage, code_value, truth}
use Rattle.drawing_meaning.specs.Texts.{shown}
use Rattle.page_typing.specs.Drawings.{DrawnFits, DrawingHas, ValueDrawn}

-- one after the other
pub then_drawn : {A B : Type 0} (P : A → Drawing → Type 0) (Q : B → Drawing → Type 0) (o : Drawn A) (next : A → Draws B) → DrawnFits P o → ((x : A) (d : Drawing) → P x d → DrawnFits Q (next x d)) → DrawnFits Q (and_then o next)
then_drawn P Q (gives x d) next h g = g x d h
then_drawn P Q (faults fault d) next h g = tt
then_drawn P Q stuck next h g = h

-- the same, of which less is said
pub weaker_drawn : {A : Type 0} (P Q : A → Drawing → Type 0) (o : Drawn A) → ((x : A) (d : Drawing) → P x d → Q x d) → DrawnFits P o → DrawnFits Q o
weaker_drawn P Q (gives x d) g h = g x d h
weaker_drawn P Q (faults fault d) g h = tt
weaker_drawn P Q stuck g h = h

-- one of two
pub either_drawn : {A : Type 0} (P : A → Drawing → Type 0) (b : Bool) (one other : Drawn A) → DrawnFits P one → DrawnFits P other → DrawnFits P (if b then one else other)
either_drawn P true one other h g = h
either_drawn P false one other h g = g

-- what fits is not stuck
pub fits_drawn : {A : Type 0} (P : A → Drawing → Type 0) (o : Drawn A) → DrawnFits P o → IsDrawn o
fits_drawn P (gives x d) h = tt
fits_drawn P (faults fault d) h = tt
fits_drawn P stuck h = h

-- what a body gives, where it is left by no jump
pub body_typed : (types : Types) (Q : Value → State → Type 0) (o : Outcome Value) → Fits (no_jump types) Q o → Fits (no_jump types) Q (of_body o)
body_typed types Q (code.gives x s) h = h
body_typed types Q (code.breaks s) h = h
body_typed types Q (code.continues s) h = h
body_typed types Q (code.returns x s) h = absurd h
body_typed types Q (code.faults fault s) h = h
body_typed types Q code.stuck h = h

module _ (types : Types) where
  -- what code gives: behind it the locals have the second types
  pub outcome_drawn : {A : Type 0} (locals inner : List CsType) (P : A → Type 0) (o : Outcome A) (d : Drawing) → DrawingHas types locals d → Fits (no_jump types) (λ x s. P x × StateHas types inner s) o
      → DrawnFits (λ x d1. P x × DrawingHas types inner d1) (of_outcome o d)
  outcome_drawn locals inner P (code.gives x s) d h f = (f.0, (f.1.0, h.1))
  outcome_drawn locals inner P (code.breaks s) d h f = f
  outcome_drawn locals inner P (code.continues s) d h f = f
  outcome_drawn locals inner P (code.returns x s) d h f = f
  outcome_drawn locals inner P (code.faults fault s) d h f = tt
  outcome_drawn locals inner P code.stuck d h f = f

  module _ (locals : List CsType) where
    -- a unit
    pub pay_drawn : (d : Drawing) → DrawingHas types locals d → DrawnFits (λ x d1. DrawingHas types locals d1) (pay d)
    pay_drawn d h = by (nat_lt d.state.left 1)
      where
        by : (b : Bool) → DrawnFits (λ x d1. DrawingHas types locals d1) (of_outcome (if b then code.faults FuelSpent (spent d.state) else code.gives (tt {0}) (state d.state.locals d.state.fields d.state.receivers (d.state.left - 1))) d)
        by true = tt
        by false = h

    -- a unit and what follows
    pub paid : {A : Type 0} (Q : A → Drawing → Type 0) (next : Unit {0} → Draws A) (d : Drawing) → DrawingHas types locals d → ((d1 : Drawing) → DrawingHas types locals d1 → DrawnFits Q (next tt d1)) → DrawnFits Q (and_then (pay d) next)
    paid Q next d h f = then_drawn (λ x d1. DrawingHas types locals d1) Q (pay d) next (pay_drawn d h) (λ x d1 k. f d1 k)

    -- an item more
    pub begun_drawn : (bytes : ℕ) (d : Drawing) → DrawingHas types locals d → DrawnFits (λ x d1. DrawingHas types locals d1) (begun bytes d)
    unfolding begun
    begun_drawn bytes d h =
        either_drawn (λ x d1. DrawingHas types locals d1) (nat_lt 100000 (d.items + 1) || nat_lt 8388608 (d.bytes + bytes)) (faults PageTooLarge d) (gives tt (record d { items = d.items + 1; bytes = d.bytes + bytes })) tt h

    pub begun_at_drawn : (depth bytes : ℕ) (d : Drawing) → DrawingHas types locals d → DrawnFits (λ x d1. DrawingHas types locals d1) (begun_at depth bytes d)
    unfolding begun_at
    begun_at_drawn depth bytes d h = either_drawn (λ x d1. DrawingHas types locals d1) (nat_lt 1000 depth) (faults PageTooLarge d) (begun bytes d) tt (begun_drawn bytes d h)

    pub component_drawn : (d : Drawing) → DrawingHas types locals d → DrawnFits (λ x d1. DrawingHas types locals d1) (component_begun d)
    unfolding component_begun
    component_drawn d h = then_drawn (λ x d1. DrawingHas types locals d1) (λ x d1. DrawingHas types locals d1) (begun 0 d) (λ here d1. gives d1.components (record d1 { components = d1.components + 1 })) (begun_drawn 0 d h) (λ x d1 k. k)

    -- what is there
    pub known_drawn : {A : Type 0} (P : A → Type 0) (o : Option A) (x : A) (d : Drawing) → o ≡ Some x → P x → DrawingHas types locals d → DrawnFits (λ y d1. P y × DrawingHas types locals d1) (known o d)
    known_drawn P o x d e p h = subst (λ z. DrawnFits (λ y d1. P y × DrawingHas types locals d1) (known z d)) (sym e) (p, h)

    -- a new text
    pub shown_drawn : (x : Value) (said : List ℕ) (d : Drawing) → text_of x ≡ Some said → DrawingHas types locals d → DrawnFits (λ y d1. DrawingHas types locals d1) (shown x d)
    shown_drawn x said d e h =
        then_drawn (λ y d1. ((z : List ℕ) × (y ≡ v.Text z)) × DrawingHas types locals d1) (λ y d1. DrawingHas types locals d1) (of_outcome (new_text (text_of x) d.state) d) (λ y. known (string_of y))
        (outcome_drawn locals locals (λ y. (z : List ℕ) × (y ≡ v.Text z)) (new_text (text_of x) d.state) d h (subst (λ o. Fits (no_jump types) (λ y s. ((z : List ℕ) × (y ≡ v.Text z)) × StateHas types locals s) (new_text o d.state)) (sym e) (made_text said d.state h)))
        (λ y d1 k. subst (λ z. DrawnFits (λ w d2. DrawingHas types locals d2) (known (string_of z) d1)) (sym k.0.1) k.1)
      where
        made_text : (text : List ℕ) (s : State) → StateHas types locals s → Fits (no_jump types) (λ y s1. ((z : List ℕ) × (y ≡ v.Text z)) × StateHas types locals s1) (new_text (Some text) s)
        made_text text s hs =
            charged_fits (no_jump types) (λ y s1. ((z : List ℕ) × (y ≡ v.Text z)) × StateHas types locals s1) (size_of (v.Text text) / 64) s (λ s1. if nat_lt 1048576 (size_of (v.Text text)) then code.faults ValueTooLarge s1 else code.gives (v.Text text) s1) hs.1
            (λ left. either_fits (no_jump types) (λ y s1. ((z : List ℕ) × (y ≡ v.Text z)) × StateHas types locals s1) (nat_lt 1048576 (size_of (v.Text text))) (code.faults ValueTooLarge (state s.locals s.fields s.receivers left)) (code.gives (v.Text text) (state s.locals s.fields s.receivers left)) hs.1 ((text, refl), hs))

-- the value of code of a type
pub code_drawn : (at : Surroundings) (locals : List CsType) (type : CsType) (a : Code) (stage : Stage) (d : Drawing) → SettingHas at stage.around → CodeHas at locals type a → DrawingHas at.types locals d → DrawnFits (ValueDrawn at.types locals type) (code_value a stage d)
code_drawn at locals type a stage d has h hd =
    outcome_drawn at.types locals locals (λ x. ValueHas at.types type x) (body_meaning stage.around a d.state) d hd
    (body_typed at.types (λ x s. ValueHas at.types type x × StateHas at.types locals s) (meaning stage.around a d.state) (expression_sound at stage.around locals type a d.state has h hd).1)

-- a test
pub truth_drawn : (at : Surroundings) (locals : List CsType) (a : Code) (stage : Stage) (d : Drawing) → SettingHas at stage.around → CodeHas at locals t.Bool a → DrawingHas at.types locals d → DrawnFits (λ x d1. DrawingHas at.types locals d1) (truth a stage d)
truth_drawn at locals a stage d has h hd =
    then_drawn (ValueDrawn at.types locals t.Bool) (λ x d1. DrawingHas at.types locals d1) (code_value a stage d) (λ x. known (truth_of x)) (code_drawn at locals t.Bool a stage d has h hd)
    (λ x d1 k. let b = is_bool at.types t.Bool x k.0 refl in subst (λ z. DrawnFits (λ y d2. DrawingHas at.types locals d2) (known (truth_of z) d1)) (sym b.1) k.1)
