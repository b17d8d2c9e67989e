-- Code that can run is never stuck, and can run again.
use Rattle.std.proofs.Common.{◌≡◌, ℕ, zero, suc, ◌-◌, ◌<◌, ◌≤◌, List, [], ◌∷◌, length, Option, Some, None, option_map, option_and_then, arith, refl, sym, ◌∙◌, ap, subst}
use Rattle.std.specs.Prelude.{All, ℤ, slice_get, Err}
use Rattle.std.specs.Coded.{Unit-prop}
use Rattle.std.proofs.Math.Logic.{∥∥₁_elim, ∥∥₁_map}
use Rattle.std.proofs.lemmas.List.{length-map}
use Rattle.cs_ast.specs.declared.value.Value.{Value}
use Rattle.cs_ast.specs.declared.value.Value.TheVariants.{Int}
use Rattle.cs_ast.specs.declared.code.Code.{Code}
use Rattle.hub_messages.specs.declared.outcome.CircuitFault.{CircuitFault}
use Rattle.cs_meaning.specs.declared.fault.Fault.{Fault}
use Rattle.cs_meaning.specs.declared.fault.Fault.TheVariants as code
use Rattle.cs_eval.specs.Run.{Means}
use Rattle.cs_meaning.specs.State.{Fields, State, state}
use Rattle.cs_meaning.specs.Outcome.{Outcome, gives, breaks, continues, returns, faults, stuck, IsDefined}
use Rattle.cs_meaning.specs.Meaning.{setting}
use Rattle.cs_meaning.specs.FirstForms.{IsStatement, HasNumbers}
use Rattle.cs_meaning.proofs.FirstFormLemmas.{never_stuck, still_numbers}
use Rattle.first_click.specs.declared.component.Field.{Field}
use Rattle.first_click.specs.declared.component.Method.{Method}
use Rattle.plain_page.specs.Runnable.{IsNumeric}
use Rattle.plain_page.specs.Present.{fields_of, no_parameters}
use Rattle.plain_page.specs.Running.{circuit_fault, body_at, code_at, meaning_over, Leaves, CanRun}
use Rattle.plain_page.proofs.SoundLemmas.{then_some, map_some}

-- what holds of all holds of one
all_at : {X : Type 0} (P : X → Type 0) (xs : List X) (i : ℕ) (x : X) → All P xs → slice_get xs i ≡ Some x → P x
all_at P [] i x h e = absurd (cc)
all_at P (y ∷ ys) zero x h e = let same : y ≡ x = cc in subst P same (h 0 y (omega arith))
all_at P (y ∷ ys) (suc i) x h e = all_at P ys i x (λ k d within. h (suc k) d (omega arith)) e

within_some : {X : Type 0} (xs : List X) (i : ℕ) → i < length xs → (x : X) × (slice_get xs i ≡ Some x)
within_some [] i within = absurd (omega arith)
within_some (x ∷ xs) zero within = (x, refl)
within_some (x ∷ xs) (suc i) within = within_some xs i (omega arith)

abbrev value_at : List Field → ℕ → Option Value
value_at fields at = option_map (λ (field : Field). field.value) (slice_get fields at)

-- numbers are found
has_numbers : (fields : List Field) → All IsNumeric fields → (at : ℕ) → at < length fields → (n : ℤ) × (value_at fields at ≡ Some (Int n))
has_numbers fields numbers at within =
    let found = within_some fields at within in
    let number = all_at IsNumeric fields at found.0 numbers found.1 in
    (number.0, ap (option_map (λ (field : Field). field.value)) found.1 ∙ ap Some number.1)

-- what is found at each place are numbers
numbers_found : (fields : List Field) → ((at : ℕ) → at < length fields → (n : ℤ) × (value_at fields at ≡ Some (Int n))) → All IsNumeric fields
numbers_found [] found k d within = absurd (omega arith)
numbers_found (field ∷ fields) found zero d within =
    let first = found 0 (omega arith) in
    let same : field.value ≡ Int first.0 = some_is field.value (Int first.0) first.1 in
    (first.0, same)
  where
    some_is : (x y : Value) → Some x ≡ Some y → x ≡ y
    some_is x y e = cc
numbers_found (field ∷ fields) found (suc k) d within = numbers_found fields (λ at less. found (suc at) (omega arith)) k d (omega arith)

defined_prop : {A : Type 0} (outcome : Outcome A) → IsProp (IsDefined outcome)
defined_prop (gives x s) = Unit-prop
defined_prop (breaks s) = Unit-prop
defined_prop (continues s) = Unit-prop
defined_prop (returns x s) = Unit-prop
defined_prop (faults fault s) = Unit-prop
defined_prop stuck = λ x y. absurd x

-- the code of a handler is a statement
code_stands : (fields : List Field) (methods : List Method) (handlers : List ℕ) (handler : ℕ) (code : Code) → CanRun fields methods handlers →
    code_at methods handlers handler ≡ Some code → IsStatement (length fields) code
code_stands fields methods handlers handler code can e =
    let found = then_some (body_at methods) (slice_get handlers (handler - 1)) code e in
    let method = map_some (λ (method : Method). method.body) (slice_get methods found.0) code found.2 in
    subst (IsStatement (length fields)) method.2 (all_at (λ (method : Method). IsStatement (length fields) method.body) methods found.0 method.0 can.statements method.1)

-- it is never stuck
pub code_defined : (fields : List Field) (methods : List Method) (handlers : List ℕ) (handler : ℕ) (code : Code) → ∥ CanRun fields methods handlers ∥₁ →
    code_at methods handlers handler ≡ Some code → IsDefined (meaning_over fields code)
code_defined fields methods handlers handler code able e =
    ∥∥₁_elim able (defined_prop (meaning_over fields code))
    (λ can. never_stuck (setting 1 no_parameters [] 0) (length fields) code (state [] (fields_of fields) [] 1000000)
    (code_stands fields methods handlers handler code can e) (has_numbers fields can.numbers))

-- each handler has code
pub handler_has_code : (fields : List Field) (methods : List Method) (handlers : List ℕ) (handler : ℕ) → ∥ CanRun fields methods handlers ∥₁ →
    0 < handler → handler ≤ length handlers → code_at methods handlers handler ≡ None → ⊥
handler_has_code fields methods handlers handler able some known e =
    ∥∥₁_elim able (λ x y. absurd x)
    (λ can.
    let position = within_some handlers (handler - 1) (omega arith) in
    let less = all_at (λ position. position < length methods) handlers (handler - 1) position.0 can.handled position.1 in
    let method = within_some methods position.0 less in
    let is : code_at methods handlers handler ≡ Some method.0.body =
    ap (option_and_then (body_at methods)) position.1 ∙ ap (option_map (λ (method : Method). method.body)) method.1 in
    let wrong : None ≡ Some method.0.body = sym e ∙ is in
    absurd (cc))

-- behind code that came to its end all can run again
pub still_able : (fields others : List Field) (methods : List Method) (handlers : List ℕ) (handler : ℕ) (code : Code) (value : Value) (s : State) → ∥ CanRun fields methods handlers ∥₁ →
    code_at methods handlers handler ≡ Some code → meaning_over fields code ≡ gives value s → Leaves fields others s → ∥ CanRun others methods handlers ∥₁
still_able fields others methods handlers handler code value s able e means leaves =
    let same : length others ≡ length fields = sym (length-map others (λ (field : Field). field.name)) ∙ ap length leaves.names ∙ length-map fields (λ (field : Field). field.name) in
    ∥∥₁_map able
    (λ can.
    let numbers = still_numbers (setting 1 no_parameters [] 0) (length fields) code (state [] (fields_of fields) [] 1000000) value s
    (code_stands fields methods handlers handler code can e) (has_numbers fields can.numbers) means in
    let there : HasNumbers (fields_of others) 1 (length others) =
    subst (λ (n : ℕ). HasNumbers (fields_of others) 1 n) (sym same) (subst (λ (f : Fields). HasNumbers f 1 (length fields)) (sym leaves.values) numbers) in
    record {
      numbers = numbers_found others there;
      statements = subst (λ (n : ℕ). All (λ (method : Method). IsStatement n method.body) methods) (sym same) can.statements;
      handled = can.handled;
    })

-- what a run that met a fault means
pub means_fault : (met : Fault) (fault : CircuitFault) (locals : List Value) (fields : Fields) (left : ℕ) (outcome : Outcome Value) → circuit_fault met ≡ Some fault →
    Means (Err met) locals fields left outcome → (receivers : List ℕ) × (outcome ≡ faults met (state locals fields receivers left))
means_fault code.Oom fault locals fields left outcome e means = absurd (cc)
means_fault code.DivideByZero fault locals fields left outcome e means = means
means_fault code.Overflow fault locals fields left outcome e means = means
means_fault code.NullUse fault locals fields left outcome e means = means
means_fault code.IndexOutOfRange fault locals fields left outcome e means = means
means_fault code.FuelSpent fault locals fields left outcome e means = means
means_fault code.CallDepth fault locals fields left outcome e means = means
means_fault code.ValueTooLarge fault locals fields left outcome e means = means
