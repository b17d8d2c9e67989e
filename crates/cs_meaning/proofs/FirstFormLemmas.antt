-- Code of the first forms is never stuck, and leaves numbers in the fields.
use Rattle.std.proofs.Common.{◌≡◌, ℕ, ◌-◌, ◌<◌, List, [], ◌∷◌, map, Bool, true, false, IsTrue, ◌⊎◌, inl, inr, refl, sym, ap, subst, ◌∙◌}
use Rattle.std.specs.Prelude.{ℤ, pos, Option, Some, ◌==◌, ◌&&◌, if◌then◌else◌, is_some, nat_lt, length}
use Rattle.cs_ast.specs.declared.value.Value.{Value}
use Rattle.cs_ast.specs.declared.value.Value.TheVariants as v
use Rattle.cs_ast.specs.declared.code.Code.{Code}
use Rattle.cs_ast.specs.declared.code.Code.TheVariants as c
use Rattle.cs_ast.specs.declared.code.Variable.TheVariants as variable
use Rattle.cs_ast.specs.declared.operators.AssignOp.TheVariants as assign
use Rattle.cs_ast.specs.declared.operators.BinaryOp.{BinaryOp}
use Rattle.cs_ast.specs.declared.operators.BinaryOp.TheVariants as binary_op
use Rattle.cs_ast.specs.declared.operators.StepOp.{StepOp}
use Rattle.cs_ast.specs.declared.operators.StepOp.TheVariants as step_op
use Rattle.cs_meaning.specs.declared.fault.Fault.TheVariants.{FuelSpent}
use Rattle.cs_meaning.specs.State.{with_field, State, state, spent, cut}
use Rattle.cs_meaning.specs.Outcome.{Outcome, gives, faults, stuck, Meaning, and_then, in_state, charged, found, IsDefined}
use Rattle.cs_meaning.specs.Kinds.{number_of}
use Rattle.cs_meaning.specs.Operators.{of_numbers, of_values, operator_of}
use Rattle.cs_meaning.specs.Variables.{put, assigned, operator_in, stepped}
use Rattle.cs_meaning.specs.Scopes.{in_order, of_body}
use Rattle.cs_meaning.specs.Expressions.{two_operands, binary}
use Rattle.cs_meaning.specs.Statements.{performed, block}
use Rattle.cs_meaning.specs.Meaning.{Setting, meaning, body_meaning}
use Rattle.cs_meaning.specs.FirstForms.{joins_numbers, IsNumber, literal, field, joined, IsStatement, AreStatements, none, more, HasNumbers}
use Rattle.cs_meaning.specs.FirstForms as form
use Rattle.cs_meaning.proofs.Laws.{int_law, field_law, binary_law, assign_law, step_law, block_law, perform_law}
use Rattle.cs_meaning.proofs.RecursionLaws.{in_order_none, in_order_more}

-- a number, with nothing changed but the units; or no more fuel
abbrev pub GivesNumber : State → Outcome Value → Type 0
GivesNumber s outcome =
    ((n : ℤ) × (left : ℕ) × (outcome ≡ gives (v.Int n) (state s.locals s.fields s.receivers left))) ⊎ ((s1 : State) × (outcome ≡ faults FuelSpent s1))

-- null, with numbers in the fields; or no more fuel
abbrev pub KeepsNumbers : ℕ → ℕ → Outcome Value → Type 0
KeepsNumbers who count outcome =
    ((s1 : State) × (outcome ≡ gives v.Null s1) × HasNumbers s1.fields who count) ⊎ ((s1 : State) × (outcome ≡ faults FuelSpent s1))

either : (P : Outcome Value → Type 0) (b : Bool) (one other : Outcome Value) → P one → P other → P (if b then one else other)
either P true one other first second = first
either P false one other first second = second

-- what holds where the fuel is spent and where the unit is paid holds
behind_unit : (P : Outcome Value → Type 0) (s : State) (next : Meaning) → P (faults FuelSpent (spent s)) → ((left : ℕ) → P (next (state s.locals s.fields s.receivers left))) → P (charged 1 s next)
behind_unit P s next empty paid = either P (nat_lt s.left 1) (faults FuelSpent (spent s)) (next (state s.locals s.fields s.receivers (s.left - 1))) empty (paid (s.left - 1))

-- two numbers joined are a number
joined_number : (op : BinaryOp) → IsTrue (joins_numbers op) → (x y : ℤ) (s : State) → (n : ℤ) × (of_values op (v.Int x) (v.Int y) s ≡ gives (v.Int n) s)
joined_number binary_op.Add h x y s = (_, refl)
joined_number binary_op.Subtract h x y s = (_, refl)
joined_number binary_op.Multiply h x y s = (_, refl)
joined_number _ h x y s = absurd (cc)

both_evaluated : (op : BinaryOp) → IsTrue (joins_numbers op) → (a b : Meaning) (s : State) → binary op a b s ≡ two_operands a b (of_values op) s
both_evaluated binary_op.Add h a b s = refl
both_evaluated binary_op.Subtract h a b s = refl
both_evaluated binary_op.Multiply h a b s = refl
both_evaluated _ h a b s = absurd (cc)

binary_gives : (op : BinaryOp) → IsTrue (joins_numbers op) → (a b : Meaning) (s : State) → GivesNumber s (a s) → ((left : ℕ) → GivesNumber s (b (state s.locals s.fields s.receivers left))) → GivesNumber s (binary op a b s)
binary_gives op h a b s first second =
    let next : Value → State → Outcome Value = λ x s1. and_then (b s1) (λ y s2. of_values op x y s2) in
    subst (GivesNumber s) (sym (both_evaluated op h a b s))
    (elim first [
      | inr f ↦ inr (f.0, ap (λ o. and_then o next) f.1)
      | inl x ↦ elim (second x.1) [
        | inr f ↦ inr (f.0, ap (λ o. and_then o next) x.2 ∙ ap (λ o. and_then o (λ y s2. of_values op (v.Int x.0) y s2)) f.1)
        | inl y ↦
            let z : (n : ℤ) × (of_values op (v.Int x.0) (v.Int y.0) (state s.locals s.fields s.receivers y.1) ≡ gives (v.Int n) (state s.locals s.fields s.receivers y.1)) = joined_number op h x.0 y.0 _ in
            inl (z.0, y.1, ap (λ o. and_then o next) x.2 ∙ ap (λ o. and_then o (λ y s2. of_values op (v.Int x.0) y s2)) y.2 ∙ z.1)
      ]
    ])

-- a field that is set to a number stays a number, and so do the others
put_keeps : (who count at : ℕ) (n : ℤ) (s : State) → at < count → HasNumbers s.fields who count → KeepsNumbers who count (put who (variable.Field at) (v.Int n) s)
put_keeps who count at n s h has = inl (state s.locals (with_field s.fields who at (v.Int n)) s.receivers s.left, there, keeps)
  where
    there : put who (variable.Field at) (v.Int n) s ≡ gives v.Null (state s.locals (with_field s.fields who at (v.Int n)) s.receivers s.left)
    there = ap (λ o. if is_some o then gives v.Null (state s.locals (with_field s.fields who at (v.Int n)) s.receivers s.left) else stuck) (has at h).1

    chosen : (b : Bool) (o : Option Value) → ((m : ℤ) × (o ≡ Some (v.Int m))) → (m : ℤ) × ((if b then Some (v.Int n) else o) ≡ Some (v.Int m))
    chosen true o old = (n, refl)
    chosen false o old = old

    keeps : HasNumbers (with_field s.fields who at (v.Int n)) who count
    keeps at' h' = chosen (who == who && at' == at) (s.fields who at') (has at' h')

-- an assignment of what gives a number
assigned_keeps : (who count at : ℕ) (e : Meaning) (s : State) → at < count → HasNumbers s.fields who count → GivesNumber s (e s) → KeepsNumbers who count (assigned who (variable.Field at) (operator_in assign.Set) e s)
assigned_keeps who count at e s h has outcome =
    let next : Value → State → Outcome Value = λ x s1. put who (variable.Field at) x s1 in
    elim outcome [
      | inr f ↦ inr (f.0, ap (λ o. and_then o next) f.1)
      | inl x ↦ subst (KeepsNumbers who count) (sym (ap (λ o. and_then o next) x.2)) (put_keeps who count at x.0 (state s.locals s.fields s.receivers x.1) h has)
    ]

stepped_number : (op : StepOp) (x : ℤ) (s : State) → (n : ℤ) × (of_numbers (operator_of op) x (pos 1) s ≡ gives (v.Int n) s)
stepped_number step_op.Increment x s = (_, refl)
stepped_number step_op.Decrement x s = (_, refl)

stepped_keeps : (who count at : ℕ) (op : StepOp) (s : State) → at < count → HasNumbers s.fields who count → KeepsNumbers who count (stepped who (variable.Field at) op s)
stepped_keeps who count at op s h has =
    let old = has at h in
    let z : (n : ℤ) × (of_numbers (operator_of op) old.0 (pos 1) s ≡ gives (v.Int n) s) = stepped_number op old.0 s in
    let is : stepped who (variable.Field at) op s ≡ put who (variable.Field at) (v.Int z.0) s =
    ap (λ o. and_then (found o s) (λ x s1. and_then (found (number_of x) s1) (λ n s2. and_then (of_numbers (operator_of op) n (pos 1) s2) (λ y s3. put who (variable.Field at) y s3)))) old.1
    ∙ ap (λ o. and_then o (λ y s2. put who (variable.Field at) y s2)) z.1 in
    subst (KeepsNumbers who count) (sym is) (put_keeps who count at z.0 s h has)

performed_keeps : (who count : ℕ) (e : Meaning) (s : State) → KeepsNumbers who count (e s) → KeepsNumbers who count (performed e s)
performed_keeps who count e s outcome =
    let next : Value → State → Outcome Value = λ x s1. gives v.Null s1 in
    elim outcome [
      | inr f ↦ inr (f.0, ap (λ o. and_then o next) f.1)
      | inl x ↦ inl (x.0, ap (λ o. and_then o next) x.1, x.2)
    ]

block_keeps : (who count : ℕ) (statements : List Meaning) (s : State) → KeepsNumbers who count (in_order statements s) → KeepsNumbers who count (block statements s)
block_keeps who count statements s outcome =
    let change : State → State = cut (length s.locals) in
    elim outcome [
      | inr f ↦ inr (change f.0, ap (in_state change) f.1)
      | inl x ↦ inl (change x.0, ap (in_state change) x.1, x.2)
    ]

-- expressions of the first forms
pub gives_number : (around : Setting) (count : ℕ) (e : Code) → IsNumber count e → (s : State) → HasNumbers s.fields around.who count → GivesNumber s (meaning around e s)
gives_number around count e (literal n) s has =
    subst (GivesNumber s) (sym (int_law around n s))
    (behind_unit (GivesNumber s) s (λ s1. gives (v.Int n) s1) (inr (spent s, refl)) (λ left. inl (n, left, refl)))
gives_number around count e (field at h) s has =
    subst (GivesNumber s) (sym (field_law around at s))
    (behind_unit (GivesNumber s) s (λ s1. found (State.fields s1 around.who at) s1) (inr (spent s, refl))
    (λ left. inl ((has at h).0, left, ap (λ o. found o (state s.locals s.fields s.receivers left)) (has at h).1)))
gives_number around count e (joined op a b h is_a is_b) s has =
    subst (GivesNumber s) (sym (binary_law around op a b s))
    (behind_unit (GivesNumber s) s (λ s1. binary op (meaning around a) (meaning around b) s1) (inr (spent s, refl))
    (λ left. binary_gives op h (meaning around a) (meaning around b) (state s.locals s.fields s.receivers left) (gives_number around count a is_a (state s.locals s.fields s.receivers left) has) (λ less. gives_number around count b is_b (state s.locals s.fields s.receivers less) has)))

-- an assignment or a step behind the statement that it is
performs : (around : Setting) (count : ℕ) (e : Code) (s : State) → ((left : ℕ) → KeepsNumbers around.who count (meaning around e (state s.locals s.fields s.receivers left))) → KeepsNumbers around.who count (meaning around (c.Perform e) s)
performs around count e s by =
    subst (KeepsNumbers around.who count) (sym (perform_law around e s))
    (behind_unit (KeepsNumbers around.who count) s (λ s1. performed (meaning around e) s1) (inr (spent s, refl))
    (λ left. performed_keeps around.who count (meaning around e) (state s.locals s.fields s.receivers left) (by left)))

mutual
  -- statements of the first forms
  pub keeps_numbers : (around : Setting) (count : ℕ) (code : Code) → IsStatement count code → (s : State) → HasNumbers s.fields around.who count → KeepsNumbers around.who count (meaning around code s)
  keeps_numbers around count code (form.assigned at e h is) s has =
      performs around count (c.Assign (variable.Field at) assign.Set e) s (λ left. subst (KeepsNumbers around.who count) (sym (assign_law around (variable.Field at) assign.Set e (state s.locals s.fields s.receivers left))) (behind_unit (KeepsNumbers around.who count) (state s.locals s.fields s.receivers left) (λ s1. assigned around.who (variable.Field at) (operator_in assign.Set) (meaning around e) s1) (inr (spent (state s.locals s.fields s.receivers left), refl)) (λ less. assigned_keeps around.who count at (meaning around e) (state s.locals s.fields s.receivers less) h has (gives_number around count e is (state s.locals s.fields s.receivers less) has))))
  keeps_numbers around count code (form.stepped at op h) s has =
      performs around count (c.Step (variable.Field at) op) s (λ left. subst (KeepsNumbers around.who count) (sym (step_law around (variable.Field at) op (state s.locals s.fields s.receivers left))) (behind_unit (KeepsNumbers around.who count) (state s.locals s.fields s.receivers left) (λ s1. stepped around.who (variable.Field at) op s1) (inr (spent (state s.locals s.fields s.receivers left), refl)) (λ less. stepped_keeps around.who count at op (state s.locals s.fields s.receivers less) h has)))
  keeps_numbers around count code (form.block statements are) s has =
      subst (KeepsNumbers around.who count) (sym (block_law around statements s))
      (behind_unit (KeepsNumbers around.who count) s (λ s1. block (map (meaning around) statements) s1) (inr (spent s, refl))
      (λ left. block_keeps around.who count (map (meaning around) statements) (state s.locals s.fields s.receivers left) (all_keep around count statements are (state s.locals s.fields s.receivers left) has)))

  all_keep : (around : Setting) (count : ℕ) (statements : List Code) → AreStatements count statements → (s : State) → HasNumbers s.fields around.who count → KeepsNumbers around.who count (in_order (map (meaning around) statements) s)
  all_keep around count [] none s has = inl (s, in_order_none s, has)
  all_keep around count (one ∷ others) (more one' others' is are) s has =
      let next : Value → State → Outcome Value = λ x s1. in_order (map (meaning around) others) s1 in
      subst (KeepsNumbers around.who count) (sym (in_order_more (meaning around one) (map (meaning around) others) s))
      (elim (keeps_numbers around count one is s has) [
        | inr f ↦ inr (f.0, ap (λ o. and_then o next) f.1)
        | inl x ↦ subst (KeepsNumbers around.who count) (sym (ap (λ o. and_then o next) x.1)) (all_keep around count others are x.0 x.2)
      ])

-- a statement of the first forms is never stuck
pub never_stuck : (around : Setting) (count : ℕ) (code : Code) (s : State) → IsStatement count code → HasNumbers s.fields around.who count → IsDefined (body_meaning around code s)
never_stuck around count code s is has =
    elim (keeps_numbers around count code is s has) [ inl x ↦ subst IsDefined (sym (ap of_body x.1)) tt | inr f ↦ subst IsDefined (sym (ap of_body f.1)) tt ]

-- and leaves numbers in the fields
pub still_numbers : (around : Setting) (count : ℕ) (code : Code) (s : State) (x : Value) (s1 : State) → IsStatement count code → HasNumbers s.fields around.who count → body_meaning around code s ≡ gives x s1 → HasNumbers s1.fields around.who count
still_numbers around count code s x s1 is has e =
    elim (keeps_numbers around count code is s has) [
      | inl y ↦ let there : gives v.Null y.0 ≡ gives x s1 = sym (ap of_body y.1) ∙ e in let same : y.0 ≡ s1 = cc in subst (λ (t : State). HasNumbers t.fields around.who count) same y.2
      | inr f ↦ let there : faults FuelSpent f.0 ≡ gives x s1 = sym (ap of_body f.1) ∙ e in absurd (cc)
    ]
