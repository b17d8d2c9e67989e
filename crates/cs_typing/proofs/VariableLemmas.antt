-- Assignments keep to the types.
use Rattle.std.proofs.Common.{◌≡◌, ℕ, List, length, refl, sym, ap, subst, ◌∙◌, arith}
use Rattle.std.proofs.lemmas.Bool.{lt-ltb, eqb-true}
use Rattle.std.proofs.lemmas.Option.{slice_get_within}
use Rattle.std.specs.Prelude.{ℤ, pos, nat_lt, ◌==◌, ◌&&◌, is_some, if◌then◌else◌, codes, slice_get, slice_set, option_map, Option, Some, None, true, false}
use Rattle.std.specs.Prelude.{Bool as Truth}
use Rattle.std.specs.Str.{bytes_eq}
use Rattle.text_core.specs.Decimal.{i32_of}
use Rattle.cs_ast.specs.declared.cs_type.CsType.{CsType}
use Rattle.cs_ast.specs.declared.cs_type.CsType.TheVariants as t
use Rattle.cs_ast.specs.declared.value.Value.{Value}
use Rattle.cs_ast.specs.declared.value.Value.TheVariants as v
use Rattle.cs_ast.specs.declared.code.BindKind.{BindKind}
use Rattle.cs_ast.specs.declared.code.Variable.{Variable}
use Rattle.cs_ast.specs.declared.code.Variable.TheVariants as variable
use Rattle.cs_ast.specs.declared.operators.AssignOp.{AssignOp}
use Rattle.cs_ast.specs.declared.operators.BinaryOp.{BinaryOp}
use Rattle.cs_ast.specs.declared.operators.StepOp.{StepOp}
use Rattle.cs_ast.specs.declared.operators.StepOp.TheVariants as step_op
use Rattle.cs_meaning.specs.State.{Fields, with_field, State, state, over}
use Rattle.cs_meaning.specs.Outcome.{stuck, Meaning, and_then, found}
use Rattle.cs_meaning.specs.Kinds.{number_of, string_of}
use Rattle.cs_meaning.specs.Operators.{of_numbers, of_values, operator_of}
use Rattle.cs_meaning.specs.Scopes.{nothing}
use Rattle.cs_meaning.specs.Variables.{value_at, put, operator_in, assigned, stepped, readable, put_if_there, bound}
use Rattle.cs_typing.specs.Values.{ValueHas, ValuesHave}
use Rattle.cs_typing.specs.Values as has
use Rattle.cs_typing.specs.Operators.{IsArithmetic, Combines, AssignTakes, Binds}
use Rattle.cs_typing.specs.Operators as op
use Rattle.cs_typing.specs.Expressions.{Surroundings, VariableHas}
use Rattle.cs_typing.specs.Expressions as code
use Rattle.cs_typing.specs.States.{HasValue, FieldsHave, StateHas}
use Rattle.cs_typing.specs.Outcomes.{Fits, no_jump, Typed, Gives}
use Rattle.cs_typing.proofs.ValueKinds.{is_int, is_change}
use Rattle.cs_typing.proofs.ValueLists.{as_many, value_in, value_set}
use Rattle.cs_typing.proofs.Fitting.{then_fits}
use Rattle.cs_typing.proofs.Reading.{found_fits, one_fits}
use Rattle.cs_typing.proofs.OperatorLemmas.{arithmetic_fits, values_fit}

-- numbers that pass the test are the same
same_number : (m n : ℕ) → (m == n) ≡ true → m ≡ n
same_number m n e = eqb-true m n e

-- both tests are passed
both_pass : (a b : Truth) → (a && b) ≡ true → (a ≡ true) × (b ≡ true)
both_pass true true e = (refl, refl)
both_pass true false e = absurd (cc)
both_pass false b e = absurd (cc)

module _ (place : Surroundings) (locals : List CsType) (who : ℕ) (there : place.types.instances who ≡ Some place.component) where
  -- the fields with one of them changed
  changed_fields : (fields : Fields) (at : ℕ) (type : CsType) (x : Value) → FieldsHave place.types place.types.fields fields → place.types.fields place.component at ≡ Some type → ValueHas place.types type x → FieldsHave place.types place.types.fields (with_field fields who at x)
  changed_fields fields at type x have declared h who' component' at' type' there' declared' = by (who' == who && at' == at) refl
    where
      by : (d : Truth) → (who' == who && at' == at) ≡ d → HasValue place.types type' (if d then Some x else fields who' at')
      by false e = have who' component' at' type' there' declared'
      by true e =
          let tests = both_pass (who' == who) (at' == at) e in
          let same_who = same_number who' who tests.0 in
          let same_at = same_number at' at tests.1 in
          let same_component : Some component' ≡ Some place.component = sym there' ∙ ap place.types.instances same_who ∙ there in
          let components : component' ≡ place.component = cc in
          let same_type : Some type ≡ Some type' = sym declared ∙ ap (λ n. place.types.fields place.component n) (sym same_at) ∙ ap (λ n. place.types.fields n at') (sym components) ∙ declared' in
          let equal : type ≡ type' = cc in
          (x, refl, subst (λ z. ValueHas place.types z x) equal h)

  -- what a variable holds
  held : (type : CsType) (target : Variable) (s : State) → VariableHas place locals type target → StateHas place.types locals s → HasValue place.types type (value_at who target s)
  held type target s (code.field _ number e) hs = hs.1.0 who place.component number type there e
  held type target s (code.local _ number e) hs = value_in place.types locals s.locals number type hs.0 e

  put_fits : (type : CsType) (target : Variable) (x : Value) (s : State) → VariableHas place locals type target → ValueHas place.types type x → StateHas place.types locals s → Fits (no_jump place.types) (Typed place.types locals t.Nothing) (put who target x s)
  put_fits type target x s (code.field _ number e) h hs =
      let old = hs.1.0 who place.component number type there e in
      subst (λ o. Fits (no_jump place.types) (Typed place.types locals t.Nothing) (if is_some o then nothing (state s.locals (with_field s.fields who number x) s.receivers s.left) else stuck)) (sym old.1)
      (has.anything v.Null, (hs.0, (changed_fields s.fields number type x hs.1.0 e h, hs.1.1)))
  put_fits type target x s (code.local _ number e) h hs =
      let below : nat_lt number (length s.locals) ≡ true = lt-ltb number (length s.locals) (omega (arith, slice_get_within locals number type e, as_many place.types locals s.locals hs.0)) in
      subst (λ d. Fits (no_jump place.types) (Typed place.types locals t.Nothing) (if d then nothing (over (slice_set s.locals number x) s) else stuck)) (sym below)
      (has.anything v.Null, (value_set place.types locals s.locals number type x hs.0 e h, hs.1))

  set_gives : (type : CsType) (target : Variable) (e : Meaning) → VariableHas place locals type target → Gives place.types locals type e → Gives place.types locals t.Nothing (assigned who target None e)
  set_gives type target e h g s hs = one_fits place.types locals type (Typed place.types locals t.Nothing) e (λ x s1. put who target x s1) s g hs (λ x s1 hx hs1. put_fits type target x s1 h hx hs1)

  changed_gives : (o : BinaryOp) (type value : CsType) (target : Variable) (e : Meaning) → VariableHas place locals type target → Combines o type value type → Gives place.types locals value e → Gives place.types locals t.Nothing (assigned who target (Some o) e)
  changed_gives o type value target e h takes g s hs =
      one_fits place.types locals type (Typed place.types locals t.Nothing) (λ s0. found (value_at who target s0) s0) (λ old s1. and_then (e s1) (λ x s2. and_then (of_values o old x s2) (λ y s3. put who target y s3))) s
      (λ s0 hs0. found_fits place.types locals type (value_at who target s0) s0 (held type target s0 h hs0) hs0) hs
      (λ old s1 hold hs1. one_fits place.types locals value (Typed place.types locals t.Nothing) e (λ x s2. and_then (of_values o old x s2) (λ y s3. put who target y s3)) s1 g hs1
      (λ x s2 hx hs2. then_fits (no_jump place.types) (Typed place.types locals type) (Typed place.types locals t.Nothing) (of_values o old x s2) (λ y s3. put who target y s3) (values_fit place.types locals o type value type old x s2 takes hold hx hs2)
      (λ y s3 k. put_fits type target y s3 h k.0 k.1)))

  pub assign_gives : (op : AssignOp) (type value : CsType) (target : Variable) (e : Meaning) → VariableHas place locals type target → AssignTakes op type value → Gives place.types locals value e → Gives place.types locals t.Nothing (assigned who target (operator_in op) e)
  assign_gives o type value target e h (op.set _) g = set_gives type target e h g
  assign_gives o type value target e h (op.changed _ by _ _ is takes) g = subst (λ z. Gives place.types locals t.Nothing (assigned who target z e)) (sym is) (changed_gives by type value target e h takes g)

  steps : (o : StepOp) → IsArithmetic (operator_of o)
  steps step_op.Increment = op.add
  steps step_op.Decrement = op.subtract

  pub step_gives : (o : StepOp) (target : Variable) → VariableHas place locals t.Int target → Gives place.types locals t.Nothing (stepped who target o)
  step_gives o target h s hs =
      one_fits place.types locals t.Int (Typed place.types locals t.Nothing) (λ s0. found (value_at who target s0) s0) (λ x s1. and_then (found (number_of x) s1) (λ n s2. and_then (of_numbers (operator_of o) n (pos 1) s2) (λ y s3. put who target y s3))) s
      (λ s0 hs0. found_fits place.types locals t.Int (value_at who target s0) s0 (held t.Int target s0 h hs0) hs0) hs
      (λ x s1 hx hs1. let n = is_int place.types t.Int x hx refl in
      subst (λ z. Fits (no_jump place.types) (Typed place.types locals t.Nothing) (and_then (found (number_of z) s1) (λ m s2. and_then (of_numbers (operator_of o) m (pos 1) s2) (λ y s3. put who target y s3)))) (sym n.1)
      (then_fits (no_jump place.types) (Typed place.types locals t.Int) (Typed place.types locals t.Nothing) (of_numbers (operator_of o) n.0 (pos 1) s1) (λ y s3. put who target y s3) (arithmetic_fits place.types locals (operator_of o) n.0 (pos 1) s1 (steps o) hs1)
      (λ y s3 k. put_fits t.Int target y s3 h k.0 k.1)))

  -- what a bound field takes
  taken_fits : (type : CsType) (number : ℕ) (o : Option Value) (s : State) → place.types.fields place.component number ≡ Some type → ((x : Value) → o ≡ Some x → ValueHas place.types type x) → StateHas place.types locals s → Fits (no_jump place.types) (Typed place.types locals t.Nothing) (put_if_there who number o s)
  taken_fits type number None s e h hs = (has.anything v.Null, hs)
  taken_fits type number (Some x) s e h hs = put_fits type (variable.Field number) x s (code.field type number e) (h x refl) hs

  number_read : (o : Option ℤ) (x : Value) → option_map (λ n. v.Int n) o ≡ Some x → ValueHas place.types t.Int x
  number_read (Some n) x e = let same : v.Int n ≡ x = cc in subst (λ z. ValueHas place.types t.Int z) same (has.int n)
  number_read None x e = absurd (cc)

  -- a truth, or one that later tests give
  truth_read : (d b : Truth) (rest : Option Value) (x : Value) → ((rest ≡ Some x) → ValueHas place.types t.Bool x) → (if d then Some (v.Bool b) else rest) ≡ Some x → ValueHas place.types t.Bool x
  truth_read true b rest x h e = let same : v.Bool b ≡ x = cc in subst (λ z. ValueHas place.types t.Bool z) same (has.bool b)
  truth_read false b rest x h e = h e

  read_has : (kind : BindKind) (type : CsType) (text : List ℕ) (x : Value) → Binds kind type → readable kind text ≡ Some x → ValueHas place.types type x
  read_has kind type text x op.int e = number_read (i32_of text) x e
  read_has kind type text x op.bool e =
      truth_read (bytes_eq text (codes "true")) true _ x
      (truth_read (bytes_eq text (codes "True")) true _ x
      (truth_read (bytes_eq text (codes "false")) false _ x
      (truth_read (bytes_eq text (codes "False")) false None x (λ n. absurd (cc))))) e
  read_has kind type text x op.text e = let same : v.Text text ≡ x = cc in subst (λ z. ValueHas place.types t.Text z) same (has.text text)

  pub bind_gives : (kind : BindKind) (number : ℕ) (type : CsType) → slice_get locals 0 ≡ Some t.Change → place.types.fields place.component number ≡ Some type → Binds kind type → Gives place.types locals t.Nothing (bound who number kind)
  bind_gives kind number type first e binds s hs =
      one_fits place.types locals t.Change (Typed place.types locals t.Nothing) (λ s0. found (slice_get s0.locals 0) s0) (λ x s1. and_then (found (string_of x) s1) (λ text s2. put_if_there who number (readable kind text) s2)) s
      (λ s0 hs0. found_fits place.types locals t.Change (slice_get s0.locals 0) s0 (value_in place.types locals s0.locals 0 t.Change hs0.0 first) hs0) hs
      (λ x s1 hx hs1. let y = is_change place.types t.Change x hx refl in
      subst (λ z. Fits (no_jump place.types) (Typed place.types locals t.Nothing) (and_then (found (string_of z) s1) (λ text s2. put_if_there who number (readable kind text) s2))) (sym y.1)
      (taken_fits type number (readable kind y.0) s1 e (λ z f. read_has kind type y.0 z binds f) hs1))
