-- Operators over values with types keep to the types.
use Rattle.std.proofs.Common.{◌≡◌, ℕ, List, [], ◌++◌, refl, sym, ap, subst, ◌∙◌, inl, inr}
use Rattle.std.specs.Prelude.{ℤ, pos, negsuc, ◌-ℤ◌, ◌-◌, ◌^◌, ◌&&◌, ◌||◌, if◌then◌else◌, Some, true, false, int_div, int_rem}
use Rattle.std.specs.Prelude.{Bool as Truth}
use Rattle.std.specs.Int.{int_wrap, w32}
use Rattle.std.specs.Ordering.{int_eq}
use Rattle.cs_ast.specs.Texts.{text_of}
use Rattle.cs_ast.specs.declared.cs_type.CsType.{CsType}
use Rattle.cs_ast.specs.declared.cs_type.CsType.TheVariants as t
use Rattle.cs_ast.specs.declared.value.Value.{Value}
use Rattle.cs_ast.specs.declared.value.Value.TheVariants as v
use Rattle.cs_ast.specs.declared.operators.BinaryOp.{BinaryOp}
use Rattle.cs_ast.specs.declared.operators.BinaryOp.TheVariants as binary_op
use Rattle.cs_ast.specs.declared.operators.CastOp.{CastOp}
use Rattle.cs_ast.specs.declared.operators.UnaryOp.{UnaryOp}
use Rattle.cs_meaning.specs.declared.fault.Fault.TheVariants.{DivideByZero, Overflow}
use Rattle.cs_meaning.specs.State.{State}
use Rattle.cs_meaning.specs.Outcome.{Outcome, gives, faults, stuck, Meaning, chosen, and_then, found}
use Rattle.cs_meaning.specs.Kinds.{truth_of, number_of, is_null}
use Rattle.cs_meaning.specs.Equality.{is_same}
use Rattle.cs_meaning.specs.NewValues.{new_text, appended}
use Rattle.cs_meaning.specs.Operators.{divided, of_numbers, between_numbers, may_be_text, added, of_values, of_value, cast}
use Rattle.cs_meaning.specs.Expressions.{one_operand, two_operands, truthful, binary, conditional}
use Rattle.cs_typing.specs.Types.{Types}
use Rattle.cs_typing.specs.Values.{ValueHas}
use Rattle.cs_typing.specs.Values as has
use Rattle.cs_typing.specs.Operators.{Shows, UnaryTakes, IsArithmetic, IsOrder, Combines, BinaryTakes}
use Rattle.cs_typing.specs.Operators as op
use Rattle.cs_typing.specs.States.{StateHas}
use Rattle.cs_typing.specs.Outcomes.{Fits, no_jump, Typed, Gives}
use Rattle.cs_typing.proofs.ValueKinds.{is_int, is_bool, is_text}
use Rattle.cs_typing.proofs.Fitting.{either_fits}
use Rattle.cs_typing.proofs.Reading.{made_fits, one_fits, two_fit}

or_true : (b : Truth) → (b || true) ≡ true
or_true true = refl
or_true false = refl

module _ (types : Types) (locals : List CsType) where
  -- what holds of a number, and of a truth
  divided_fits : (x y result : ℤ) (s : State) → StateHas types locals s → Fits (no_jump types) (Typed types locals t.Int) (divided x y result s)
  divided_fits x y result s hs =
      either_fits (no_jump types) (Typed types locals t.Int) (int_eq y (pos 0)) (faults DivideByZero s) (if int_eq x (negsuc (2 ^ 31 - 1)) && int_eq y (negsuc 0) then faults Overflow s else gives (v.Int result) s) hs.1
      (either_fits (no_jump types) (Typed types locals t.Int) (int_eq x (negsuc (2 ^ 31 - 1)) && int_eq y (negsuc 0)) (faults Overflow s) (gives (v.Int result) s) hs.1 (has.int result, hs))

  pub arithmetic_fits : (o : BinaryOp) (x y : ℤ) (s : State) → IsArithmetic o → StateHas types locals s → Fits (no_jump types) (Typed types locals t.Int) (of_numbers o x y s)
  arithmetic_fits o x y s op.add hs = (has.int _, hs)
  arithmetic_fits o x y s op.subtract hs = (has.int _, hs)
  arithmetic_fits o x y s op.multiply hs = (has.int _, hs)
  arithmetic_fits o x y s op.divide hs = divided_fits x y (int_div x y) s hs
  arithmetic_fits o x y s op.remainder hs = divided_fits x y (int_rem x y) s hs

  order_fits : (o : BinaryOp) (x y : ℤ) (s : State) → IsOrder o → StateHas types locals s → Fits (no_jump types) (Typed types locals t.Bool) (of_numbers o x y s)
  order_fits o x y s op.less hs = (has.bool _, hs)
  order_fits o x y s op.greater hs = (has.bool _, hs)
  order_fits o x y s op.less_or_equal hs = (has.bool _, hs)
  order_fits o x y s op.greater_or_equal hs = (has.bool _, hs)

  -- between the numbers that two values are
  arithmetic_values : (o : BinaryOp) (x y : ℤ) (s : State) → IsArithmetic o → of_values o (v.Int x) (v.Int y) s ≡ of_numbers o x y s
  arithmetic_values o x y s op.add = refl
  arithmetic_values o x y s op.subtract = refl
  arithmetic_values o x y s op.multiply = refl
  arithmetic_values o x y s op.divide = refl
  arithmetic_values o x y s op.remainder = refl

  order_values : (o : BinaryOp) (x y : ℤ) (s : State) → IsOrder o → of_values o (v.Int x) (v.Int y) s ≡ of_numbers o x y s
  order_values o x y s op.less = refl
  order_values o x y s op.greater = refl
  order_values o x y s op.less_or_equal = refl
  order_values o x y s op.greater_or_equal = refl

  -- a text that a value shows
  pub shown : (type : CsType) (x : Value) → Shows type → ValueHas types type x → (y : List ℕ) × (text_of x ≡ Some y)
  shown type x op.int h = let n = is_int types t.Int x h refl in (_, ap text_of n.1)
  shown type x op.bool h = let b = is_bool types t.Bool x h refl in by b.0 b.1
    where
      by : (b : Truth) → x ≡ v.Bool b → (y : List ℕ) × (text_of x ≡ Some y)
      by true e = (_, ap text_of e)
      by false e = (_, ap text_of e)
  shown type x op.text h = elim (is_text types t.Text x h refl) [ inl e ↦ ([], ap text_of e) | inr y ↦ (y.0, ap text_of y.1) ]

  text_may_be : (x : Value) → ValueHas types t.Text x → may_be_text x ≡ true
  text_may_be x h = elim (is_text types t.Text x h refl) [ inl e ↦ ap may_be_text e | inr y ↦ ap may_be_text y.1 ]

  -- values joined as texts
  joined_fits : (x y : Value) (a b : List ℕ) (s : State) → (may_be_text x || may_be_text y) ≡ true → text_of x ≡ Some a → text_of y ≡ Some b → StateHas types locals s → Fits (no_jump types) (Typed types locals t.Text) (added x y s)
  joined_fits x y a b s e e1 e2 hs =
      subst (λ d. Fits (no_jump types) (Typed types locals t.Text) (if d then new_text (appended (text_of x) (text_of y)) s else between_numbers binary_op.Add (number_of x) (number_of y) s)) (sym e)
      (subst (λ z. Fits (no_jump types) (Typed types locals t.Text) (new_text (appended z (text_of y)) s)) (sym e1)
      (subst (λ z. Fits (no_jump types) (Typed types locals t.Text) (new_text (appended (Some a) z) s)) (sym e2) (made_fits types locals t.Text (v.Text (a ++ b)) s (has.text (a ++ b)) hs)))

  text_first_fits : (type : CsType) (x y : Value) (s : State) → Shows type → ValueHas types t.Text x → ValueHas types type y → StateHas types locals s → Fits (no_jump types) (Typed types locals t.Text) (added x y s)
  text_first_fits type x y s show h g hs =
      let a = shown t.Text x op.text h in
      let b = shown type y show g in
      joined_fits x y a.0 b.0 s (ap (λ d. d || may_be_text y) (text_may_be x h)) a.1 b.1 hs

  text_second_fits : (type : CsType) (x y : Value) (s : State) → Shows type → ValueHas types type x → ValueHas types t.Text y → StateHas types locals s → Fits (no_jump types) (Typed types locals t.Text) (added x y s)
  text_second_fits type x y s show h g hs =
      let a = shown type x show h in
      let b = shown t.Text y op.text g in
      joined_fits x y a.0 b.0 s (ap (λ d. may_be_text x || d) (text_may_be y g) ∙ or_true (may_be_text x)) a.1 b.1 hs

  -- operators between two values
  pub values_fit : (o : BinaryOp) (one other type : CsType) (x y : Value) (s : State) → Combines o one other type → ValueHas types one x → ValueHas types other y → StateHas types locals s → Fits (no_jump types) (Typed types locals type) (of_values o x y s)
  values_fit o one other type x y s (op.arithmetic _ i) h g hs =
      let m = is_int types t.Int x h refl in
      let n = is_int types t.Int y g refl in
      subst (λ z. Fits (no_jump types) (Typed types locals t.Int) (of_values o z y s)) (sym m.1)
      (subst (λ z. Fits (no_jump types) (Typed types locals t.Int) (of_values o (v.Int m.0) z s)) (sym n.1)
      (subst (Fits (no_jump types) (Typed types locals t.Int)) (sym (arithmetic_values o m.0 n.0 s i)) (arithmetic_fits o m.0 n.0 s i hs)))
  values_fit o one other type x y s (op.ordering _ i) h g hs =
      let m = is_int types t.Int x h refl in
      let n = is_int types t.Int y g refl in
      subst (λ z. Fits (no_jump types) (Typed types locals t.Bool) (of_values o z y s)) (sym m.1)
      (subst (λ z. Fits (no_jump types) (Typed types locals t.Bool) (of_values o (v.Int m.0) z s)) (sym n.1)
      (subst (Fits (no_jump types) (Typed types locals t.Bool)) (sym (order_values o m.0 n.0 s i)) (order_fits o m.0 n.0 s i hs)))
  values_fit o one other type x y s (op.equal _ _) h g hs = (has.bool (is_same x y), hs)
  values_fit o one other type x y s (op.not_equal _ _) h g hs = (has.bool _, hs)
  values_fit o one other type x y s (op.text_first _ show) h g hs = text_first_fits other x y s show h g hs
  values_fit o one other type x y s (op.text_second _ show) h g hs = text_second_fits one x y s show h g hs

  -- a truth
  pub truth_fits : (P : Value → State → Type 0) (x : Value) (one other : Outcome Value) → ValueHas types t.Bool x → Fits (no_jump types) P one → Fits (no_jump types) P other → Fits (no_jump types) P (chosen (truth_of x) one other)
  truth_fits P x one other h f g = let b = is_bool types t.Bool x h refl in subst (λ z. Fits (no_jump types) P (chosen (truth_of z) one other)) (sym b.1) (either_fits (no_jump types) P b.0 one other f g)

  -- two operands
  combined_gives : (o : BinaryOp) (one other type : CsType) (a b : Meaning) → Combines o one other type → Gives types locals one a → Gives types locals other b → Gives types locals type (two_operands a b (of_values o))
  combined_gives o one other type a b takes h g s hs = two_fit types locals one other (Typed types locals type) a b (of_values o) s h g hs (λ x y s1 hx hy hs1. values_fit o one other type x y s1 takes hx hy hs1)

  truthful_gives : (a : Meaning) → Gives types locals t.Bool a → Gives types locals t.Bool (truthful a)
  truthful_gives a h s hs =
      one_fits types locals t.Bool (Typed types locals t.Bool) a (λ x s1. and_then (found (truth_of x) s1) (λ b s2. gives (v.Bool b) s2)) s h hs
      (λ x s1 hx hs1. let b = is_bool types t.Bool x hx refl in subst (λ z. Fits (no_jump types) (Typed types locals t.Bool) (and_then (found (truth_of z) s1) (λ d s2. gives (v.Bool d) s2))) (sym b.1) (has.bool b.0, hs1))

  -- the meaning of an operator that evaluates both operands
  evaluates_both : (o : BinaryOp) (one other type : CsType) (a b : Meaning) (s : State) → Combines o one other type → binary o a b s ≡ two_operands a b (of_values o) s
  evaluates_both o one other type a b s (op.arithmetic _ op.add) = refl
  evaluates_both o one other type a b s (op.arithmetic _ op.subtract) = refl
  evaluates_both o one other type a b s (op.arithmetic _ op.multiply) = refl
  evaluates_both o one other type a b s (op.arithmetic _ op.divide) = refl
  evaluates_both o one other type a b s (op.arithmetic _ op.remainder) = refl
  evaluates_both o one other type a b s (op.ordering _ op.less) = refl
  evaluates_both o one other type a b s (op.ordering _ op.greater) = refl
  evaluates_both o one other type a b s (op.ordering _ op.less_or_equal) = refl
  evaluates_both o one other type a b s (op.ordering _ op.greater_or_equal) = refl
  evaluates_both o one other type a b s (op.equal _ _) = refl
  evaluates_both o one other type a b s (op.not_equal _ _) = refl
  evaluates_both o one other type a b s (op.text_first _ _) = refl
  evaluates_both o one other type a b s (op.text_second _ _) = refl

  -- operators between operands
  pub binary_gives : (o : BinaryOp) (one other type : CsType) (a b : Meaning) → BinaryTakes o one other type → Gives types locals one a → Gives types locals other b → Gives types locals type (binary o a b)
  binary_gives o one other type a b (op.combined _ _ _ _ takes) h g s hs =
      subst (Fits (no_jump types) (Typed types locals type)) (sym (evaluates_both o one other type a b s takes)) (combined_gives o one other type a b takes h g s hs)
  binary_gives o one other type a b op.both h g s hs =
      one_fits types locals t.Bool (Typed types locals t.Bool) a (λ x s1. chosen (truth_of x) (truthful b s1) (gives (v.Bool false) s1)) s h hs
      (λ x s1 hx hs1. truth_fits (Typed types locals t.Bool) x (truthful b s1) (gives (v.Bool false) s1) hx (truthful_gives b g s1 hs1) (has.bool false, hs1))
  binary_gives o one other type a b op.either h g s hs =
      one_fits types locals t.Bool (Typed types locals t.Bool) a (λ x s1. chosen (truth_of x) (gives (v.Bool true) s1) (truthful b s1)) s h hs
      (λ x s1 hx hs1. truth_fits (Typed types locals t.Bool) x (gives (v.Bool true) s1) (truthful b s1) hx (has.bool true, hs1) (truthful_gives b g s1 hs1))
  binary_gives o one other type a b (op.coalesce _) h g s hs =
      one_fits types locals one (Typed types locals one) a (λ x s1. if is_null x then b s1 else gives x s1) s h hs
      (λ x s1 hx hs1. either_fits (no_jump types) (Typed types locals one) (is_null x) (b s1) (gives x s1) (g s1 hs1) (hx, hs1))

  pub conditional_gives : (type : CsType) (a b d : Meaning) → Gives types locals t.Bool a → Gives types locals type b → Gives types locals type d → Gives types locals type (conditional a b d)
  conditional_gives type a b d h g k s hs =
      one_fits types locals t.Bool (Typed types locals type) a (λ x s1. chosen (truth_of x) (b s1) (d s1)) s h hs
      (λ x s1 hx hs1. truth_fits (Typed types locals type) x (b s1) (d s1) hx (g s1 hs1) (k s1 hs1))

  -- an operator before its operand
  unary_fits : (o : UnaryOp) (one type : CsType) (x : Value) (s : State) → UnaryTakes o one type → ValueHas types one x → StateHas types locals s → Fits (no_jump types) (Typed types locals type) (of_value o x s)
  unary_fits o one type x s op.minus h hs = let n = is_int types t.Int x h refl in subst (λ z. Fits (no_jump types) (Typed types locals t.Int) (of_value o z s)) (sym n.1) (has.int (int_wrap w32 (pos 0 -ℤ n.0)), hs)
  unary_fits o one type x s op.plus h hs = let n = is_int types t.Int x h refl in subst (λ z. Fits (no_jump types) (Typed types locals t.Int) (of_value o z s)) (sym n.1) (has.int n.0, hs)
  unary_fits o one type x s op.not h hs = let b = is_bool types t.Bool x h refl in subst (λ z. Fits (no_jump types) (Typed types locals t.Bool) (of_value o z s)) (sym b.1) (has.bool _, hs)

  pub unary_gives : (o : UnaryOp) (one type : CsType) (a : Meaning) → UnaryTakes o one type → Gives types locals one a → Gives types locals type (one_operand a (of_value o))
  unary_gives o one type a takes h s hs = one_fits types locals one (Typed types locals type) a (of_value o) s h hs (λ x s1 hx hs1. unary_fits o one type x s1 takes hx hs1)

  pub cast_gives : (o : CastOp) (a : Meaning) → Gives types locals t.Text a → Gives types locals t.Text (one_operand a (cast o))
  cast_gives o a h s hs =
      one_fits types locals t.Text (Typed types locals t.Text) a (cast o) s h hs
      (λ x s1 hx hs1. subst (λ d. Fits (no_jump types) (Typed types locals t.Text) (if d then gives x s1 else stuck)) (sym (text_may_be x hx)) (hx, hs1))
