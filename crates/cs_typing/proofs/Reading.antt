-- What is made of values with types keeps to the types.
use Rattle.std.proofs.Common.{◌≡◌, ℕ, ◌<◌, ◌/◌, List, refl, sym, subst, inl, inr}
use Rattle.std.proofs.lemmas.Bool.{ltb-true}
use Rattle.std.specs.Prelude.{ℤ, pos, negsuc, nat_lt, if◌then◌else◌, Option, true, false}
use Rattle.std.specs.Prelude.{Bool as Truth}
use Rattle.cs_ast.specs.Sizes.{size_of}
use Rattle.cs_ast.specs.declared.cs_type.CsType.{CsType}
use Rattle.cs_ast.specs.declared.cs_type.CsType.TheVariants as t
use Rattle.cs_ast.specs.declared.value.Value.{Value}
use Rattle.cs_ast.specs.declared.value.Value.TheVariants as v
use Rattle.cs_meaning.specs.declared.fault.Fault.TheVariants.{ValueTooLarge, IndexOutOfRange}
use Rattle.cs_meaning.specs.State.{State, state}
use Rattle.cs_meaning.specs.Outcome.{Outcome, gives, faults, Meaning, and_then, found}
use Rattle.cs_meaning.specs.Kinds.{items_in, items_of, record_in, record_of, fragment_in, fragment_of, callback_in, callback_of, string_of, is_null}
use Rattle.cs_meaning.specs.NewValues.{made}
use Rattle.cs_meaning.specs.Reading.{used, placed, place_of}
use Rattle.cs_meaning.specs.Expressions.{one_operand, two_operands}
use Rattle.cs_typing.specs.Types.{Types}
use Rattle.cs_typing.specs.Values.{ValueHas, ItemsHave}
use Rattle.cs_typing.specs.States.{HasValue, Keeps, StateHas}
use Rattle.cs_typing.specs.Outcomes.{Fits, no_jump, Typed, Gives}
use Rattle.cs_typing.proofs.ValueKinds.{is_int, is_text, is_list, IsRecord, is_record, IsFragment, is_fragment, IsCallback, is_callback}
use Rattle.cs_typing.proofs.Fitting.{then_fits, either_fits, charged_fits}

module _ (types : Types) where
  -- a value that is there
  pub found_fits : (locals : List CsType) (type : CsType) (o : Option Value) (s : State) → HasValue types type o → StateHas types locals s → Fits (no_jump types) (Typed types locals type) (found o s)
  found_fits locals type o s h hs = subst (λ z. Fits (no_jump types) (Typed types locals type) (found z s)) (sym h.1) (h.2, hs)

  -- a new value
  pub made_fits : (locals : List CsType) (type : CsType) (x : Value) (s : State) → ValueHas types type x → StateHas types locals s → Fits (no_jump types) (Typed types locals type) (made x s)
  made_fits locals type x s h hs =
      charged_fits (no_jump types) (Typed types locals type) (size_of x / 64) s (λ s1. if nat_lt 1048576 (size_of x) then faults ValueTooLarge s1 else gives x s1) hs.1
      (λ left. either_fits (no_jump types) (Typed types locals type) (nat_lt 1048576 (size_of x)) (faults ValueTooLarge (state s.locals s.fields s.receivers left)) (gives x (state s.locals s.fields s.receivers left)) hs.1 (h, hs))

  -- one operand, and two
  pub one_fits : (locals : List CsType) (type : CsType) (P : Value → State → Type 0) (a : Meaning) (next : Value → Meaning) (s : State)
      → Gives types locals type a → StateHas types locals s → ((x : Value) (s1 : State) → ValueHas types type x → StateHas types locals s1 → Fits (no_jump types) P (next x s1)) → Fits (no_jump types) P (one_operand a next s)
  one_fits locals type P a next s h hs f = then_fits (no_jump types) (Typed types locals type) P (a s) next (h s hs) (λ x s1 g. f x s1 g.0 g.1)

  pub two_fit : (locals : List CsType) (one other : CsType) (P : Value → State → Type 0) (a b : Meaning) (next : Value → Value → Meaning) (s : State)
      → Gives types locals one a → Gives types locals other b → StateHas types locals s → ((x y : Value) (s1 : State) → ValueHas types one x → ValueHas types other y → StateHas types locals s1 → Fits (no_jump types) P (next x y s1)) → Fits (no_jump types) P (two_operands a b next s)
  two_fit locals one other P a b next s h g hs f =
      one_fits locals one P a (λ x s1. and_then (b s1) (λ y s2. next x y s2)) s h hs (λ x s1 hx hs1. one_fits locals other P b (next x) s1 g hs1 (λ y s2 hy hs2. f x y s2 hx hy hs2))

  module _ (P : Value → State → Type 0) where
    -- a text that is used
    pub text_used : (x : Value) (next : List ℕ → Meaning) (s : State) → ValueHas types t.Text x → Keeps types s → ((y : List ℕ) → x ≡ v.Text y → Fits (no_jump types) P (next y s)) → Fits (no_jump types) P (and_then (used x (string_of x) s) next)
    text_used x next s h k f =
        elim (is_text types t.Text x h refl) [
          | inl e ↦ subst (λ z. Fits (no_jump types) P (and_then (used z (string_of z) s) next)) (sym e) k
          | inr y ↦ subst (λ z. Fits (no_jump types) P (and_then (used z (string_of z) s) next)) (sym y.1) (f y.0 y.1)
        ]

    -- a list that is used
    pub list_used : (item : CsType) (x : Value) (next : List Value → Meaning) (s : State) → ValueHas types (t.List item) x → Keeps types s → ((items : List Value) → ItemsHave types item items → Fits (no_jump types) P (next items s)) → Fits (no_jump types) P (and_then (used x (items_of x) s) next)
    list_used item x next s h k f =
        elim (is_list types (t.List item) item x h refl) [
          | inl e ↦ subst (λ z. Fits (no_jump types) P (and_then (used z (items_of z) s) next)) (sym e) k
          | inr l ↦ subst (λ z. Fits (no_jump types) P (and_then (used z (items_of z) s) next)) (sym l.is) (subst (λ z. Fits (no_jump types) P (and_then (found (items_in z) s) next)) (sym (v.outs-List l.items)) (f l.items l.have))
        ]

    -- a record that is used
    pub record_used : (name : List ℕ) (x : Value) (next : ℕ × List Value → Meaning) (s : State) → ValueHas types (t.Rec name) x → Keeps types s → ((r : IsRecord types name x) → Fits (no_jump types) P (next (r.declaration.number, r.parts) s)) → Fits (no_jump types) P (and_then (used x (record_of x) s) next)
    record_used name x next s h k f =
        elim (is_record types (t.Rec name) name x h refl) [
          | inl e ↦ subst (λ z. Fits (no_jump types) P (and_then (used z (record_of z) s) next)) (sym e) k
          | inr r ↦ subst (λ z. Fits (no_jump types) P (and_then (used z (record_of z) s) next)) (sym r.is) (subst (λ z. Fits (no_jump types) P (and_then (found (record_in z) s) next)) (sym (v.outs-Rec r.declaration.number r.parts)) (f r))
        ]

    -- a fragment that is used
    pub fragment_used : (argument : Option CsType) (x : Value) (next : ℕ × ℕ × List Value → Meaning) (s : State) → ValueHas types (t.Fragment argument) x → Keeps types s → ((r : IsFragment types argument x) → Fits (no_jump types) P (next (r.who, r.place, r.captures) s)) → Fits (no_jump types) P (and_then (used x (fragment_of x) s) next)
    fragment_used argument x next s h k f =
        elim (is_fragment types (t.Fragment argument) argument x h refl) [
          | inl e ↦ subst (λ z. Fits (no_jump types) P (and_then (used z (fragment_of z) s) next)) (sym e) k
          | inr r ↦ subst (λ z. Fits (no_jump types) P (and_then (used z (fragment_of z) s) next)) (sym r.is) (subst (λ z. Fits (no_jump types) P (and_then (found (fragment_in z) s) next)) (sym (v.outs-Fragment r.who r.place r.captures)) (f r))
        ]

    -- a callback that is set or not
    pub callback_used : (argument : Option CsType) (x : Value) (unset : Outcome Value) (next : ℕ × ℕ × List Value → Meaning) (s : State) → ValueHas types (t.Callback argument) x → Fits (no_jump types) P unset → ((r : IsCallback types argument x) → Fits (no_jump types) P (next (r.who, r.place, r.captures) s)) → Fits (no_jump types) P (if is_null x then unset else and_then (found (callback_of x) s) next)
    callback_used argument x unset next s h k f =
        elim (is_callback types (t.Callback argument) argument x h refl) [
          | inl e ↦ subst (λ z. Fits (no_jump types) P (if is_null z then unset else and_then (found (callback_of z) s) next)) (sym e) k
          | inr r ↦ subst (λ z. Fits (no_jump types) P (if is_null z then unset else and_then (found (callback_of z) s) next)) (sym r.is) (subst (λ z. Fits (no_jump types) P (and_then (found (callback_in z) s) next)) (sym (v.outs-Callback r.who r.place r.captures)) (f r))
        ]

    -- a place in a list
    place_fits : (limit at : ℕ) (next : ℕ → Meaning) (s : State) → Keeps types s → (at < limit → Fits (no_jump types) P (next at s)) → Fits (no_jump types) P (and_then (placed limit (pos at) s) next)
    place_fits limit at next s k f = by (nat_lt at limit) refl
      where
        by : (d : Truth) → nat_lt at limit ≡ d → Fits (no_jump types) P (and_then (if d then gives at s else faults IndexOutOfRange s) next)
        by true e = f (ltb-true at limit e)
        by false e = k

    placed_fits : (limit : ℕ) (n : ℤ) (next : ℕ → Meaning) (s : State) → Keeps types s → ((at : ℕ) → at < limit → Fits (no_jump types) P (next at s)) → Fits (no_jump types) P (and_then (placed limit n s) next)
    placed_fits limit (pos at) next s k f = place_fits limit at next s k (f at)
    placed_fits limit (negsuc n) next s k f = k

    pub at_place_fits : (limit : ℕ) (x : Value) (next : ℕ → Meaning) (s : State) → ValueHas types t.Int x → Keeps types s → ((at : ℕ) → at < limit → Fits (no_jump types) P (next at s)) → Fits (no_jump types) P (and_then (place_of limit x s) next)
    at_place_fits limit x next s h k f = let n = is_int types t.Int x h refl in subst (λ z. Fits (no_jump types) P (and_then (place_of limit z s) next)) (sym n.1) (placed_fits limit n.0 next s k f)
