-- Members of the library over values with types keep to the types.
use Rattle.std.proofs.Common.{ℕ, ◌+◌, List, [], ◌∷◌, ◌++◌, length, refl, sym, subst, inl, inr}
use Rattle.std.specs.Prelude.{if◌then◌else◌, slice_set, insert, remove, Some, true, false, ◌==◌}
use Rattle.std.specs.Prelude.{Bool as Truth}
use Rattle.cs_ast.specs.declared.cs_type.CsType.{CsType}
use Rattle.cs_ast.specs.declared.cs_type.CsType.TheVariants as t
use Rattle.cs_ast.specs.declared.value.Value.{Value}
use Rattle.cs_ast.specs.declared.value.Value.TheVariants as v
use Rattle.cs_ast.specs.declared.code.LibraryMember.{LibraryMember}
use Rattle.cs_meaning.specs.declared.fault.Fault.TheVariants.{NullUse}
use Rattle.cs_meaning.specs.State.{State}
use Rattle.cs_meaning.specs.Outcome.{gives, faults, Meaning, and_then, found}
use Rattle.cs_meaning.specs.NewValues.{made}
use Rattle.cs_meaning.specs.Kinds.{is_null, string_of}
use Rattle.cs_meaning.specs.Scopes.{all_of}
use Rattle.cs_meaning.specs.Reading.{used, place_of}
use Rattle.cs_meaning.specs.Library.{counted, utf16_units, to_text, is_null_or_empty, library}
use Rattle.cs_meaning.specs.Expressions.{member_call}
use Rattle.cs_typing.specs.Types.{Types}
use Rattle.cs_typing.specs.Values.{ValueHas, ValuesHave}
use Rattle.cs_typing.specs.Values as has
use Rattle.cs_typing.specs.Operators.{Shows, LibraryTakes}
use Rattle.cs_typing.specs.Operators as op
use Rattle.cs_typing.specs.States.{StateHas}
use Rattle.cs_typing.specs.Outcomes.{Fits, no_jump, Typed, Gives}
use Rattle.cs_typing.proofs.ValueKinds.{is_text, is_change}
use Rattle.cs_typing.proofs.ValueLists.{item_added, item_inserted, item_removed, item_set}
use Rattle.cs_typing.proofs.Fitting.{then_fits}
use Rattle.cs_typing.proofs.Reading.{made_fits, text_used, list_used, callback_used, at_place_fits}
use Rattle.cs_typing.proofs.OperatorLemmas.{shown}
use Rattle.cs_typing.proofs.ListLemmas.{AllGive, AllTyped, all_fit}

module _ (types : Types) (locals : List CsType) where
  to_text_fits : (type : CsType) (x : Value) (s : State) → Shows type → ValueHas types type x → StateHas types locals s → Fits (no_jump types) (Typed types locals t.Text) (to_text x s)
  to_text_fits type x s show h hs =
      let y = shown types locals type x show h in
      subst (λ o. Fits (no_jump types) (Typed types locals t.Text) (and_then (used x o s) (λ text s1. made (v.Text text) s1))) (sym y.1) (by y.0 (is_null x))
    where
      by : (text : List ℕ) (b : Truth) → Fits (no_jump types) (Typed types locals t.Text) (and_then (if b then faults NullUse s else found (Some text) s) (λ it s1. made (v.Text it) s1))
      by text true = hs.1
      by text false = made_fits types locals t.Text (v.Text text) s (has.text text) hs

  empty_or_not : (x : Value) (s : State) → ValueHas types t.Text x → StateHas types locals s → Fits (no_jump types) (Typed types locals t.Bool) (is_null_or_empty x s)
  empty_or_not x s h hs =
      elim (is_text types t.Text x h refl) [
        | inl e ↦ subst (λ z. Fits (no_jump types) (Typed types locals t.Bool) (is_null_or_empty z s)) (sym e) (has.bool true, hs)
        | inr y ↦ subst (λ z. Fits (no_jump types) (Typed types locals t.Bool) (is_null_or_empty z s)) (sym y.1) (has.bool (length y.0 == 0), hs)
      ]

  library_fits : (member : LibraryMember) (takes : List CsType) (type : CsType) (xs : List Value) (s : State) → LibraryTakes member takes type → ValuesHave types takes xs → StateHas types locals s → Fits (no_jump types) (Typed types locals type) (library member xs s)
  library_fits member takes type xs s op.length (has.more _ _ x _ h has.none) hs =
      text_used types (Typed types locals t.Int) x (λ text s1. counted (utf16_units text) s1) s h hs.1 (λ y e. (has.int _, hs))
  library_fits member takes type xs s (op.to_text shows show) (has.more _ _ x _ h has.none) hs = to_text_fits shows x s show h hs
  library_fits member takes type xs s op.is_null_or_empty (has.more _ _ x _ h has.none) hs = empty_or_not x s h hs
  library_fits member takes type xs s (op.empty_list item) has.none hs = made_fits types locals (t.List item) (v.List []) s (has.list item [] (has.no_item item)) hs
  library_fits member takes type xs s (op.count item) (has.more _ _ x _ h has.none) hs =
      list_used types (Typed types locals t.Int) item x (λ items s1. counted (length items) s1) s h hs.1 (λ items have. (has.int _, hs))
  library_fits member takes type xs s (op.add item) (has.more _ _ x _ h (has.more _ _ y _ g has.none)) hs =
      list_used types (Typed types locals (t.List item)) item x (λ items s1. made (v.List (items ++ y ∷ [])) s1) s h hs.1
      (λ items have. made_fits types locals (t.List item) (v.List (items ++ y ∷ [])) s (has.list item (items ++ y ∷ []) (item_added types item items y have g)) hs)
  library_fits member takes type xs s (op.insert item) (has.more _ _ x _ h (has.more _ _ y _ g (has.more _ _ z _ k has.none))) hs =
      list_used types (Typed types locals (t.List item)) item x (λ items s1. and_then (place_of (length items + 1) y s1) (λ at s2. made (v.List (insert items at z)) s2)) s h hs.1
      (λ items have. at_place_fits types (Typed types locals (t.List item)) (length items + 1) y (λ at s2. made (v.List (insert items at z)) s2) s g hs.1
      (λ at below. made_fits types locals (t.List item) (v.List (insert items at z)) s (has.list item (insert items at z) (item_inserted types item items at z have k)) hs))
  library_fits member takes type xs s (op.remove_at item) (has.more _ _ x _ h (has.more _ _ y _ g has.none)) hs =
      list_used types (Typed types locals (t.List item)) item x (λ items s1. and_then (place_of (length items) y s1) (λ at s2. made (v.List (remove items at)) s2)) s h hs.1
      (λ items have. at_place_fits types (Typed types locals (t.List item)) (length items) y (λ at s2. made (v.List (remove items at)) s2) s g hs.1
      (λ at below. made_fits types locals (t.List item) (v.List (remove items at)) s (has.list item (remove items at) (item_removed types item items at have)) hs))
  library_fits member takes type xs s (op.set_item item) (has.more _ _ x _ h (has.more _ _ y _ g (has.more _ _ z _ k has.none))) hs =
      list_used types (Typed types locals (t.List item)) item x (λ items s1. and_then (place_of (length items) y s1) (λ at s2. made (v.List (slice_set items at z)) s2)) s h hs.1
      (λ items have. at_place_fits types (Typed types locals (t.List item)) (length items) y (λ at s2. made (v.List (slice_set items at z)) s2) s g hs.1
      (λ at below. made_fits types locals (t.List item) (v.List (slice_set items at z)) s (has.list item (slice_set items at z) (item_set types item items at z have k)) hs))
  library_fits member takes type xs s (op.has_delegate argument) (has.more _ _ x _ h has.none) hs =
      callback_used types (Typed types locals t.Bool) argument x (gives (v.Bool false) s) (λ it s1. gives (v.Bool true) s1) s h (has.bool false, hs) (λ it. (has.bool true, hs))
  library_fits member takes type xs s op.change_value (has.more _ _ x _ h has.none) hs =
      let y = is_change types t.Change x h refl in
      subst (λ z. Fits (no_jump types) (Typed types locals t.Text) (and_then (used z (string_of z) s) (λ text s1. gives z s1))) (sym y.1) (has.text y.0, hs)

  pub library_gives : (member : LibraryMember) (takes : List CsType) (type : CsType) (arguments : List Meaning) → LibraryTakes member takes type → AllGive types locals takes arguments → Gives types locals type (member_call member arguments)
  library_gives member takes type arguments takes_them h s hs =
      then_fits (no_jump types) (AllTyped types locals takes) (Typed types locals type) (all_of arguments s) (λ xs s1. library member xs s1) (all_fit types locals takes arguments s h hs)
      (λ xs s1 k. library_fits member takes type xs s1 takes_them k.0 k.1)
