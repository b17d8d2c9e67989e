-- Lists of values with types.
use Rattle.std.proofs.Common.{◌≡◌, ℕ, zero, suc, ◌<◌, List, [], ◌∷◌, ◌++◌, length, take, refl, ap, subst, arith}
use Rattle.std.specs.Prelude.{Some, slice_get, slice_set, insert, remove}
use Rattle.cs_ast.specs.declared.cs_type.CsType.{CsType}
use Rattle.cs_ast.specs.declared.value.Value.{Value}
use Rattle.cs_typing.specs.Types.{Types}
use Rattle.cs_typing.specs.Values.{ValueHas, ValuesHave, ItemsHave}
use Rattle.cs_typing.specs.Values as has
use Rattle.cs_typing.specs.States.{HasValue, ValuesBegin}
use Rattle.cs_typing.specs.States as states

module _ (types : Types) where
  -- as many values as types
  pub as_many : (ts : List CsType) (xs : List Value) → ValuesHave types ts xs → length xs ≡ length ts
  as_many ts xs has.none = refl
  as_many ts xs (has.more type others x rest h hs) = ap suc (as_many others rest hs)

  -- one value more
  pub one_more : (ts : List CsType) (xs : List Value) (type : CsType) (x : Value) → ValuesHave types ts xs → ValueHas types type x → ValuesHave types (ts ++ type ∷ []) (xs ++ x ∷ [])
  one_more ts xs type x has.none h = has.more type [] x [] h has.none
  one_more ts xs type x (has.more first others y rest g hs) h = has.more first (others ++ type ∷ []) y (rest ++ x ∷ []) g (one_more others rest type x hs h)

  -- the value in a place has the type in it
  pub value_in : (ts : List CsType) (xs : List Value) (at : ℕ) (type : CsType) → ValuesHave types ts xs → slice_get ts at ≡ Some type → HasValue types type (slice_get xs at)
  value_in ts xs at type has.none e = absurd (cc)
  value_in ts xs zero type (has.more first others y rest g hs) e = let same : first ≡ type = cc in (y, refl, subst (λ z. ValueHas types z y) same g)
  value_in ts xs (suc at) type (has.more first others y rest g hs) e = value_in others rest at type hs e

  -- a value of the same type in that place
  pub value_set : (ts : List CsType) (xs : List Value) (at : ℕ) (type : CsType) (x : Value) → ValuesHave types ts xs → slice_get ts at ≡ Some type → ValueHas types type x → ValuesHave types ts (slice_set xs at x)
  value_set ts xs at type x has.none e h = absurd (cc)
  value_set ts xs zero type x (has.more first others y rest g hs) e h = let same : type ≡ first = cc in has.more first others x rest (subst (λ z. ValueHas types z x) same h) hs
  value_set ts xs (suc at) type x (has.more first others y rest g hs) e h = has.more first others y (slice_set rest at x) g (value_set others rest at type x hs e h)

  -- the first values have the first types
  pub begin : (ts more : List CsType) (xs : List Value) → ValuesHave types (ts ++ more) xs → ValuesBegin types ts xs
  begin [] more xs h = states.begun xs
  begin (type ∷ ts) more xs (has.more _ _ y rest g hs) = states.further type ts y rest g (begin ts more rest hs)

  pub begin_all : (ts : List CsType) (xs : List Value) → ValuesHave types ts xs → ValuesBegin types ts xs
  begin_all ts xs has.none = states.begun []
  begin_all ts xs (has.more first others y rest g hs) = states.further first others y rest g (begin_all others rest hs)

  pub begin_fewer : (ts more : List CsType) (xs : List Value) → ValuesBegin types (ts ++ more) xs → ValuesBegin types ts xs
  begin_fewer [] more xs h = states.begun xs
  begin_fewer (type ∷ ts) more xs (states.further _ _ y rest g hs) = states.further type ts y rest g (begin_fewer ts more rest hs)

  -- cut to as many as there are types
  pub cut_to : (ts : List CsType) (xs : List Value) → ValuesBegin types ts xs → ValuesHave types ts (take (length ts) xs)
  cut_to ts xs (states.begun _) = has.none
  cut_to ts xs (states.further first others y rest g hs) = has.more first others y (take (length others) rest) g (cut_to others rest hs)

  -- items of a list
  pub item_at : (type : CsType) (items : List Value) (at : ℕ) → ItemsHave types type items → at < length items → HasValue types type (slice_get items at)
  item_at type items at (has.no_item _) e = absurd (omega (arith, e))
  item_at type items zero (has.item _ x xs h hs) e = (x, refl, h)
  item_at type items (suc at) (has.item _ x xs h hs) e = item_at type xs at hs (omega (arith, e))

  pub item_added : (type : CsType) (items : List Value) (x : Value) → ItemsHave types type items → ValueHas types type x → ItemsHave types type (items ++ x ∷ [])
  item_added type items x (has.no_item _) h = has.item type x [] h (has.no_item type)
  item_added type items x (has.item _ y ys g hs) h = has.item type y (ys ++ x ∷ []) g (item_added type ys x hs h)

  pub item_inserted : (type : CsType) (items : List Value) (at : ℕ) (x : Value) → ItemsHave types type items → ValueHas types type x → ItemsHave types type (insert items at x)
  item_inserted type items zero x hs h = has.item type x items h hs
  item_inserted type items (suc at) x (has.no_item _) h = has.item type x [] h (has.no_item type)
  item_inserted type items (suc at) x (has.item _ y ys g hs) h = has.item type y (insert ys at x) g (item_inserted type ys at x hs h)

  pub item_removed : (type : CsType) (items : List Value) (at : ℕ) → ItemsHave types type items → ItemsHave types type (remove items at)
  item_removed type items zero (has.no_item _) = has.no_item type
  item_removed type items (suc at) (has.no_item _) = has.no_item type
  item_removed type items zero (has.item _ y ys g hs) = hs
  item_removed type items (suc at) (has.item _ y ys g hs) = has.item type y (remove ys at) g (item_removed type ys at hs)

  pub item_set : (type : CsType) (items : List Value) (at : ℕ) (x : Value) → ItemsHave types type items → ValueHas types type x → ItemsHave types type (slice_set items at x)
  item_set type items at x (has.no_item _) h = has.no_item type
  item_set type items zero x (has.item _ y ys g hs) h = has.item type x ys h hs
  item_set type items (suc at) x (has.item _ y ys g hs) h = has.item type y (slice_set ys at x) g (item_set type ys at x hs h)
