-- What kind of value a value is, and what it holds.
use Rattle.std.specs.Prelude.{ℕ, ℤ, List, Option, Some, None, Bool, true, false}
use Rattle.cs_ast.specs.declared.value.Value.{Value, out-Value}
use Rattle.cs_ast.specs.declared.value.Value.TheVariants as v
use Rattle.cs_ast.specs.declared.value.Value.TheOpen.{Value-F}

-- a number
abbrev pub number_of : Value → Option ℤ
number_of (v.Int n) = Some n
number_of _ = None

-- true or false
abbrev pub truth_of : Value → Option Bool
truth_of (v.Bool truth) = Some truth
truth_of _ = None

-- a text
abbrev pub string_of : Value → Option (List ℕ)
string_of (v.Text text) = Some text
string_of _ = None

abbrev pub is_null : Value → Bool
is_null v.Null = true
is_null _ = false

-- the items of a list
abbrev pub items_in : Value-F Value → Option (List Value)
items_in (Value-F.List items) = Some items
items_in _ = None

abbrev pub items_of : Value → Option (List Value)
items_of x = items_in (out-Value x)

-- the kind and the parts of a record
abbrev pub record_in : Value-F Value → Option (ℕ × List Value)
record_in (Value-F.Rec kind parts) = Some (kind, parts)
record_in _ = None

abbrev pub record_of : Value → Option (ℕ × List Value)
record_of x = record_in (out-Value x)

-- the receiver, the number and the captured values of a fragment
abbrev pub fragment_in : Value-F Value → Option (ℕ × ℕ × List Value)
fragment_in (Value-F.Fragment who place captures) = Some (who, place, captures)
fragment_in _ = None

abbrev pub fragment_of : Value → Option (ℕ × ℕ × List Value)
fragment_of x = fragment_in (out-Value x)

-- the same of a callback
abbrev pub callback_in : Value-F Value → Option (ℕ × ℕ × List Value)
callback_in (Value-F.Callback who place captures) = Some (who, place, captures)
callback_in _ = None

abbrev pub callback_of : Value → Option (ℕ × ℕ × List Value)
callback_of x = callback_in (out-Value x)
