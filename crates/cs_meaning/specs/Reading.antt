-- Parts of records and items of lists. Where a value has to be there, null is a fault.
use Rattle.std.specs.Prelude.{ℕ, ℤ, pos, negsuc, nat_lt, if◌then◌else◌, List, [], ◌∷◌, length, slice_get, slice_set, Option, Some, None}
use Rattle.cs_ast.specs.declared.value.Value.{Value}
use Rattle.cs_ast.specs.declared.value.Value.TheVariants as v
use Rattle.cs_meaning.specs.declared.fault.Fault.TheVariants.{NullUse, IndexOutOfRange}
use Rattle.cs_meaning.specs.State.{State}
use Rattle.cs_meaning.specs.Outcome.{Outcome, gives, faults, Meaning, and_then, found}
use Rattle.cs_meaning.specs.Kinds.{number_of, is_null, items_of, record_of}

-- what such a value holds; null holds nothing
abbrev pub used : {A : Type 0} → Value → Option A → State → Outcome A
used x held s = if is_null x then faults NullUse s else found held s

-- a number as a place below the limit
abbrev pub placed : ℕ → ℤ → State → Outcome ℕ
placed limit (pos at) s = if nat_lt at limit then gives at s else faults IndexOutOfRange s
placed limit (negsuc n) s = faults IndexOutOfRange s

-- the same of a value, which has to be a number
abbrev pub place_of : ℕ → Value → State → Outcome ℕ
place_of limit x s = and_then (found (number_of x) s) (λ n s1. placed limit n s1)

-- the item of a list at an index
abbrev pub indexed : Value → Value → Meaning
indexed x y s = and_then (used x (items_of x) s) (λ items s1. and_then (place_of (length items) y s1) (λ at s2. found (slice_get items at) s2))

-- the part of a record at a position
abbrev pub part_of : ℕ → Value → Meaning
part_of at x s = and_then (used x (record_of x) s) (λ it s1. found (slice_get it.1 at) s1)

-- the same, and null of null
abbrev pub part_or_null : ℕ → Value → Meaning
part_or_null at x s = if is_null x then gives v.Null s else part_of at x s

-- the parts with these values at these positions, one after another
unfoldable pub with_parts : List ℕ → List Value → List Value → Option (List Value)
with_parts [] [] parts = Some parts
with_parts (at ∷ positions) (x ∷ values) parts = if nat_lt at (length parts) then with_parts positions values (slice_set parts at x) else None
with_parts _ _ parts = None
