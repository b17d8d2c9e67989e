-- Fields under changes that are kept apart.
use Rattle.std.specs.Prelude.{ℕ}
use Rattle.std.specs.Option.{option_or}
use Rattle.std.specs.declared.cmp.Ordering.{Ordering}
use Rattle.std.specs.Ordering.{nat_cmp, ordering_then}
use Rattle.std.specs.BTreeMap.{BTreeMap, get}
use Rattle.cs_ast.specs.declared.value.Value.{Value}
use Rattle.cs_meaning.specs.State.{Fields}

-- the order of fields by their instances, and of one instance by their numbers
abbrev pub field_cmp : ℕ × ℕ → ℕ × ℕ → Ordering
field_cmp x y = ordering_then (nat_cmp x.0 y.0) (nat_cmp x.1 y.1)

-- the fields with the changes in place of what they were
abbrev pub changed : BTreeMap (ℕ × ℕ) Value → Fields → Fields
changed changes fields who at = option_or (get field_cmp changes (who, at)) (fields who at)
