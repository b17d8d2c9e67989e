-- Operations by numbers.
use Rattle.std.specs.Prelude.{ℕ, List, Option}
use Rattle.std.specs.Ordering.{nat_cmp}
use Rattle.std.specs.Map.{lookup}
use Rattle.std.specs.BTreeMap.{is_at}
use Rattle.frame_program.specs.declared.operation.Operation.{Operation}

-- the operations of this number, if there are any
abbrev pub operations_at : List (ℕ × List Operation) → ℕ → Option (List Operation)
operations_at fragments number = lookup (is_at (nat_cmp number)) fragments
