-- Codes by their numbers.
use Rattle.std.specs.Prelude.{ℕ, List, Option}
use Rattle.std.specs.Ordering.{nat_cmp}
use Rattle.std.specs.Map.{lookup}
use Rattle.std.specs.BTreeMap.{is_at}
use Rattle.cs_ast.specs.declared.code.Code.{Code}

-- the code of this number, if there is one
abbrev pub code_at : List (ℕ × Code) → ℕ → Option Code
code_at bodies number = lookup (is_at (nat_cmp number)) bodies
