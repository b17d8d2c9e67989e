-- Handlers so far.
use Rattle.std.specs.Prelude.{ℕ, List, ◌++◌, Option, Some}
use Rattle.first_click.specs.Options.{◌>>=◌}

-- the numbers with these in front
abbrev pub with_numbers : List ℕ → Option (List ℕ) → Option (List ℕ)
with_numbers front numbers = numbers >>= λ more. Some (front ++ more)
