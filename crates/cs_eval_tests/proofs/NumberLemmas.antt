-- Two numbers in a list are found.
use Rattle.std.proofs.Common.{◌≡◌, ℕ, zero, suc, ◌<◌, List, [], ◌∷◌, Some, ap, arith}
use Rattle.std.specs.Prelude.{ℤ, slice_get}
use Rattle.cs_ast.specs.declared.value.Value.{Value}
use Rattle.cs_ast.specs.declared.value.Value.TheVariants as v

pub two_numbers : (x y : ℤ) (fields : List Value) → fields ≡ v.Int x ∷ v.Int y ∷ [] → (at : ℕ) → at < 2 → (n : ℤ) × (slice_get fields at ≡ Some (v.Int n))
two_numbers x y fields e zero h = (x, ap (λ l. slice_get l 0) e)
two_numbers x y fields e (suc zero) h = (y, ap (λ l. slice_get l 1) e)
two_numbers x y fields e (suc (suc at)) h = absurd (omega arith)
