-- The equations of reading types, at a number above 0 and at 0.
use Rattle.std.proofs.Common.{◌≡◌, ℕ, zero, suc, ◌-◌, ◌<◌, List, refl, ap, arith}
use Rattle.std.specs.Prelude.{Option, Some, None}
use Rattle.cs_ast.specs.declared.cs_type.TypeExpr.{TypeExpr}
use Rattle.cs_token.specs.declared.token.Token.{Token}
use Rattle.cs_parse.specs.Reading.{◌>>=◌}
use Rattle.cs_parse.specs.TypeReading.{type_in, core, unmarked}

less : (n : ℕ) → n ≡ suc n - 1
less n = omega arith

pub type_law : (n : ℕ) (ts : List Token) → 0 < n → type_in n ts ≡ (core (type_in (n - 1)) ts >>= λ x. Some (x.0.0, unmarked x.0.1 x.1))
unfolding type_in
type_law zero ts h = absurd (omega arith)
type_law (suc n) ts h = ap (λ m. core (type_in m) ts >>= λ x. Some (x.0.0, unmarked x.0.1 x.1)) (less n)

pub type_none : (n : ℕ) (ts : List Token) → n ≡ 0 → type_in n ts ≡ None
unfolding type_in
type_none zero ts h = refl
type_none (suc n) ts h = absurd (omega arith)
