-- The equations of reading expressions, at a number above 0.
use Rattle.std.proofs.Common.{◌≡◌, ℕ, zero, suc, ◌-◌, ◌<◌, List, ap, arith}
use Rattle.text_core.specs.declared.place.Place.{Place}
use Rattle.cs_ast.specs.declared.expression.Expr.{Expr}
use Rattle.cs_token.specs.declared.token.Token.{Token}
use Rattle.cs_parse.specs.Reading.{◌>>=◌}
use Rattle.cs_parse.specs.ExpressionReading as r
use Rattle.cs_parse.specs.ExpressionReading.{within, expr_in, loop_in, values_in, with_parts_in, text_parts_in, more_values, more_with_parts, more_text_parts, with_part_by, text_part_by}

less : (n : ℕ) → n ≡ suc n - 1
less n = omega arith

pub expr_law : (n l : ℕ) (ts : List Token) → 0 < n → expr_in n l ts ≡ r.expr (within (n - 1)) l ts
unfolding within
expr_law zero l ts h = absurd (omega arith)
expr_law (suc n) l ts h = ap (λ m. r.expr (within m) l ts) (less n)

pub loop_law : (n l : ℕ) (p : Place) (a : Expr) (ts : List Token) → 0 < n → loop_in n l p a ts ≡ r.loop (within (n - 1)) l p a ts
unfolding within
loop_law zero l p a ts h = absurd (omega arith)
loop_law (suc n) l p a ts h = ap (λ m. r.loop (within m) l p a ts) (less n)

pub values_law : (n : ℕ) (ts : List Token) → 0 < n → values_in n ts ≡ (expr_in n 0 ts >>= λ x. more_values (within (n - 1)) x.0 x.1)
unfolding within
values_law zero ts h = absurd (omega arith)
values_law (suc n) ts h = ap (λ m. expr_in (suc n) 0 ts >>= λ x. more_values (within m) x.0 x.1) (less n)

pub with_parts_law : (n : ℕ) (ts : List Token) → 0 < n → with_parts_in n ts ≡ (with_part_by (expr_in n 0) ts >>= λ x. more_with_parts (within (n - 1)) x.0 x.1)
unfolding within
with_parts_law zero ts h = absurd (omega arith)
with_parts_law (suc n) ts h = ap (λ m. with_part_by (expr_in (suc n) 0) ts >>= λ x. more_with_parts (within m) x.0 x.1) (less n)

pub text_parts_law : (n : ℕ) (ts : List Token) → 0 < n → text_parts_in n ts ≡ (text_part_by (expr_in n 0) ts >>= λ x. more_text_parts (within (n - 1)) x ts)
unfolding within
text_parts_law zero ts h = absurd (omega arith)
text_parts_law (suc n) ts h = ap (λ m. text_part_by (expr_in (suc n) 0) ts >>= λ x. more_text_parts (within m) x ts) (less n)
