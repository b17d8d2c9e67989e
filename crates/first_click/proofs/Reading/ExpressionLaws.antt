-- The equations of reading expressions, at a number above 0 and at 0.
use Rattle.std.proofs.Common.{◌≡◌, ℕ, zero, suc, ◌-◌, ◌<◌, List, refl, ap, arith}
use Rattle.std.specs.Prelude.{None}
use Rattle.cs_ast.specs.declared.code.Code.{Code}
use Rattle.first_click.specs.declared.component.Field.{Field}
use Rattle.first_click.specs.Reading.Expressions as r
use Rattle.first_click.specs.Reading.Expressions.{within, expression_in, operations_in}

less : (n : ℕ) → n ≡ suc n - 1
less n = omega arith

pub expression_law : (fields : List Field) (n level : ℕ) (tokens : List (List ℕ)) → 0 < n → expression_in fields n level tokens ≡ r.expression fields (within fields (n - 1)) level tokens
unfolding within
expression_law fields zero level tokens h = absurd (omega arith)
expression_law fields (suc n) level tokens h = ap (λ m. r.expression fields (within fields m) level tokens) (less n)

pub expression_none : (fields : List Field) (n level : ℕ) (tokens : List (List ℕ)) → n ≡ 0 → expression_in fields n level tokens ≡ None
unfolding within
expression_none fields zero level tokens h = refl
expression_none fields (suc n) level tokens h = absurd (omega arith)

pub operations_law : (fields : List Field) (n level : ℕ) (a : Code) (tokens : List (List ℕ)) → 0 < n
    → operations_in fields n level a tokens ≡ r.operations fields (within fields (n - 1)) level a tokens
unfolding within
operations_law fields zero level a tokens h = absurd (omega arith)
operations_law fields (suc n) level a tokens h = ap (λ m. r.operations fields (within fields m) level a tokens) (less n)

pub operations_none : (fields : List Field) (n level : ℕ) (a : Code) (tokens : List (List ℕ)) → n ≡ 0 → operations_in fields n level a tokens ≡ None
unfolding within
operations_none fields zero level a tokens h = refl
operations_none fields (suc n) level a tokens h = absurd (omega arith)
