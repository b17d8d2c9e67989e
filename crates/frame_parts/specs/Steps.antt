-- How the compiler goes on from part to part, with what has a number by then: no part of what it promises.
use Rattle.std.specs.Prelude.{ℕ, List, [], ◌∷◌, ◌++◌, Option, Some, None}
use Rattle.std.specs.BTreeMap.{insert_entry}
use Rattle.std.specs.Ordering.{nat_cmp}
use Rattle.cs_ast.specs.declared.code.Code.{Code}
use Rattle.cs_ast.specs.declared.expression.Expr.{Expr}
use Rattle.cs_ast.specs.declared.scope.Scope.{Scope}
use Rattle.cs_rules.specs.Judged.{Judged, fine, breaks}
use Rattle.cs_rules.specs.Judged.{◌>>=◌ as ◌>>>=◌}
use Rattle.cs_rules.specs.Trees.{value_in}
use Rattle.drawing_meaning.specs.Acts.{Act}
use Rattle.page_meaning.specs.Placed.{Placed, with_entries, bodies_in, templates_in}
use Rattle.page_meaning.specs.Resolved.{Resolves}

-- bodies, and what templates do, by their numbers in rising order
pub record Numbered : Type 0 where
  pub bodies : List (ℕ × Code)
  pub templates : List (ℕ × List Act)

abbrev pub with_placed : List (ℕ × Placed) → Numbered → Numbered
with_placed placed before = record { bodies = with_entries before.bodies (bodies_in placed); templates = with_entries before.templates (templates_in placed) }

-- what a part comes to behind those that have numbers already, and what has a number then
abbrev pub Steps : Type 0 → Type 0
Steps A = Numbered → Judged (A × Numbered)

unfoldable pub step : {A : Type 0} → Resolves A → Steps A
step (fine it) before = fine (it.made, with_placed it.placed before)
step (breaks rule place) before = breaks rule place

infixl 10 ◌>>=◌
-- one after the other, as long as no rule is broken
abbrev pub ◌>>=◌ : {A B : Type 0} → Steps A → (A → Steps B) → Steps B
first >>= next = λ before. first before >>>= (λ it. next it.0 it.1)

-- what gives nothing a number
abbrev pub alone : {A : Type 0} → A → Steps A
alone made before = fine (made, before)

abbrev pub judged : {A : Type 0} → Judged A → Steps A
judged it before = it >>>= (λ made. fine (made, before))

abbrev pub put_body : ℕ → Code → Steps (Unit {0})
put_body number code before = fine (tt, record { bodies = insert_entry nat_cmp before.bodies number code; templates = before.templates })

abbrev pub put_template : ℕ → List Act → Steps (Unit {0})
put_template number acts before = fine (tt, record { bodies = before.bodies; templates = insert_entry nat_cmp before.templates number acts })

abbrev pub each : {A B : Type 0} → (A → Steps B) → List A → Steps (List B)
each one [] = alone []
each one (x ∷ xs) = do
  y ← one x
  ys ← each one xs
  alone (y ∷ ys)

-- the same, one list behind another
abbrev pub each_of : {A B : Type 0} → (A → Steps (List B)) → List A → Steps (List B)
each_of one [] = alone []
each_of one (x ∷ xs) = do
  ys ← one x
  more ← each_of one xs
  alone (ys ++ more)

-- the code of an expression
abbrev pub code_in : Scope → Expr → Judged Code
code_in s a = value_in s a >>>= (λ x. fine x.code)

-- what comes behind these
abbrev pub in_front : {A : Type 0} → List A → Judged (List A × Numbered) → Judged (List A × Numbered)
in_front front it = it >>>= (λ more. fine (front ++ more.0, more.1))
