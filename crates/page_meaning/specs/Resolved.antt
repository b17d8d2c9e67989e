-- Parts of a program come to something in the scope where they stand, and place bodies and templates under numbers, or break a rule.
use Rattle.std.specs.Prelude.{ℕ, List, [], ◌∷◌, ◌++◌, Option, Some, None}
use Rattle.cs_ast.specs.declared.code.Code.{Code}
use Rattle.cs_ast.specs.declared.expression.Expr.{Expr}
use Rattle.cs_ast.specs.declared.scope.Scope.{Scope}
use Rattle.cs_rules.specs.Judged.{Judged, fine, breaks}
use Rattle.cs_rules.specs.Trees.{value_in}
use Rattle.drawing_meaning.specs.Acts.{Act}
use Rattle.razor_rules.specs.Numbers.{number_at}
use Rattle.razor_rules.specs.Scopes.{Home}
use Rattle.page_meaning.specs.Placed.{Placed}

-- what a part comes to, and what it places
pub record Placing (A : Type 0) : Type 0 where
  pub made : A
  pub placed : List (ℕ × Placed)

abbrev pub placing : {A : Type 0} → A → List (ℕ × Placed) → Placing A
placing made placed = record { made = made; placed = placed }

-- the same, or the first broken rule
abbrev pub Resolves : Type 0 → Type 0
Resolves A = Judged (Placing A)

abbrev pub behind_placed : {A : Type 0} → List (ℕ × Placed) → Resolves A → Resolves A
behind_placed placed (fine x) = fine (placing x.made (placed ++ x.placed))
behind_placed placed (breaks rule place) = breaks rule place

infixl 10 ◌>>=◌
-- one after the other, as long as no rule is broken
abbrev pub ◌>>=◌ : {A B : Type 0} → Resolves A → (A → Resolves B) → Resolves B
(fine x) >>= next = behind_placed x.placed (next x.made)
(breaks rule place) >>= next = breaks rule place

-- what places nothing
abbrev pub alone : {A : Type 0} → A → Resolves A
alone made = fine (placing made [])

abbrev pub judged : {A : Type 0} → Judged A → Resolves A
judged (fine x) = alone x
judged (breaks rule place) = breaks rule place

-- something is placed under a number
abbrev pub put : ℕ → Placed → Resolves (Unit {0})
put number it = fine (placing tt ((number, it) ∷ []))

-- what each comes to
abbrev pub each : {A B : Type 0} → (A → Resolves B) → List A → Resolves (List B)
each resolve [] = alone []
each resolve (x ∷ xs) = do
  y ← resolve x
  ys ← each resolve xs
  alone (y ∷ ys)

-- the same, one list behind another
abbrev pub each_of : {A B : Type 0} → (A → Resolves (List B)) → List A → Resolves (List B)
each_of resolve [] = alone []
each_of resolve (x ∷ xs) = do
  ys ← resolve x
  more ← each_of resolve xs
  alone (ys ++ more)

-- what may be absent
abbrev pub if_there : {A B : Type 0} → (A → Resolves B) → Option A → Resolves (Option B)
if_there resolve None = alone None
if_there resolve (Some x) = do
  y ← resolve x
  alone (Some y)

-- what a part of a template comes to: what it does, part by part, in the component that it stands in
abbrev pub Makes : Type 0
Makes = Home → Scope → Resolves (List Act)

-- the code of an expression
abbrev pub value_code : Scope → Expr → Resolves Code
value_code s a = do
  x ← judged (value_in s a)
  alone x.code

-- the number of the body or the template that stands at a number of the content
abbrev pub place_at : Home → ℕ → ℕ
place_at home number = number_at home.first home.members number
