-- How statements and methods are read.
use Rattle.std.specs.Prelude.{ℕ, ◌+◌, List, [], ◌∷◌, length, Some, None, codes, if◌then◌else◌}
use Rattle.std.specs.Str.{bytes_eq}
use Rattle.cs_ast.specs.declared.code.Code.{Code}
use Rattle.first_click.specs.declared.component.Field.{Field}
use Rattle.first_click.specs.Expressions.{field_number}
use Rattle.first_click.specs.Options.{◌>>=◌}
use Rattle.first_click.specs.Reading.Expressions.{Read, behind_token, expression_in}
use Rattle.first_click.specs.Statements.{assignment, step, step_operator}

-- an assignment to the field of this number, from behind its `=` on
unfoldable pub assignment_at : List Field → ℕ → List (List ℕ) → Read Code
assignment_at fields k tokens = do
  e ← expression_in fields (length tokens + 1) 0 tokens
  rest ← behind_token (codes ";") e.1
  Some (assignment k e.0, rest)

-- a step of the field of this number, from behind this token on
unfoldable pub step_at : ℕ → List ℕ → List (List ℕ) → Read Code
step_at k token tokens = do
  o ← step_operator token
  rest ← behind_token (codes ";") tokens
  Some (step k o, rest)

-- the statement about the field of this number that goes on with this token
abbrev pub statement_behind : List Field → ℕ → List ℕ → List (List ℕ) → Read Code
statement_behind fields k token tokens =
    if bytes_eq token (codes "=") then assignment_at fields k tokens else step_at k token tokens

-- the statement that stands first, and what stands behind it
unfoldable pub statement_at : List Field → List (List ℕ) → Read Code
statement_at fields [] = None
statement_at fields (name ∷ []) = None
statement_at fields (name ∷ token ∷ tokens) = field_number fields name >>= λ k. statement_behind fields k token tokens
