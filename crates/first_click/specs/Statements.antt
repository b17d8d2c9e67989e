-- The statements that tokens spell, and the methods that members define.
use Rattle.std.specs.Prelude.{◌≡◌, ℕ, List, [], ◌∷◌, ◌++◌, codes, Option, Some, None, if◌then◌else◌}
use Rattle.std.specs.Str.{bytes_eq}
use Rattle.cs_ast.specs.declared.code.Code.{Code}
use Rattle.cs_ast.specs.declared.code.Code.TheVariants as code
use Rattle.cs_ast.specs.declared.code.Variable.TheVariants as variable
use Rattle.cs_ast.specs.declared.operators.AssignOp.TheVariants.{Set}
use Rattle.cs_ast.specs.declared.operators.StepOp.{StepOp}
use Rattle.cs_ast.specs.declared.operators.StepOp.TheVariants.{Increment, Decrement}
use Rattle.first_click.specs.declared.component.Field.{Field}
use Rattle.first_click.specs.declared.component.Method.{Method}
use Rattle.first_click.specs.Expressions.{Expresses, field_number}
use Rattle.first_click.specs.Members.{Member, field, method}
use Rattle.first_click.specs.Walks.{Walk}

-- a field with this number gets the value of the expression
abbrev pub assignment : ℕ → Code → Code
assignment k e = code.Perform (code.Assign (variable.Field k) Set e)

-- a field with this number is raised or lowered by one
abbrev pub step : ℕ → StepOp → Code
step k o = code.Perform (code.Step (variable.Field k) o)

-- what `++` and `--` do
unfoldable pub step_operator : List ℕ → Option StepOp
step_operator token =
    if bytes_eq token (codes "++") then Some Increment
    else if bytes_eq token (codes "--") then Some Decrement
    else None

-- over these fields this statement stands first, and leaves these tokens behind it
pub data StatementStands (fields : List Field) : List (List ℕ) → Code → List (List ℕ) → Type 0 where
  -- `name = expression;`
  assigns : (name : List ℕ) (k : ℕ) (inside rest : List (List ℕ)) (e : Code) → field_number fields name ≡ Some k →
      Expresses fields 0 inside e → StatementStands fields (name ∷ codes "=" ∷ (inside ++ codes ";" ∷ rest)) (assignment k e) rest
  -- `name++;` or `name--;`
  steps : (name : List ℕ) (k : ℕ) (token : List ℕ) (o : StepOp) (rest : List (List ℕ)) → field_number fields name ≡ Some k →
      step_operator token ≡ Some o → StatementStands fields (name ∷ token ∷ codes ";" ∷ rest) (step k o) rest

-- the method of this name with these statements
abbrev pub method_of : List ℕ → List Code → Method
method_of name statements = record { name = name; body = code.Block statements }

-- over these fields the members define these methods
pub data Defines (fields : List Field) : List Member → List Method → Type 0 where
  no_more : Defines fields [] []
  past_field : (name digits : List ℕ) (members : List Member) (methods : List Method) →
      Defines fields members methods → Defines fields (field name digits ∷ members) methods
  one_more : (name : List ℕ) (body : List (List ℕ)) (statements : List Code) (members : List Member) (methods : List Method) →
      Walk (StatementStands fields) body statements [] → Defines fields members methods →
      Defines fields (method name body ∷ members) (method_of name statements ∷ methods)
