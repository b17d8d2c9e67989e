-- Which programs are accepted.
use Rattle.std.specs.Prelude.{◌≡◌, ℕ, List, Some}
use Rattle.cs_ast.specs.Bodies.{code_at}
use Rattle.cs_ast.specs.declared.code.Code.{Code}
use Rattle.cs_ast.specs.declared.expression.Body.{Body}
use Rattle.cs_ast.specs.declared.scope.Scope.{Scope}
use Rattle.cs_meaning.specs.Meaning.{Setting}
use Rattle.cs_typing.specs.Types.{Signature, Types}
use Rattle.cs_typing.specs.Expressions.{Surroundings}
use Rattle.cs_typing.specs.Bodies.{surroundings_of}
use Rattle.cs_typing.specs.States.{FieldsHave}
use Rattle.cs_accepted.specs.Scopes.{ScopeFits}
use Rattle.cs_accepted.specs.Bodies.{Accepts}

-- code of a body that is accepted in a scope which says what the types say, with the result of its signature
pub record AcceptedAs (types : Types) (body : Signature) (code : Code) : Type 0 where
  pub scope : Scope
  pub tree : Body
  pub accepts : Accepts scope tree code
  pub scope_fits : ScopeFits (surroundings_of types body) body.locals scope
  pub result_is : scope.result ≡ body.result

-- every number with a signature has such code
pub record ProgramAccepted (types : Types) (bodies : List (ℕ × Code)) : Type 0 where
  pub has : (number : ℕ) (body : Signature) → types.bodies number ≡ Some body → (code : Code) × (code_at bodies number ≡ Some code) × AcceptedAs types body code

-- code is run with an accepted program, for an instance of its component that is there, among parameters that have their types
pub record SettingAccepted (at : Surroundings) (around : Setting) : Type 0 where
  pub there : at.types.instances around.who ≡ Some at.component
  pub parameters_have : FieldsHave at.types at.types.parameters around.parameters
  pub program : ProgramAccepted at.types around.bodies
