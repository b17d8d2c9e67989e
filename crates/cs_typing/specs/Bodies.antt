-- Which programs keep to their types.
use Rattle.std.specs.Prelude.{◌≡◌, ℕ, true, false, List, Some}
use Rattle.cs_ast.specs.declared.cs_type.CsType.{CsType}
use Rattle.cs_ast.specs.declared.cs_type.CsType.TheVariants as t
use Rattle.cs_ast.specs.declared.code.Code.{Code}
use Rattle.cs_ast.specs.Bodies.{code_at}
use Rattle.cs_typing.specs.Types.{Signature, Types}
use Rattle.cs_typing.specs.Expressions.{Surroundings, CodeHas}
use Rattle.cs_typing.specs.Statements.{jumps, Runs}

-- where the body of a signature stands
abbrev pub surroundings_of : Types → Signature → Surroundings
surroundings_of types body = record { types = types; component = body.component }

-- a body keeps to its signature: an expression with its result, or a statement that jumps out of it nowhere and whose end can't be reached where it has a result
pub data BodyHas (types : Types) (body : Signature) : Code → Type 0 where
  expression : (a : Code) → CodeHas (surroundings_of types body) body.locals body.result a → BodyHas types body a
  returning : (inner : List CsType) (a : Code) → Runs (surroundings_of types body) body.result (jumps false false) body.locals inner false a → BodyHas types body a
  ending : (inner : List CsType) (a : Code) →
      body.result ≡ t.Nothing → Runs (surroundings_of types body) body.result (jumps false false) body.locals inner true a → BodyHas types body a

-- every number with a signature has code that keeps to it
pub record BodiesHave (types : Types) (bodies : List (ℕ × Code)) : Type 0 where
  pub has : (number : ℕ) (body : Signature) → types.bodies number ≡ Some body → (a : Code) × (code_at bodies number ≡ Some a) × BodyHas types body a
