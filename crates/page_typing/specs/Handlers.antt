-- What a handler runs.
use Rattle.std.specs.Prelude.{◌≡◌, ℕ, List, [], ◌∷◌, ◌++◌, Some}
use Rattle.cs_ast.specs.Bodies.{code_at}
use Rattle.cs_ast.specs.declared.code.Code.{Code}
use Rattle.cs_ast.specs.declared.value.Value.{Value}
use Rattle.cs_meaning.specs.Meaning.{Setting, body_meaning}
use Rattle.cs_meaning.specs.State.{State, over}
use Rattle.cs_typing.specs.Outcomes.{Fits, no_jump}
use Rattle.cs_typing.specs.States.{Keeps}
use Rattle.cs_typing.specs.Types.{Types}

-- the body of a number is there; over these captures and what the event hands over it is never stuck, and what outlives it keeps its types
abbrev pub RunsAmong : Types → Setting → ℕ → List Value → Value → State → Type 0
RunsAmong types around place captures given s =
    (code : Code) × (code_at around.bodies place ≡ Some code) × Fits (no_jump types) (λ x s1. Keeps types s1) (body_meaning around code (over (captures ++ given ∷ []) s))
