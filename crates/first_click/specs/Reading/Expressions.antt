-- How expressions are read, from the left.
use Rattle.std.specs.Prelude.{◌≡◌, ℕ, zero, suc, ◌+◌, nat_le, List, [], ◌∷◌, Option, Some, None, Result, Ok, Err, codes, if◌then◌else◌}
use Rattle.std.specs.Str.{bytes_eq}
use Rattle.cs_ast.specs.declared.code.Code.{Code}
use Rattle.cs_ast.specs.declared.code.Code.TheVariants as code
use Rattle.cs_ast.specs.declared.operators.BinaryOp.{BinaryOp}
use Rattle.first_click.specs.declared.component.Field.{Field}
use Rattle.first_click.specs.declared.stop.Stop.{Stop}
use Rattle.first_click.specs.declared.stop.Stop.TheVariants as stop
use Rattle.first_click.specs.Expressions.{leaf, operator, tightness}
use Rattle.first_click.specs.Options.{◌>>=◌}

-- what is read, and the tokens behind it
abbrev pub Read : Type 0 → Type 0
Read A = Option (A × List (List ℕ))

-- the tokens behind this one, where it stands first
abbrev pub behind_token : List ℕ → List (List ℕ) → Option (List (List ℕ))
behind_token wanted [] = None
behind_token wanted (token ∷ tokens) = if bytes_eq token wanted then Some tokens else None

-- what can be read at the front of tokens: an expression of a level, and what goes on behind an expression
pub record Reads : Type 0 where
  pub expression : ℕ → Read Code
  pub operations : ℕ → Code → Read Code

-- nothing is read
abbrev pub nothing : Reads
nothing = record { expression = λ level. None; operations = λ level a. None }

module _ (fields : List Field) (self : List (List ℕ) → Reads) where
  -- what stands in round brackets, from behind the first on
  abbrev pub bracketed : List (List ℕ) → Read Code
  bracketed tokens = (self tokens).expression 0 >>= λ x. (behind_token (codes ")") x.1 >>= λ rest. Some (x.0, rest))

  -- the operand that begins with this token
  abbrev pub operand : List ℕ → List (List ℕ) → Read Code
  operand token tokens =
      if bytes_eq token (codes "(") then bracketed tokens else (leaf fields token >>= λ a. Some (a, tokens))

  -- an operand, and what goes on behind it
  abbrev pub expression : ℕ → List (List ℕ) → Read Code
  expression level [] = None
  expression level (token ∷ tokens) = operand token tokens >>= λ x. (self x.1).operations level x.0

  -- the right operand of this operator, and what goes on behind it
  abbrev pub binary : ℕ → Code → BinaryOp → List (List ℕ) → Read Code
  binary level a o tokens = (self tokens).expression (tightness o + 1) >>= λ x. (self x.1).operations level (code.Binary o a x.0)

  -- what goes on behind an expression with this token, if it is an operator that holds so tightly
  abbrev pub joined : ℕ → Code → Option BinaryOp → List ℕ → List (List ℕ) → Read Code
  joined level a None token tokens = Some (a, token ∷ tokens)
  joined level a (Some o) token tokens =
      if nat_le level (tightness o) then binary level a o tokens else Some (a, token ∷ tokens)

  -- what goes on behind an expression
  abbrev pub operations : ℕ → Code → List (List ℕ) → Read Code
  operations level a [] = Some (a, [])
  operations level a (token ∷ tokens) = joined level a (operator token) token tokens

  -- both readers, made of those that may be inside them
  abbrev pub step : List (List ℕ) → Reads
  step tokens = record { expression = λ level. expression level tokens; operations = λ level a. operations level a tokens }

-- with at most so many readers inside one another
unfoldable pub within : List Field → ℕ → List (List ℕ) → Reads
within fields zero tokens = nothing
within fields (suc n) tokens = step fields (within fields n) tokens

-- an expression of a level
abbrev pub expression_in : List Field → ℕ → ℕ → List (List ℕ) → Read Code
expression_in fields n level tokens = (within fields n tokens).expression level

-- what goes on behind an expression, at a level
abbrev pub operations_in : List Field → ℕ → ℕ → Code → List (List ℕ) → Read Code
operations_in fields n level a tokens = (within fields n tokens).operations level a

-- a reader that stopped found nothing, unless memory ran out
abbrev pub Fails : {Y : Type 0} → Stop → Option Y → Type 0
Fails stop.Oom read = Unit {0}
Fails stop.Nothing read = read ≡ None

-- what a reader returned, seen by view, is what reading gives
abbrev pub Gives : {X Y : Type 0} → (X → Y) → Result X Stop → Option Y → Type 0
Gives view (Ok x) read = read ≡ Some (view x)
Gives view (Err e) read = Fails e read
