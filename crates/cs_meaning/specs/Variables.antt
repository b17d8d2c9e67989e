-- Own fields and locals that change. An assignment stands where its value isn't used, and gives null.
use Rattle.std.specs.Prelude.{ℕ, pos, nat_lt, is_some, if◌then◌else◌, codes, List, length, slice_get, slice_set, option_map, Option, Some, None, true, false}
use Rattle.std.specs.Str.{bytes_eq}
use Rattle.text_core.specs.Decimal.{i32_of}
use Rattle.cs_ast.specs.declared.value.Value.{Value}
use Rattle.cs_ast.specs.declared.value.Value.TheVariants as v
use Rattle.cs_ast.specs.declared.code.BindKind.{BindKind}
use Rattle.cs_ast.specs.declared.code.BindKind.TheVariants as bind
use Rattle.cs_ast.specs.declared.code.Variable.{Variable}
use Rattle.cs_ast.specs.declared.code.Variable.TheVariants as variable
use Rattle.cs_ast.specs.declared.operators.AssignOp.{AssignOp}
use Rattle.cs_ast.specs.declared.operators.AssignOp.TheVariants as assign
use Rattle.cs_ast.specs.declared.operators.BinaryOp.{BinaryOp}
use Rattle.cs_ast.specs.declared.operators.BinaryOp.TheVariants as binary
use Rattle.cs_ast.specs.declared.operators.StepOp.{StepOp}
use Rattle.cs_meaning.specs.State.{with_field, State, state, over, with_local}
use Rattle.cs_meaning.specs.Outcome.{stuck, Meaning, and_then, found}
use Rattle.cs_meaning.specs.Kinds.{number_of, string_of}
use Rattle.cs_meaning.specs.Operators.{of_numbers, of_values, operator_of}
use Rattle.cs_meaning.specs.Scopes.{nothing}

-- the value that a variable has
abbrev pub value_at : ℕ → Variable → State → Option Value
value_at who (variable.Field at) s = s.fields who at
value_at who (variable.Local at) s = slice_get s.locals at

-- a variable has this value from now on
abbrev pub put : ℕ → Variable → Value → Meaning
put who (variable.Field at) x s = if is_some (s.fields who at) then nothing (state s.locals (with_field s.fields who at x) s.receivers s.left) else stuck
put who (variable.Local at) x s = if nat_lt at (length s.locals) then nothing (over (slice_set s.locals at x) s) else stuck

-- the operator of `+=` and its kin; `=` has none
abbrev pub operator_in : AssignOp → Option BinaryOp
operator_in assign.Set = None
operator_in assign.Add = Some binary.Add
operator_in assign.Subtract = Some binary.Subtract
operator_in assign.Multiply = Some binary.Multiply
operator_in assign.Divide = Some binary.Divide
operator_in assign.Remainder = Some binary.Remainder

-- `x = e`, or `x += e` and its kin, which read the old value before e
abbrev pub assigned : ℕ → Variable → Option BinaryOp → Meaning → Meaning
assigned who target None e s = and_then (e s) (λ x s1. put who target x s1)
assigned who target (Some op) e s = and_then (found (value_at who target s) s) (λ old s1. and_then (e s1) (λ x s2. and_then (of_values op old x s2) (λ y s3. put who target y s3)))

-- `x++` or `x--`: one more, or one less
abbrev pub stepped : ℕ → Variable → StepOp → Meaning
stepped who target op s = and_then (found (value_at who target s) s) (λ x s1. and_then (found (number_of x) s1) (λ n s2. and_then (of_numbers (operator_of op) n (pos 1) s2) (λ y s3. put who target y s3)))

-- a new local with the value of an expression
abbrev pub declared_as : Meaning → Meaning
declared_as e s = and_then (e s) (λ x s1. nothing (with_local x s1))

-- the value that a bound field takes from a text, where it can be read
abbrev pub readable : BindKind → List ℕ → Option Value
readable bind.Text text = Some (v.Text text)
readable bind.Int text = option_map (λ n. v.Int n) (i32_of text)
readable bind.Bool text = if bytes_eq text (codes "true") then Some (v.Bool true) else if bytes_eq text (codes "True") then Some (v.Bool true) else if bytes_eq text (codes "false") then Some (v.Bool false) else if bytes_eq text (codes "False") then Some (v.Bool false) else None

-- a field takes this value; where there is none, it stays
abbrev pub put_if_there : ℕ → ℕ → Option Value → Meaning
put_if_there who at (Some x) s = put who (variable.Field at) x s
put_if_there who at None s = nothing s

-- a bound field and the text of an event, which is the first local
abbrev pub bound : ℕ → ℕ → BindKind → Meaning
bound who at kind s = and_then (found (slice_get s.locals 0) s) (λ x s1. and_then (found (string_of x) s1) (λ text s2. put_if_there who at (readable kind text) s2))
