-- What operators give of their operands. Sums, differences and products wrap at 32 bits.
use Rattle.std.specs.Prelude.{ℤ, pos, negsuc, ◌+ℤ◌, ◌-ℤ◌, ◌*ℤ◌, int_lt, int_le, int_div, int_rem, ◌-◌, ◌^◌, ◌&&◌, ◌||◌, not, if◌then◌else◌, is_some, Option, Bool}
use Rattle.std.specs.Int.{int_wrap, w32}
use Rattle.std.specs.Ordering.{int_eq}
use Rattle.cs_ast.specs.Texts.{text_of}
use Rattle.cs_ast.specs.declared.value.Value.{Value}
use Rattle.cs_ast.specs.declared.value.Value.TheVariants as v
use Rattle.cs_ast.specs.declared.operators.BinaryOp.{BinaryOp}
use Rattle.cs_ast.specs.declared.operators.BinaryOp.TheVariants as binary
use Rattle.cs_ast.specs.declared.operators.CastOp.{CastOp}
use Rattle.cs_ast.specs.declared.operators.StepOp.{StepOp}
use Rattle.cs_ast.specs.declared.operators.StepOp.TheVariants as step
use Rattle.cs_ast.specs.declared.operators.UnaryOp.{UnaryOp}
use Rattle.cs_ast.specs.declared.operators.UnaryOp.TheVariants as unary
use Rattle.cs_meaning.specs.declared.fault.Fault.TheVariants.{DivideByZero, Overflow}
use Rattle.cs_meaning.specs.Outcome.{gives, faults, stuck, Meaning, and_then, found}
use Rattle.cs_meaning.specs.Kinds.{number_of, truth_of, string_of, is_null}
use Rattle.cs_meaning.specs.Equality.{is_same}
use Rattle.cs_meaning.specs.NewValues.{new_text, appended}

-- a quotient or a remainder: by 0 there is none, and of the least number by -1 it overflows
abbrev pub divided : ℤ → ℤ → ℤ → Meaning
divided x y result s =
    if int_eq y (pos 0) then faults DivideByZero s
    else if int_eq x (negsuc (2 ^ 31 - 1)) && int_eq y (negsuc 0) then faults Overflow s
    else gives (v.Int result) s

-- an operator between two numbers; quotients are cut toward zero
abbrev pub of_numbers : BinaryOp → ℤ → ℤ → Meaning
of_numbers binary.Less x y s = gives (v.Bool (int_lt x y)) s
of_numbers binary.Greater x y s = gives (v.Bool (int_lt y x)) s
of_numbers binary.LessOrEqual x y s = gives (v.Bool (int_le x y)) s
of_numbers binary.GreaterOrEqual x y s = gives (v.Bool (int_le y x)) s
of_numbers binary.Add x y s = gives (v.Int (int_wrap w32 (x +ℤ y))) s
of_numbers binary.Subtract x y s = gives (v.Int (int_wrap w32 (x -ℤ y))) s
of_numbers binary.Multiply x y s = gives (v.Int (int_wrap w32 (x *ℤ y))) s
of_numbers binary.Divide x y s = divided x y (int_div x y) s
of_numbers binary.Remainder x y s = divided x y (int_rem x y) s
of_numbers _ x y s = stuck

-- the same, where both are numbers
abbrev pub between_numbers : BinaryOp → Option ℤ → Option ℤ → Meaning
between_numbers op x y s = and_then (found x s) (λ m s1. and_then (found y s1) (λ n s2. of_numbers op m n s2))

-- a text, or null, which may be the value of a text
abbrev pub may_be_text : Value → Bool
may_be_text x = is_null x || is_some (string_of x)

-- `+` joins what the two show where one of them may be a text, and adds numbers
abbrev pub added : Value → Value → Meaning
added x y s = if may_be_text x || may_be_text y then new_text (appended (text_of x) (text_of y)) s else between_numbers binary.Add (number_of x) (number_of y) s

-- an operator between two values that are both there
abbrev pub of_values : BinaryOp → Value → Value → Meaning
of_values binary.Equal x y s = gives (v.Bool (is_same x y)) s
of_values binary.NotEqual x y s = gives (v.Bool (not (is_same x y))) s
of_values binary.Add x y s = added x y s
of_values op x y s = between_numbers op (number_of x) (number_of y) s

-- an operator before its operand
abbrev pub of_value : UnaryOp → Value → Meaning
of_value unary.Minus x s = and_then (found (number_of x) s) (λ n s1. gives (v.Int (int_wrap w32 (pos 0 -ℤ n))) s1)
of_value unary.Plus x s = and_then (found (number_of x) s) (λ n s1. gives (v.Int n) s1)
of_value unary.Not x s = and_then (found (truth_of x) s) (λ truth s1. gives (v.Bool (not truth)) s1)

-- a text in the type of a text, or null
abbrev pub cast : CastOp → Value → Meaning
cast op x s = if may_be_text x then gives x s else stuck

-- the operator by which `++` or `--` joins 1 to a number
abbrev pub operator_of : StepOp → BinaryOp
operator_of step.Increment = binary.Add
operator_of step.Decrement = binary.Subtract
