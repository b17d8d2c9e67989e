-- The operators and words of each kind.
use Rattle.std.specs.Prelude.{ℕ, Bool, true, false, Option, Some, None}
use Rattle.cs_ast.specs.declared.cs_type.TypeKind.{TypeKind}
use Rattle.cs_ast.specs.declared.cs_type.TypeKind.TheVariants as ty
use Rattle.cs_ast.specs.declared.expression.ExprKind.{ExprKind}
use Rattle.cs_ast.specs.declared.expression.ExprKind.TheVariants as ek
use Rattle.cs_ast.specs.declared.operators.AssignOp.{AssignOp}
use Rattle.cs_ast.specs.declared.operators.AssignOp.TheVariants as ao
use Rattle.cs_ast.specs.declared.operators.BinaryOp.{BinaryOp}
use Rattle.cs_ast.specs.declared.operators.BinaryOp.TheVariants as bo
use Rattle.cs_ast.specs.declared.operators.StaticType.{StaticType}
use Rattle.cs_ast.specs.declared.operators.StaticType.TheVariants as sy
use Rattle.cs_ast.specs.declared.operators.StepOp.{StepOp}
use Rattle.cs_ast.specs.declared.operators.StepOp.TheVariants as so
use Rattle.cs_ast.specs.declared.operators.UnaryOp.{UnaryOp}
use Rattle.cs_ast.specs.declared.operators.UnaryOp.TheVariants as uo
use Rattle.cs_token.specs.declared.token.Sign.{Sign}
use Rattle.cs_token.specs.declared.token.Sign.TheVariants as s
use Rattle.cs_token.specs.declared.token.Word.{Word}
use Rattle.cs_token.specs.declared.token.Word.TheVariants as w

-- the operators between two operands
unfoldable pub operator : Sign → Option BinaryOp
operator s.QuestionQuestion = Some bo.Coalesce
operator s.Or = Some bo.Or
operator s.And = Some bo.And
operator s.Equal = Some bo.Equal
operator s.NotEqual = Some bo.NotEqual
operator s.Less = Some bo.Less
operator s.Greater = Some bo.Greater
operator s.LessOrEqual = Some bo.LessOrEqual
operator s.GreaterOrEqual = Some bo.GreaterOrEqual
operator s.Plus = Some bo.Add
operator s.Minus = Some bo.Subtract
operator s.Star = Some bo.Multiply
operator s.Slash = Some bo.Divide
operator s.Percent = Some bo.Remainder
operator _ = None

-- the level of an operation, greater where it holds its operands more tightly
unfoldable pub level : BinaryOp → ℕ
level bo.Coalesce = 2
level bo.Or = 4
level bo.And = 5
level bo.Equal = 6
level bo.NotEqual = 6
level bo.Less = 7
level bo.Greater = 7
level bo.LessOrEqual = 7
level bo.GreaterOrEqual = 7
level bo.Add = 8
level bo.Subtract = 8
level bo.Multiply = 9
level bo.Divide = 9
level bo.Remainder = 9

-- the level of its left operand: its own where it joins to the left
unfoldable pub left_level : BinaryOp → ℕ
left_level bo.Coalesce = 3
left_level op = level op

-- the level of its right operand: its own where it joins to the right
unfoldable pub right_level : BinaryOp → ℕ
right_level bo.Coalesce = 2
right_level bo.Or = 5
right_level bo.And = 6
right_level bo.Equal = 7
right_level bo.NotEqual = 7
right_level bo.Less = 8
right_level bo.Greater = 8
right_level bo.LessOrEqual = 8
right_level bo.GreaterOrEqual = 8
right_level bo.Add = 9
right_level bo.Subtract = 9
right_level bo.Multiply = 10
right_level bo.Divide = 10
right_level bo.Remainder = 10

-- the operators before an operand
unfoldable pub unary_operator : Sign → Option UnaryOp
unary_operator s.Minus = Some uo.Minus
unary_operator s.Plus = Some uo.Plus
unary_operator s.Not = Some uo.Not
unary_operator _ = None

-- the signs of assignments
unfoldable pub assignment : Sign → Option AssignOp
assignment s.Assign = Some ao.Set
assignment s.AddAssign = Some ao.Add
assignment s.SubtractAssign = Some ao.Subtract
assignment s.MultiplyAssign = Some ao.Multiply
assignment s.DivideAssign = Some ao.Divide
assignment s.RemainderAssign = Some ao.Remainder
assignment _ = None

-- the signs of steps
unfoldable pub step_operator : Sign → Option StepOp
step_operator s.PlusPlus = Some so.Increment
step_operator s.MinusMinus = Some so.Decrement
step_operator _ = None

-- the words that are values
unfoldable pub literal : Word → Option ExprKind
literal w.True = Some (ek.Bool true)
literal w.False = Some (ek.Bool false)
literal w.Null = Some ek.Null
literal _ = None

-- the types whose members are named behind them
unfoldable pub static_type : Word → Option StaticType
static_type w.Int = Some sy.Int
static_type w.String = Some sy.Text
static_type _ = None

-- the types that are one word, and whether they can be null
unfoldable pub plain_type : Word → Option (TypeKind × Bool)
plain_type w.Int = Some (ty.Int, false)
plain_type w.Bool = Some (ty.Bool, false)
plain_type w.String = Some (ty.Text, true)
plain_type w.ChangeEventArgs = Some (ty.Change, false)
plain_type w.EventArgs = Some (ty.Args, false)
plain_type w.MouseEventArgs = Some (ty.Args, false)
plain_type w.KeyboardEventArgs = Some (ty.Args, false)
plain_type w.FocusEventArgs = Some (ty.Args, false)
plain_type _ = None

-- the modifiers of members, which mean nothing
unfoldable pub is_modifier : Word → Bool
is_modifier w.Private = true
is_modifier w.Public = true
is_modifier w.Protected = true
is_modifier w.Internal = true
is_modifier w.Override = true
is_modifier _ = false
