-- Which types operators and members of the library take, and which they give.
use Rattle.std.specs.Prelude.{◌≡◌, List, [], ◌∷◌, Option, Some}
use Rattle.cs_ast.specs.declared.cs_type.CsType.{CsType}
use Rattle.cs_ast.specs.declared.cs_type.CsType.TheVariants as t
use Rattle.cs_ast.specs.declared.code.BindKind.{BindKind}
use Rattle.cs_ast.specs.declared.code.BindKind.TheVariants as bind
use Rattle.cs_ast.specs.declared.code.LibraryMember.{LibraryMember}
use Rattle.cs_ast.specs.declared.code.LibraryMember.TheVariants as member
use Rattle.cs_ast.specs.declared.operators.AssignOp.{AssignOp}
use Rattle.cs_ast.specs.declared.operators.AssignOp.TheVariants as assign
use Rattle.cs_ast.specs.declared.operators.BinaryOp.{BinaryOp}
use Rattle.cs_ast.specs.declared.operators.BinaryOp.TheVariants as binary
use Rattle.cs_ast.specs.declared.operators.UnaryOp.{UnaryOp}
use Rattle.cs_ast.specs.declared.operators.UnaryOp.TheVariants as unary
use Rattle.cs_meaning.specs.Variables.{operator_in}

-- a type whose values show a text
pub data Shows : CsType → Type 0 where
  int : Shows t.Int
  bool : Shows t.Bool
  text : Shows t.Text

-- an operator before an operand of the first type gives the second
pub data UnaryTakes : UnaryOp → CsType → CsType → Type 0 where
  minus : UnaryTakes unary.Minus t.Int t.Int
  plus : UnaryTakes unary.Plus t.Int t.Int
  not : UnaryTakes unary.Not t.Bool t.Bool

-- an operator that gives a number of two
pub data IsArithmetic : BinaryOp → Type 0 where
  add : IsArithmetic binary.Add
  subtract : IsArithmetic binary.Subtract
  multiply : IsArithmetic binary.Multiply
  divide : IsArithmetic binary.Divide
  remainder : IsArithmetic binary.Remainder

-- an operator that orders two numbers
pub data IsOrder : BinaryOp → Type 0 where
  less : IsOrder binary.Less
  greater : IsOrder binary.Greater
  less_or_equal : IsOrder binary.LessOrEqual
  greater_or_equal : IsOrder binary.GreaterOrEqual

-- an operator between two values of the first two types, both of which are there, gives the third
pub data Combines : BinaryOp → CsType → CsType → CsType → Type 0 where
  arithmetic : (op : BinaryOp) → IsArithmetic op → Combines op t.Int t.Int t.Int
  ordering : (op : BinaryOp) → IsOrder op → Combines op t.Int t.Int t.Bool
  equal : (one other : CsType) → Combines binary.Equal one other t.Bool
  not_equal : (one other : CsType) → Combines binary.NotEqual one other t.Bool
  text_first : (shown : CsType) → Shows shown → Combines binary.Add t.Text shown t.Text
  text_second : (shown : CsType) → Shows shown → Combines binary.Add shown t.Text t.Text

-- an operator between two operands, the second of which `&&`, `||` and `??` may leave out
pub data BinaryTakes : BinaryOp → CsType → CsType → CsType → Type 0 where
  combined : (op : BinaryOp) (one other type : CsType) → Combines op one other type → BinaryTakes op one other type
  both : BinaryTakes binary.And t.Bool t.Bool t.Bool
  either : BinaryTakes binary.Or t.Bool t.Bool t.Bool
  coalesce : (type : CsType) → BinaryTakes binary.Coalesce type type type

-- an assignment to a variable of the first type takes a value of the second
pub data AssignTakes : AssignOp → CsType → CsType → Type 0 where
  set : (type : CsType) → AssignTakes assign.Set type type
  changed : (op : AssignOp) (by : BinaryOp) (type value : CsType) → operator_in op ≡ Some by → Combines by type value type → AssignTakes op type value

-- a member of the library over a target, if it has one, and arguments of these types gives that type
pub data LibraryTakes : LibraryMember → List CsType → CsType → Type 0 where
  length : LibraryTakes member.Length (t.Text ∷ []) t.Int
  to_text : (shown : CsType) → Shows shown → LibraryTakes member.ToText (shown ∷ []) t.Text
  is_null_or_empty : LibraryTakes member.IsNullOrEmpty (t.Text ∷ []) t.Bool
  empty_list : (type : CsType) → LibraryTakes member.EmptyList [] (t.List type)
  count : (type : CsType) → LibraryTakes member.Count (t.List type ∷ []) t.Int
  add : (type : CsType) → LibraryTakes member.Add (t.List type ∷ type ∷ []) (t.List type)
  insert : (type : CsType) → LibraryTakes member.Insert (t.List type ∷ t.Int ∷ type ∷ []) (t.List type)
  remove_at : (type : CsType) → LibraryTakes member.RemoveAt (t.List type ∷ t.Int ∷ []) (t.List type)
  set_item : (type : CsType) → LibraryTakes member.SetItem (t.List type ∷ t.Int ∷ type ∷ []) (t.List type)
  has_delegate : (argument : Option CsType) → LibraryTakes member.HasDelegate (t.Callback argument ∷ []) t.Bool
  change_value : LibraryTakes member.ChangeValue (t.Change ∷ []) t.Text

-- the types that `@bind` reads a text as
pub data Binds : BindKind → CsType → Type 0 where
  int : Binds bind.Int t.Int
  bool : Binds bind.Bool t.Bool
  text : Binds bind.Text t.Text
