-- What operators take and give. Of two operands the first that has no allowed type is wrong, and where only the pair is, the second.
use Rattle.std.specs.Prelude.{List, Bool, true, false, ◌&&◌, ◌||◌, if◌then◌else◌, Option, Some, None}
use Rattle.text_core.specs.declared.place.Place.{Place}
use Rattle.cs_ast.specs.declared.cs_type.CsType.{CsType}
use Rattle.cs_ast.specs.declared.cs_type.CsType.TheVariants as t
use Rattle.cs_ast.specs.declared.member.Member.{Member}
use Rattle.cs_ast.specs.declared.operators.AssignOp.{AssignOp}
use Rattle.cs_ast.specs.declared.operators.AssignOp.TheVariants as assign
use Rattle.cs_ast.specs.declared.operators.BinaryOp.{BinaryOp}
use Rattle.cs_ast.specs.declared.operators.BinaryOp.TheVariants as binary
use Rattle.cs_ast.specs.declared.operators.CastOp.{CastOp}
use Rattle.cs_ast.specs.declared.operators.CastOp.TheVariants as cast
use Rattle.cs_ast.specs.declared.operators.UnaryOp.{UnaryOp}
use Rattle.cs_ast.specs.declared.operators.UnaryOp.TheVariants as unary
use Rattle.cs_rules.specs.declared.rule.Rule.TheVariants.{TypeMismatch}
use Rattle.cs_rules.specs.declared.checked.ExprType.{ExprType}
use Rattle.cs_rules.specs.declared.checked.ExprType.TheVariants.{Of, Null, Markup}
use Rattle.cs_rules.specs.Judged.{Judged, fine, mismatch, known, ◌>>=◌}
use Rattle.cs_rules.specs.Types.{same_type, may_be_null, has_values, common_type, wants}
use Rattle.cs_rules.specs.Written.{is_comparable}

-- the type that an operator before its operand takes and gives
unfoldable pub unary_type : UnaryOp → CsType
unary_type unary.Not = t.Bool
unary_type _ = t.Int

-- the type that a cast gives of a text
unfoldable pub cast_type : CastOp → ExprType
cast_type cast.Text = Of t.Text
cast_type cast.Markup = Markup

-- the type that an operator takes on both sides, where it is one
unfoldable pub taken_type : BinaryOp → Option CsType
taken_type binary.Or = Some t.Bool
taken_type binary.And = Some t.Bool
taken_type binary.Less = Some t.Int
taken_type binary.Greater = Some t.Int
taken_type binary.LessOrEqual = Some t.Int
taken_type binary.GreaterOrEqual = Some t.Int
taken_type binary.Subtract = Some t.Int
taken_type binary.Multiply = Some t.Int
taken_type binary.Divide = Some t.Int
taken_type binary.Remainder = Some t.Int
taken_type _ = None

-- the type that such an operator gives
unfoldable pub given_type : BinaryOp → CsType
given_type binary.Subtract = t.Int
given_type binary.Multiply = t.Int
given_type binary.Divide = t.Int
given_type binary.Remainder = t.Int
given_type _ = t.Bool

unfoldable pub is_text : ExprType → Bool
is_text (Of t.Text) = true
is_text _ = false

-- what can be joined to a text
unfoldable pub is_shown : ExprType → Bool
is_shown (Of t.Int) = true
is_shown (Of t.Bool) = true
is_shown (Of t.Text) = true
is_shown Null = true
is_shown _ = false

unfoldable pub shown : Place → ExprType → Judged (Unit {0})
shown place given = if is_shown given then fine tt else mismatch place

-- what may be null
unfoldable pub is_nullable : ExprType → Bool
is_nullable (Of given) = may_be_null given
is_nullable Null = true
is_nullable Markup = false

-- what there are values of
unfoldable pub is_value : ExprType → Bool
is_value (Of given) = has_values given
is_value Null = true
is_value Markup = false

-- both sides of one type
abbrev pub alike : CsType → CsType → Place → ExprType → Place → ExprType → Judged ExprType
alike taken given first a second b = do
  x ← wants taken first a
  y ← wants taken second b
  fine (Of given)

-- `+` joins where a text is on one side, and else it adds
unfoldable pub sum_type : Place → ExprType → Place → ExprType → Judged ExprType
sum_type first a second b =
    if is_text a || is_text b then (do
      x ← shown first a
      y ← shown second b
      fine (Of t.Text))
    else alike t.Int t.Int first a second b

-- the type of either of two values
unfoldable pub either_type : Bool → Place → ExprType → Place → ExprType → Judged ExprType
either_type allowed first a second b = if allowed then known TypeMismatch second (common_type a b) else mismatch first

-- an operator that takes one type on both sides
unfoldable pub plain_type : BinaryOp → Place → ExprType → Place → ExprType → Judged ExprType
plain_type op first a second b = do
  taken ← known TypeMismatch first (taken_type op)
  alike taken (given_type op) first a second b

module _ (records : List Member) where
  -- what may be compared with something
  unfoldable pub may_compare : ExprType → Bool
  may_compare (Of given) = may_be_null given || is_comparable records given
  may_compare Null = true
  may_compare Markup = false

  -- what may be compared with each other: values of one type, or null with what may be null
  unfoldable pub are_compared : ExprType → ExprType → Bool
  are_compared (Of a) (Of b) = same_type a b && is_comparable records a
  are_compared (Of a) Null = may_be_null a
  are_compared Null (Of b) = may_be_null b
  are_compared Null Null = true
  are_compared _ _ = false

  unfoldable pub comparison_type : Place → ExprType → Place → ExprType → Judged ExprType
  comparison_type first a second b =
      if may_compare a then (if are_compared a b then fine (Of t.Bool) else mismatch second) else mismatch first

  -- the type of an operator between two operands, each at its place
  unfoldable pub binary_type : BinaryOp → Place → ExprType → Place → ExprType → Judged ExprType
  binary_type binary.Add first a second b = sum_type first a second b
  binary_type binary.Equal first a second b = comparison_type first a second b
  binary_type binary.NotEqual first a second b = comparison_type first a second b
  binary_type binary.Coalesce first a second b = either_type (is_nullable a) first a second b
  binary_type op first a second b = plain_type op first a second b

-- the operator of `+=` and its kin
unfoldable pub operator_of : AssignOp → Option BinaryOp
operator_of assign.Set = None
operator_of assign.Add = Some binary.Add
operator_of assign.Subtract = Some binary.Subtract
operator_of assign.Multiply = Some binary.Multiply
operator_of assign.Divide = Some binary.Divide
operator_of assign.Remainder = Some binary.Remainder
