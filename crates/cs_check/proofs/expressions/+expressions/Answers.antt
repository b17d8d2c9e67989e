use Rattle.std.proofs.Common.{rules, ap, ◌∙◌}
use Rattle.cs_ast.specs.declared.expression.ExprKind.{ExprKind}
use Rattle.cs_ast.specs.declared.expression.TextPart.{TextPart}
use Rattle.cs_forbidden.specs.Forms.{value_of_kind, callee_of_kind, piece}
use Rattle.cs_forbidden.proofs.FormLaws.{value_law, callee_law, hole_piece}
use Rattle.cs_forbidden.proofs.ExpressionLaws.{int_value, bool_value, null_value, interpolated_value, name_value, unary_value, cast_value, binary_value, conditional_value, with_value, member_value, null_member_value, call_value, index_value, new_value, empty_list_value, static_value, assign_value, step_value, text_value, name_called, member_called, static_called, other_callee}
use Rattle.cs_forms.specs.Views.{scope_of, forbidden_of}
use Rattle.cs_check.proofs.expressions.+expressions.Goals as goal

pub value-returns : goal.value-returns
value-returns t c =
    let form = value_law (forbidden_of c.args.names.now) c.args.e.now (scope_of c.args.names.now) in
    rw form (search rules)

pub callee-returns : goal.callee-returns
callee-returns t c =
    let form = callee_law (forbidden_of c.args.names.now) c.args.e.now (scope_of c.args.names.now) in
    rw form (search rules)

-- each form as a value
pub form-returns-in-Int : goal.form-returns-in-Int
form-returns-in-Int t c =
    let form = ap (λ (kind : ExprKind). value_of_kind (forbidden_of c.args.names.now) kind c.args.place (scope_of c.args.names.now)) c.in-Int.is ∙ int_value (forbidden_of c.args.names.now) c.in-Int.number c.args.place (scope_of c.args.names.now) in
    rw form (search rules)

pub form-returns-in-Bool : goal.form-returns-in-Bool
form-returns-in-Bool t c =
    let form = ap (λ (kind : ExprKind). value_of_kind (forbidden_of c.args.names.now) kind c.args.place (scope_of c.args.names.now)) c.in-Bool.is ∙ bool_value (forbidden_of c.args.names.now) c.in-Bool.truth c.args.place (scope_of c.args.names.now) in
    rw form (search rules)

pub form-returns-in-Null : goal.form-returns-in-Null
form-returns-in-Null t c =
    let form = ap (λ (kind : ExprKind). value_of_kind (forbidden_of c.args.names.now) kind c.args.place (scope_of c.args.names.now)) c.in-Null.is ∙ null_value (forbidden_of c.args.names.now) c.args.place (scope_of c.args.names.now) in
    rw form (search rules)

pub form-returns-in-Interpolated : goal.form-returns-in-Interpolated
form-returns-in-Interpolated t c =
    let form = ap (λ (kind : ExprKind). value_of_kind (forbidden_of c.args.names.now) kind c.args.place (scope_of c.args.names.now)) c.in-Interpolated.is ∙ interpolated_value (forbidden_of c.args.names.now) c.in-Interpolated.parts c.args.place (scope_of c.args.names.now) in
    rw form (search rules)

pub form-returns-in-Name : goal.form-returns-in-Name
form-returns-in-Name t c =
    let form = ap (λ (kind : ExprKind). value_of_kind (forbidden_of c.args.names.now) kind c.args.place (scope_of c.args.names.now)) c.in-Name.is ∙ name_value (forbidden_of c.args.names.now) c.in-Name.name c.args.place (scope_of c.args.names.now) in
    rw form (search rules)

pub form-returns-in-Unary : goal.form-returns-in-Unary
form-returns-in-Unary t c =
    let form = ap (λ (kind : ExprKind). value_of_kind (forbidden_of c.args.names.now) kind c.args.place (scope_of c.args.names.now)) c.in-Unary.is ∙ unary_value (forbidden_of c.args.names.now) c.in-Unary.op c.in-Unary.a c.args.place (scope_of c.args.names.now) in
    rw form (search rules)

pub form-returns-in-Cast : goal.form-returns-in-Cast
form-returns-in-Cast t c =
    let form = ap (λ (kind : ExprKind). value_of_kind (forbidden_of c.args.names.now) kind c.args.place (scope_of c.args.names.now)) c.in-Cast.is ∙ cast_value (forbidden_of c.args.names.now) c.in-Cast.op c.in-Cast.a c.args.place (scope_of c.args.names.now) in
    rw form (search rules)

pub form-returns-in-Binary : goal.form-returns-in-Binary
form-returns-in-Binary t c =
    let form = ap (λ (kind : ExprKind). value_of_kind (forbidden_of c.args.names.now) kind c.args.place (scope_of c.args.names.now)) c.in-Binary.is ∙ binary_value (forbidden_of c.args.names.now) c.in-Binary.op c.in-Binary.a c.in-Binary.b c.args.place (scope_of c.args.names.now) in
    rw form (search rules)

pub form-returns-in-Conditional : goal.form-returns-in-Conditional
form-returns-in-Conditional t c =
    let form = ap (λ (kind : ExprKind). value_of_kind (forbidden_of c.args.names.now) kind c.args.place (scope_of c.args.names.now)) c.in-Conditional.is ∙ conditional_value (forbidden_of c.args.names.now) c.in-Conditional.condition c.in-Conditional.a c.in-Conditional.b c.args.place (scope_of c.args.names.now) in
    rw form (search rules)

pub form-returns-in-With : goal.form-returns-in-With
form-returns-in-With t c =
    let form = ap (λ (kind : ExprKind). value_of_kind (forbidden_of c.args.names.now) kind c.args.place (scope_of c.args.names.now)) c.in-With.is ∙ with_value (forbidden_of c.args.names.now) c.in-With.a c.in-With.parts c.args.place (scope_of c.args.names.now) in
    rw form (search rules)

pub form-returns-in-Member : goal.form-returns-in-Member
form-returns-in-Member t c =
    let form = ap (λ (kind : ExprKind). value_of_kind (forbidden_of c.args.names.now) kind c.args.place (scope_of c.args.names.now)) c.in-Member.is ∙ member_value (forbidden_of c.args.names.now) c.in-Member.a c.in-Member.name c.args.place (scope_of c.args.names.now) in
    rw form (search rules)

pub form-returns-in-NullMember : goal.form-returns-in-NullMember
form-returns-in-NullMember t c =
    let form = ap (λ (kind : ExprKind). value_of_kind (forbidden_of c.args.names.now) kind c.args.place (scope_of c.args.names.now)) c.in-NullMember.is ∙ null_member_value (forbidden_of c.args.names.now) c.in-NullMember.a c.in-NullMember.name c.args.place (scope_of c.args.names.now) in
    rw form (search rules)

pub form-returns-in-Call : goal.form-returns-in-Call
form-returns-in-Call t c =
    let form = ap (λ (kind : ExprKind). value_of_kind (forbidden_of c.args.names.now) kind c.args.place (scope_of c.args.names.now)) c.in-Call.is ∙ call_value (forbidden_of c.args.names.now) c.in-Call.target c.in-Call.arguments c.args.place (scope_of c.args.names.now) in
    rw form (search rules)

pub form-returns-in-Index : goal.form-returns-in-Index
form-returns-in-Index t c =
    let form = ap (λ (kind : ExprKind). value_of_kind (forbidden_of c.args.names.now) kind c.args.place (scope_of c.args.names.now)) c.in-Index.is ∙ index_value (forbidden_of c.args.names.now) c.in-Index.a c.in-Index.i c.args.place (scope_of c.args.names.now) in
    rw form (search rules)

pub form-returns-in-New : goal.form-returns-in-New
form-returns-in-New t c =
    let form = ap (λ (kind : ExprKind). value_of_kind (forbidden_of c.args.names.now) kind c.args.place (scope_of c.args.names.now)) c.in-New.is ∙ new_value (forbidden_of c.args.names.now) c.in-New.name c.in-New.arguments c.args.place (scope_of c.args.names.now) in
    rw form (search rules)

pub form-returns-in-EmptyList : goal.form-returns-in-EmptyList
form-returns-in-EmptyList t c =
    let form = ap (λ (kind : ExprKind). value_of_kind (forbidden_of c.args.names.now) kind c.args.place (scope_of c.args.names.now)) c.in-EmptyList.is ∙ empty_list_value (forbidden_of c.args.names.now) c.in-EmptyList.cs_type c.args.place (scope_of c.args.names.now) in
    rw form (search rules)

pub form-returns-in-Static : goal.form-returns-in-Static
form-returns-in-Static t c =
    let form = ap (λ (kind : ExprKind). value_of_kind (forbidden_of c.args.names.now) kind c.args.place (scope_of c.args.names.now)) c.in-Static.is ∙ static_value (forbidden_of c.args.names.now) c.in-Static.of c.in-Static.name c.args.place (scope_of c.args.names.now) in
    rw form (search rules)

pub form-returns-in-Assign : goal.form-returns-in-Assign
form-returns-in-Assign t c =
    let form = ap (λ (kind : ExprKind). value_of_kind (forbidden_of c.args.names.now) kind c.args.place (scope_of c.args.names.now)) c.in-Assign.is ∙ assign_value (forbidden_of c.args.names.now) c.in-Assign.op c.in-Assign.target c.in-Assign.a c.args.place (scope_of c.args.names.now) in
    rw form (search rules)

pub form-returns-in-Step : goal.form-returns-in-Step
form-returns-in-Step t c =
    let form = ap (λ (kind : ExprKind). value_of_kind (forbidden_of c.args.names.now) kind c.args.place (scope_of c.args.names.now)) c.in-Step.is ∙ step_value (forbidden_of c.args.names.now) c.in-Step.op c.in-Step.target c.args.place (scope_of c.args.names.now) in
    rw form (search rules)

pub form-returns-in-Text : goal.form-returns-in-Text
form-returns-in-Text t c =
    let form = ap (λ (kind : ExprKind). value_of_kind (forbidden_of c.args.names.now) kind c.args.place (scope_of c.args.names.now)) c.in-Text.is ∙ text_value (forbidden_of c.args.names.now) c.in-Text.it c.args.place (scope_of c.args.names.now) in
    rw form (search rules)

-- each form as what is called
pub called_form-returns-in-Name : goal.called_form-returns-in-Name
called_form-returns-in-Name t c =
    let form = ap (λ (kind : ExprKind). callee_of_kind (forbidden_of c.args.names.now) kind c.args.place (scope_of c.args.names.now)) c.in-Name.is ∙ name_called (forbidden_of c.args.names.now) c.in-Name.name c.args.place (scope_of c.args.names.now) in
    rw form (search rules)

pub called_form-returns-in-Member : goal.called_form-returns-in-Member
called_form-returns-in-Member t c =
    let form = ap (λ (kind : ExprKind). callee_of_kind (forbidden_of c.args.names.now) kind c.args.place (scope_of c.args.names.now)) c.in-Member.is ∙ member_called (forbidden_of c.args.names.now) c.in-Member.a c.in-Member.name c.args.place (scope_of c.args.names.now) in
    rw form (search rules)

pub called_form-returns-in-Static : goal.called_form-returns-in-Static
called_form-returns-in-Static t c =
    let form = ap (λ (kind : ExprKind). callee_of_kind (forbidden_of c.args.names.now) kind c.args.place (scope_of c.args.names.now)) c.in-Static.is ∙ static_called (forbidden_of c.args.names.now) c.in-Static.of c.in-Static.name c.args.place (scope_of c.args.names.now) in
    rw form (search rules)

pub called_form-returns-in_default : goal.called_form-returns-in_default
called_form-returns-in_default t c =
    let form = other_callee (forbidden_of c.args.names.now) c.args.kind.now c.args.place (scope_of c.args.names.now) c.in_default.not-Name c.in_default.not-Member c.in_default.not-Static in
    rw form (search rules)

pub piece-returns-in-Hole : goal.piece-returns-in-Hole
piece-returns-in-Hole t c =
    let form = ap (λ (it : TextPart). piece (forbidden_of c.args.names.now) it (scope_of c.args.names.now)) c.in-Hole.is ∙ hole_piece (forbidden_of c.args.names.now) c.in-Hole.a (scope_of c.args.names.now) in
    rw form (search rules)
