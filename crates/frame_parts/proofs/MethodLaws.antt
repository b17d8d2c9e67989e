-- What bodies come to.
use Rattle.std.proofs.Common.{◌≡◌, ℕ, ◌+◌, List, [], ◌∷◌, refl, sym, ap, ◌∙◌, inl, inr}
use Rattle.std.specs.Prelude.{Option, Some, None, if◌then◌else◌, bytes_eq}
use Rattle.std.proofs.lemmas.Bool.{cases_Bool}
use Rattle.cs_ast.specs.declared.code.Code.{Code}
use Rattle.cs_ast.specs.declared.cs_type.CsType.{CsType}
use Rattle.cs_ast.specs.declared.cs_type.TypeExpr.{TypeExpr}
use Rattle.cs_ast.specs.declared.expression.Body.{Body}
use Rattle.cs_ast.specs.declared.expression.Body.TheVariants as body_form
use Rattle.cs_ast.specs.declared.expression.Expr.{Expr}
use Rattle.cs_ast.specs.declared.identifier.Ident.{Ident}
use Rattle.cs_ast.specs.declared.member.Argument.{Argument}
use Rattle.cs_ast.specs.declared.member.Member.{Member}
use Rattle.cs_ast.specs.declared.member.MemberKind.{MemberKind}
use Rattle.cs_ast.specs.declared.member.MemberKind.TheVariants as mk
use Rattle.cs_ast.specs.declared.scope.Scope.{Scope}
use Rattle.cs_rules.specs.Judged.{Judged}
use Rattle.cs_rules.specs.Written.{type_of}
use Rattle.razor_rules.specs.Scopes.{Home, member_scope, with_arguments, with_result}
use Rattle.razor_rules.specs.TemplateDeeds.{expression_does}
use Rattle.page_meaning.specs.Bodies as page
use Rattle.page_meaning.specs.Captures.{used}
use Rattle.page_meaning.specs.Placed.{body}
use Rattle.page_meaning.specs.Resolved as resolved
use Rattle.frame_parts.specs.Methods as methods
use Rattle.frame_parts.specs.Methods.{Declared, method_named}
use Rattle.frame_parts.specs.Steps as steps
use Rattle.frame_parts.specs.Steps.{Numbered, step, ◌>>=◌}
use Rattle.frame_parts.proofs.BodyLaws.{value_judged}
use Rattle.frame_parts.proofs.StepLaws.{step_alone, step_body, step_judged, then_by}

pub method_law : (home : Home) (number : ℕ) (it : Declared) (before : Numbered) → step (page.method_body home number it.result it.arguments it.body) before ≡ methods.method_body home number it before
unfolding page.method_body
method_law home number it before =
    then_by (resolved.judged (page.method_code home it.result it.arguments it.body)) (λ code. resolved.put number (body (page.method_signature home it.result it.arguments) code))
    (steps.judged (page.method_code home it.result it.arguments it.body)) (λ code. steps.put_body number code) (step_judged (page.method_code home it.result it.arguments it.body))
    (λ code now. step_body number (page.method_signature home it.result it.arguments) code now) before

getter_law : (home : Home) (number : ℕ) (result : TypeExpr) (value : Expr) (before : Numbered) →
    step (page.method_body home number (Some result) [] (body_form.Value value)) before ≡ methods.getter_body home number result value before
getter_law home number result value before =
    method_law home number (record { result = Some result; arguments = []; body = body_form.Value value }) before
    ∙ ap (λ (it : Judged Code). (steps.judged it >>= (λ code. steps.put_body number code)) before) (value_judged (with_arguments [] (with_result (type_of result) (member_scope home))) value)

member_law : (home : Home) (number : ℕ) (kind : MemberKind) (before : Numbered) → step (page.member_body home number kind) before ≡ methods.member_body home number kind before
unfolding page.member_body
member_law home number (mk.Method result name arguments of) before = method_law home number (record { result = result; arguments = arguments; body = of }) before
member_law home number (mk.Getter result name value) before = getter_law home number result value before
member_law home number (mk.Field cs_type name initial) before = step_alone tt before
member_law home number (mk.Parameter cascading source cs_type name initial) before = step_alone tt before
member_law home number (mk.RecordDef name parts) before = step_alone tt before

pub member_bodies_law : (home : Home) (number : ℕ) (members : List Member) (before : Numbered) → step (page.member_bodies home number members) before ≡ methods.member_bodies home number members before
member_bodies_law home number [] before = step_alone tt before
member_bodies_law home number (one ∷ others) before =
    then_by (page.member_body home number one.kind) (λ first. page.member_bodies home (number + 1) others) (methods.member_body home number one.kind) (λ first. methods.member_bodies home (number + 1) others)
    (member_law home number one.kind) (λ first now. member_bodies_law home (number + 1) others now) before

named_by : (home : Home) (number : ℕ) (name : List ℕ) (kind : MemberKind) (others : List Member) (before : Numbered) →
    step (page.named_body home number name others) before ≡ methods.named_body home number (method_named others name) before →
    step (page.method_or home number name kind (page.named_body home number name others)) before
    ≡ methods.named_body home number (method_named (record { place = record { line = 0; column = 0 }; kind = kind } ∷ others) name) before
named_by home number name (mk.Method result other arguments of) others before further =
    elim (cases_Bool (bytes_eq other.name name)) [
      | inl h ↦ rw h (method_law home number (record { result = result; arguments = arguments; body = of }) before)
      | inr h ↦ rw h further
    ]
named_by home number name (mk.Getter result other value) others before further = further
named_by home number name (mk.Field cs_type other initial) others before further = further
named_by home number name (mk.Parameter cascading source cs_type other initial) others before further = further
named_by home number name (mk.RecordDef other parts) others before further = further

pub named_law : (home : Home) (number : ℕ) (name : List ℕ) (members : List Member) (before : Numbered) →
    step (page.named_body home number name members) before ≡ methods.named_body home number (method_named members name) before
named_law home number name [] before = step_alone tt before
named_law home number name (one ∷ others) before = named_by home number name one.kind others before (named_law home number name others before)

pub lambda_law : (home : Home) (s : Scope) (number : ℕ) (a : Expr) (name : Option Ident) (of : Body) (argument : Option CsType) (before : Numbered) →
    step (page.lambda_body home s number a name of argument) before ≡ methods.lambda_body home (used (λ deed. expression_does deed a) s) number a.place name of argument before
unfolding page.lambda_body
lambda_law home s number a name of argument before =
    then_by (resolved.judged (page.lambda_code home s a name of argument)) (λ code. resolved.put number (body (page.lambda_signature home s a name argument) code))
    (steps.judged (page.lambda_code home s a name of argument)) (λ code. steps.put_body number code) (step_judged (page.lambda_code home s a name of argument))
    (λ code now. step_body number (page.lambda_signature home s a name argument) code now) before
