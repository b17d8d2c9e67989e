-- Where nothing is forbidden, code comes to what the rules say.
use Rattle.std.proofs.Common.{◌≡◌, ℕ, refl, ap, ◌∙◌}
use Rattle.std.specs.Prelude.{[], Option, None, slice_get}
use mathlib.Core.Path.{fun_ext}
use Rattle.text_core.specs.declared.place.Place.{Place}
use Rattle.cs_ast.specs.declared.code.Code.{Code, out-Code}
use Rattle.cs_ast.specs.declared.code.Code.TheOpen.{Code-F}
use Rattle.cs_ast.specs.declared.code.Variable.{Variable}
use Rattle.cs_ast.specs.declared.code.Variable.TheVariants as variable
use Rattle.cs_ast.specs.declared.expression.Body.TheFolds.{fold-Expr, fold-Stmt}
use Rattle.cs_ast.specs.declared.expression.Expr.{Expr}
use Rattle.cs_ast.specs.declared.expression.Stmt.{Stmt}
use Rattle.cs_ast.specs.declared.scope.Scope.{Scope}
use Rattle.cs_rules.specs.declared.callee.Called.{Called}
use Rattle.cs_rules.specs.declared.callee.Called.TheVariants as called
use Rattle.cs_rules.specs.declared.callee.Callee.{Callee}
use Rattle.cs_rules.specs.declared.checked.Checked.{Checked}
use Rattle.cs_rules.specs.declared.checked.ExprType.{ExprType}
use Rattle.cs_rules.specs.declared.rule.Rule.{Rule}
use Rattle.cs_rules.specs.Judged.{Judged, fine, breaks, ◌>>=◌}
use Rattle.cs_rules.specs.Expressions.{Given}
use Rattle.cs_rules.specs.Statements as st
use Rattle.cs_rules.specs.Statements.{Statement}
use Rattle.cs_rules.specs.Trees as trees
use Rattle.cs_rules.specs.Trees.{Uses, Form}
use Rattle.cs_forbidden.specs.Roots.{nothing, against, against_mark, against_change, against_level, against_called}
use Rattle.cs_forbidden.specs.Trees.{allowed, uses_of_form, uses, statement}

no_mark : (number : ℕ) → against_mark (slice_get [] number) ≡ None
no_mark number = refl

no_change : (target : Variable) → against_change nothing target ≡ None
no_change (variable.Local number) = refl
no_change (variable.Field number) = refl

no_level : (code : Code-F Code) → against_level nothing code ≡ None
no_level (Code-F.Local number) = refl
no_level (Code-F.Assign target op value) = no_change target
no_level (Code-F.Step target op) = no_change target
no_level (Code-F.Call number arguments) = refl
no_level (Code-F.Invoke target argument) = refl
no_level _ = refl

none_against : (code : Code) → against nothing code ≡ None
unfolding against
none_against code = no_level (out-Code code)

none_against_called : (it : Called) → against_called nothing it ≡ None
unfolding against_called
none_against_called (called.Fill code) = none_against code
none_against_called _ = refl

all_allowed : {A : Type 0} → (rule : A → Option Rule) → ((x : A) → rule x ≡ None) → (place : Place) (j : Judged A) → (j >>= (λ x. allowed (rule x) place x)) ≡ j
all_allowed rule none place (fine x) = ap (λ r. allowed r place x) (none x)
all_allowed rule none place (breaks other at) = refl

same_form : (form : Form) (place : Place) → uses_of_form nothing form place ≡ trees.uses_of_form form place
unfolding uses_of_form trees.uses_of_form
same_form form place =
    ap (λ (v : Scope → Judged Checked). record { value = v; callee = λ s. trees.callee_of_form form place s >>= (λ it. allowed (against_called nothing it.called) place it) })
    (fun_ext (λ s. all_allowed (λ x. against nothing x.code) (λ x. none_against x.code) place (trees.value_of_form form place s)))
    ∙ ap (λ (v : Scope → Judged Callee). record { value = trees.value_of_form form place; callee = v })
    (fun_ext (λ s. all_allowed (λ it. against_called nothing it.called) (λ it. none_against_called it.called) place (trees.callee_of_form form place s)))

same_forms : uses_of_form nothing ≡ trees.uses_of_form
same_forms = fun_ext (λ form. fun_ext (λ place. same_form form place))

pub same_uses : (a : Expr) → uses nothing a ≡ trees.uses a
unfolding uses trees.uses
same_uses a =
    ap (λ (forms : Form → Place → Uses).
    fold-Expr (Unit {0}) (Place → Uses) (Place → Statement) (Scope → Judged Code) Uses (ExprType → Scope → Judged Code) Statement Given
    (λ body. tt) forms trees.statement_of_form trees.text_part (λ it. it.kind it.place) (λ it. st.section it.labels it.body)
    (λ it. it.kind it.place) (λ it. record { name = it.name; value = it.value.value }) a)
    same_forms

pub same_statement : (a : Stmt) → statement nothing a ≡ trees.statement a
unfolding statement trees.statement
same_statement a =
    ap (λ (forms : Form → Place → Uses).
    fold-Stmt (Unit {0}) (Place → Uses) (Place → Statement) (Scope → Judged Code) Uses (ExprType → Scope → Judged Code) Statement Given
    (λ body. tt) forms trees.statement_of_form trees.text_part (λ it. it.kind it.place) (λ it. st.section it.labels it.body)
    (λ it. it.kind it.place) (λ it. record { name = it.name; value = it.value.value }) a)
    same_forms
