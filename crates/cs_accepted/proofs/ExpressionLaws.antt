-- Accepted code is never stuck.
use Rattle.std.proofs.Common.{◌≡◌, List, refl, subst}
use Rattle.cs_ast.specs.declared.cs_type.CsType.{CsType}
use Rattle.cs_ast.specs.declared.cs_type.CsType.TheVariants as t
use Rattle.cs_ast.specs.declared.code.Code.{Code}
use Rattle.cs_ast.specs.declared.expression.Expr.{Expr}
use Rattle.cs_ast.specs.declared.scope.Scope.{Scope}
use Rattle.cs_ast.specs.declared.value.Value.{Value}
use Rattle.cs_meaning.specs.State.{State}
use Rattle.cs_meaning.specs.Outcome.{Outcome, gives, breaks, continues, returns, faults, stuck, IsDefined}
use Rattle.cs_meaning.specs.Meaning.{Setting, meaning}
use Rattle.cs_rules.specs.declared.checked.Checked.{Checked}
use Rattle.cs_rules.specs.declared.checked.ExprType.{ExprType}
use Rattle.cs_rules.specs.declared.checked.ExprType.TheVariants.{Of, Null, Markup}
use Rattle.cs_rules.specs.Judged.{fine}
use Rattle.cs_rules.specs.Trees.{value_in}
use Rattle.cs_typing.specs.Values.{HasNull, ValueHas}
use Rattle.cs_typing.specs.Values as has
use Rattle.cs_typing.specs.Expressions.{Surroundings, CodeHas}
use Rattle.cs_typing.specs.States.{StateHas}
use Rattle.cs_typing.specs.Outcomes.{Fits, no_jump}
use Rattle.cs_typing.specs.Outcomes as one_type
use Rattle.cs_typing.specs.Settings.{SettingHas}
use Rattle.cs_typing.proofs.BodySoundness.{expression_sound}
use Rattle.cs_accepted.specs.Scopes.{ScopeFits}
use Rattle.cs_accepted.specs.Accepted.{IfFine, HasType, ValueFits, Typed}
use Rattle.cs_accepted.proofs.ExpressionTrees.{expression_tree}
use Rattle.cs_rules.specs.Types.{drops_argument, fits, fits_type, may_be_null}

pub expression_fits : (a : Expr) (scope : Scope) (x : Checked) (at : Surroundings) (locals : List CsType) → value_in scope a ≡ fine x → ScopeFits at locals scope → ValueFits at locals x
expression_fits a scope x at locals e fit = subst (IfFine (λ y. ValueFits at locals y)) e ((expression_tree a).as_value at locals scope fit)

-- a value of every type that may be null
every_type : (at : Surroundings) (locals : List CsType) (code : Code) (around : Setting) (s : State) → SettingHas at around → StateHas at.types locals s → ((type : CsType) → HasNull type → CodeHas at locals type code)
    → (o : Outcome Value) → meaning around code s ≡ o → IsDefined o × Fits (no_jump at.types) (Typed at.types locals Null) o
unfolding drops_argument fits fits_type may_be_null
every_type at locals code around s fits hs h (gives x s1) e =
    (tt, ((λ type n. (subst (λ o. Fits (no_jump at.types) (one_type.Typed at.types locals type) o) e (expression_sound at around locals type code s fits (h type n) hs).1).0), (subst (λ o. Fits (no_jump at.types) (one_type.Typed at.types locals t.Text) o) e (expression_sound at around locals t.Text code s fits (h t.Text has.text) hs).1).1))
every_type at locals code around s fits hs h (breaks s1) e = absurd (subst (λ o. Fits (no_jump at.types) (one_type.Typed at.types locals t.Text) o) e (expression_sound at around locals t.Text code s fits (h t.Text has.text) hs).1)
every_type at locals code around s fits hs h (continues s1) e = absurd (subst (λ o. Fits (no_jump at.types) (one_type.Typed at.types locals t.Text) o) e (expression_sound at around locals t.Text code s fits (h t.Text has.text) hs).1)
every_type at locals code around s fits hs h (returns x s1) e = absurd (subst (λ o. Fits (no_jump at.types) (one_type.Typed at.types locals t.Text) o) e (expression_sound at around locals t.Text code s fits (h t.Text has.text) hs).1)
every_type at locals code around s fits hs h (faults fault s1) e = (tt, subst (λ o. Fits (no_jump at.types) (one_type.Typed at.types locals t.Text) o) e (expression_sound at around locals t.Text code s fits (h t.Text has.text) hs).1)
every_type at locals code around s fits hs h stuck e = absurd (subst (λ o. Fits (no_jump at.types) (one_type.Typed at.types locals t.Text) o) e (expression_sound at around locals t.Text code s fits (h t.Text has.text) hs).1)

sound_of : (at : Surroundings) (locals : List CsType) (given : ExprType) (code : Code) (around : Setting) (s : State) → SettingHas at around → StateHas at.types locals s → HasType at locals given code → IsDefined (meaning around code s) × Fits (no_jump at.types) (Typed at.types locals given) (meaning around code s)
unfolding drops_argument fits fits_type may_be_null
sound_of at locals (Of type) code around s fits hs h = expression_sound at around locals type code s fits h hs
sound_of at locals Markup code around s fits hs h = expression_sound at around locals t.Text code s fits h hs
sound_of at locals Null code around s fits hs h = every_type at locals code around s fits hs h (meaning around code s) refl

pub expression_sound_in : (a : Expr) (scope : Scope) (x : Checked) (at : Surroundings) (locals : List CsType) (around : Setting) (s : State) → value_in scope a ≡ fine x → ScopeFits at locals scope → SettingHas at around → StateHas at.types locals s
    → IsDefined (meaning around x.code s) × Fits (no_jump at.types) (Typed at.types locals x.expr_type) (meaning around x.code s)
unfolding drops_argument fits fits_type may_be_null
expression_sound_in a scope x at locals around s e fit fits hs = sound_of at locals x.expr_type x.code around s fits hs (expression_fits a scope x at locals e fit)
