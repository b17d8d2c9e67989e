-- What is forbidden in lambdas and fragments, in templates, and in lifecycle methods.
use Rattle.std.specs.Prelude.{ℕ, ◌||◌, Bool, List, [], map, filter, Some, None}
use Rattle.cs_ast.specs.declared.scope.Effect.{Effect}
use Rattle.cs_rules.specs.declared.rule.Rule.TheVariants.{ImpureTemplate, CallbackInLifecycle}
use Rattle.cs_forbidden.specs.declared.forbidden.Forbidden.{Forbidden}
use Rattle.cs_forbidden.specs.declared.forbidden.Mark.{Mark}

-- the numbers of the bodies with an effect that passes a test
abbrev pub with_effect : (Effect → Bool) → List (ℕ × Effect) → List ℕ
with_effect test effects = map (λ one. one.0) (filter (λ one. test one.1) effects)

-- in a lambda: uses of locals from outside that don't keep their values
abbrev pub in_lambda : List Mark → Forbidden
in_lambda outside = record { outside = outside; changes = None; invokes = None; bodies = [] }

-- the numbers of the bodies that change a field or invoke a callback, themselves or through others, by their effects
abbrev pub impure_in : List (ℕ × Effect) → List ℕ
impure_in effects = with_effect (λ one. one.changes || one.invokes) effects

-- of those that invoke a callback
abbrev pub invoking_in : List (ℕ × Effect) → List ℕ
invoking_in effects = with_effect (λ one. one.invokes) effects

-- in a template, or in a fragment with locals outside it: these, and what changes a field or invokes a callback, itself or through these bodies
abbrev pub in_template : List Mark → List ℕ → Forbidden
in_template outside impure = record { outside = outside; changes = Some ImpureTemplate; invokes = Some ImpureTemplate; bodies = impure }

-- in a lifecycle method: what invokes a callback, itself or through these bodies
abbrev pub in_lifecycle : List ℕ → Forbidden
in_lifecycle invoking = record { outside = []; changes = None; invokes = Some CallbackInLifecycle; bodies = invoking }
