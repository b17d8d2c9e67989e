-- What a function of the evaluator returned and left agrees with what the code means.
use Rattle.std.specs.Prelude.{◌≡◌, Result, Ok, Err}
use Rattle.cs_ast.specs.declared.value.Value.{Value}
use Rattle.cs_ast.specs.declared.code.Code.{Code}
use Rattle.cs_meaning.specs.declared.fault.Fault.TheVariants as fault
use Rattle.cs_meaning.specs.State.{Fields, State, state}
use Rattle.cs_meaning.specs.Outcome.{Outcome, gives, breaks, continues, returns, faults, stuck, Meaning}
use Rattle.cs_meaning.specs.Meaning.{Setting, setting, meaning}
use Rattle.cs_eval.specs.declared.exit.Exit.{Exit}
use Rattle.cs_eval.specs.declared.exit.Exit.TheVariants as exit
use Rattle.cs_eval.specs.declared.progress.Progress.{Progress}
use Rattle.cs_eval.specs.declared.progress.Around.{Around}

-- the state that the evaluator has reached
abbrev pub reached : Progress → Fields → State
reached progress fields = state progress.locals.items fields progress.receivers.items progress.left

-- what the evaluator runs code with
abbrev pub setting_in : Around → Fields → Setting
setting_in around parameters = setting around.who parameters around.bodies.now around.depth

-- what code means with it
abbrev pub meaning_in : Around → Fields → Code → Meaning
meaning_in around parameters = meaning (setting_in around parameters)

-- an exit and the state, as an outcome; memory may run out anywhere
abbrev pub Leaves : {A : Type 0} → Exit → State → Outcome A → Type 0
Leaves exit.Break s outcome = outcome ≡ breaks s
Leaves exit.Continue s outcome = outcome ≡ continues s
Leaves (exit.Return x) s outcome = outcome ≡ returns x s
Leaves (exit.Fault fault.Oom) s outcome = Unit {0}
Leaves (exit.Fault f) s outcome = outcome ≡ faults f s
Leaves exit.Stuck s outcome = outcome ≡ stuck

-- the result and the state are the outcome, where a result is seen so
abbrev pub AgreesAs : {A B : Type 0} → (A → B) → Result A Exit → State → Outcome B → Type 0
AgreesAs view (Ok x) s outcome = outcome ≡ gives (view x) s
AgreesAs view (Err e) s outcome = Leaves e s outcome

-- the same, where it is seen as it is
abbrev pub Agrees : {A : Type 0} → Result A Exit → State → Outcome A → Type 0
Agrees = AgreesAs (λ x. x)
