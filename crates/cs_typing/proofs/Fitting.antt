-- How outcomes that keep to the types are put together.
use Rattle.std.proofs.Common.{ℕ, ◌-◌}
use Rattle.std.specs.Prelude.{Bool as Truth, true, false, nat_lt, if◌then◌else◌}
use Rattle.cs_ast.specs.declared.value.Value.{Value}
use Rattle.cs_meaning.specs.declared.fault.Fault.TheVariants.{FuelSpent}
use Rattle.cs_meaning.specs.State.{State, state, spent}
use Rattle.cs_meaning.specs.Outcome.{Outcome, gives, breaks, continues, returns, faults, stuck, and_then, in_state, charged}
use Rattle.cs_typing.specs.Outcomes.{Exits, Fits}

-- one after the other
pub then_fits : {A B : Type 0} (exits : Exits) (P : A → State → Type 0) (Q : B → State → Type 0) (o : Outcome A) (next : A → State → Outcome B)
    → Fits exits P o → ((x : A) (s : State) → P x s → Fits exits Q (next x s)) → Fits exits Q (and_then o next)
then_fits exits P Q (gives x s) next h g = g x s h
then_fits exits P Q (breaks s) next h g = h
then_fits exits P Q (continues s) next h g = h
then_fits exits P Q (returns x s) next h g = h
then_fits exits P Q (faults fault s) next h g = h
then_fits exits P Q stuck next h g = h

-- one kind of exits in place of another
pub record Within (one other : Exits) : Type 0 where
  pub breaks_too : (s : State) → one.on_break s → other.on_break s
  pub continues_too : (s : State) → one.on_continue s → other.on_continue s
  pub returns_too : (x : Value) (s : State) → one.on_return x s → other.on_return x s
  pub faults_too : (s : State) → one.on_fault s → other.on_fault s

-- the same outcome, of which less is said
pub weaker_fits : {A : Type 0} (one other : Exits) (P Q : A → State → Type 0) (o : Outcome A) → Within one other → ((x : A) (s : State) → P x s → Q x s) → Fits one P o → Fits other Q o
weaker_fits one other P Q (gives x s) w g h = g x s h
weaker_fits one other P Q (breaks s) w g h = w.breaks_too s h
weaker_fits one other P Q (continues s) w g h = w.continues_too s h
weaker_fits one other P Q (returns x s) w g h = w.returns_too x s h
weaker_fits one other P Q (faults fault s) w g h = w.faults_too s h
weaker_fits one other P Q stuck w g h = h

-- exits before a change of the state, and behind it
pub record WithinBy (change : State → State) (one other : Exits) : Type 0 where
  pub breaks_then : (s : State) → one.on_break s → other.on_break (change s)
  pub continues_then : (s : State) → one.on_continue s → other.on_continue (change s)
  pub returns_then : (x : Value) (s : State) → one.on_return x s → other.on_return x (change s)
  pub faults_then : (s : State) → one.on_fault s → other.on_fault (change s)

-- an outcome whose state is changed
pub in_state_fits : {A : Type 0} (change : State → State) (one other : Exits) (P Q : A → State → Type 0) (o : Outcome A)
    → WithinBy change one other → ((x : A) (s : State) → P x s → Q x (change s)) → Fits one P o → Fits other Q (in_state change o)
in_state_fits change one other P Q (gives x s) w g h = g x s h
in_state_fits change one other P Q (breaks s) w g h = w.breaks_then s h
in_state_fits change one other P Q (continues s) w g h = w.continues_then s h
in_state_fits change one other P Q (returns x s) w g h = w.returns_then x s h
in_state_fits change one other P Q (faults fault s) w g h = w.faults_then s h
in_state_fits change one other P Q stuck w g h = h

-- one of two
pub either_fits : {A : Type 0} (exits : Exits) (P : A → State → Type 0) (b : Truth) (one other : Outcome A) → Fits exits P one → Fits exits P other → Fits exits P (if b then one else other)
either_fits exits P true one other h g = h
either_fits exits P false one other h g = g

-- behind a charge
pub charged_fits : {A : Type 0} (exits : Exits) (P : A → State → Type 0) (units : ℕ) (s : State) (next : State → Outcome A)
    → exits.on_fault (spent s) → ((left : ℕ) → Fits exits P (next (state s.locals s.fields s.receivers left))) → Fits exits P (charged units s next)
charged_fits exits P units s next h g =
    either_fits exits P (nat_lt s.left units) (faults FuelSpent (spent s)) (next (state s.locals s.fields s.receivers (s.left - units))) h (g (s.left - units))
