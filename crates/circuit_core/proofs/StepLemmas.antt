-- From what a rule does to a step.
use Rattle.std.proofs.Common.{◌≡◌, ◌≢◌, ℕ, List, Option, Result, Ok, Err, IfOk, Vec, refl, ◌∙◌, ap, subst}
use Rattle.std.specs.declared.alloc.Global.{Global}
use Rattle.text_core.specs.declared.oom.Oom.{Oom}
use Rattle.hub_messages.specs.Stage.{Machine}
use Rattle.hub_messages.specs.declared.down.Down.{Down}
use Rattle.circuit_meaning.specs.declared.circuit.CircuitStatus.{CircuitStatus}
use Rattle.circuit_meaning.specs.declared.circuit.Rule.{Rule}
use Rattle.circuit_meaning.specs.declared.circuit.Rule.TheVariants.{Silent, Over, Refuses, Again, Takes}
use Rattle.circuit_meaning.specs.Circuit.State.{CircuitState}
use Rattle.circuit_meaning.specs.Circuit.Steps.{NotTaken, EventStep, AckStep, ConnectStep}
use Rattle.circuit_core.specs.Replies.{replies_of}
use Rattle.circuit_core.specs.Kept.{Kept}
use Rattle.circuit_core.specs.Standing.{Leads}

-- the answers of calls that may run out of memory
abbrev pub Replied : Type 0
Replied = Result (Vec Down Global) Oom

-- a message that is not taken changes nothing
pub not_taken : {State : Type 0} (rule : Rule) (state : CircuitState State) (replies : List Down) →
    rule ≢ Again → rule ≢ Takes → replies ≡ replies_of rule → NotTaken rule state replies state
not_taken Silent state replies again takes says = (says, refl)
not_taken (Over fault) state replies again takes says = (says, refl)
not_taken (Refuses refusal) state replies again takes says = (says, refl)
not_taken Again state replies again takes says = absurd (again refl)
not_taken Takes state replies again takes says = absurd (takes refl)

-- what the rule of the parts does, the rule of each state that they stand for does
pub by_rule : {Stage Tree : Type 0} (machine : Machine Tree) (stands : Stage → machine.State → Type 0) (kept after : Kept Stage) (rule_by : CircuitStatus → Rule) (rule : Rule)
    (Does : Rule → CircuitState machine.State → List Down → CircuitState machine.State → Type 0) (replied : Replied) →
    rule ≡ rule_by kept.status →
    IfOk replied (λ replies. Leads machine stands kept after (λ state next. Does rule state replies.items next)) →
    IfOk replied (λ replies. Leads machine stands kept after (λ state next. Does (rule_by state.status) state replies.items next))
by_rule machine stands kept after rule_by rule Does (Ok replies) is does = λ state st.
    let done = does state st in
    (done.0, done.1, subst (λ r. Does r state replies.items done.0) (is ∙ ap rule_by st.status) done.2)
by_rule machine stands kept after rule_by rule Does (Err oom) is does = tt

-- a rule by which nothing changes
pub by_no_rule : {Stage Tree : Type 0} (machine : Machine Tree) (stands : Stage → machine.State → Type 0) (kept : Kept Stage) (rule_by : CircuitStatus → Rule) (rule : Rule)
    (Does : Rule → CircuitState machine.State → List Down → CircuitState machine.State → Type 0) (replied : Replied) →
    rule ≡ rule_by kept.status → ((state : CircuitState machine.State) (replies : List Down) → NotTaken rule state replies state → Does rule state replies state) →
    rule ≢ Again → rule ≢ Takes → IfOk replied (λ replies. replies.items ≡ replies_of rule) →
    IfOk replied (λ replies. Leads machine stands kept kept (λ state next. Does (rule_by state.status) state replies.items next))
by_no_rule machine stands kept rule_by rule Does (Ok replies) is goes again takes says = λ state st.
    (state, st, subst (λ r. Does r state replies.items state) (is ∙ ap rule_by st.status) (goes state replies.items (not_taken rule state replies.items again takes says)))
by_no_rule machine stands kept rule_by rule Does (Err oom) is goes again takes says = tt

-- an acknowledgement that is not taken
pub ack_not_taken : {Tree : Type 0} (machine : Machine Tree) (rule : Rule) (state : CircuitState machine.State) (batch got : ℕ) (replies : List Down) →
    NotTaken rule state replies state → AckStep machine rule state batch got replies state
ack_not_taken machine Silent state batch got replies h = h
ack_not_taken machine (Over fault) state batch got replies h = h
ack_not_taken machine (Refuses refusal) state batch got replies h = h
ack_not_taken machine Again state batch got replies h = h
ack_not_taken machine Takes state batch got replies h = absurd h

-- an event that is not taken
pub event_not_taken : {Tree : Type 0} (machine : Machine Tree) (rule : Rule) (state : CircuitState machine.State) (number handler got : ℕ) (name : List ℕ) (text : Option (List ℕ)) (replies : List Down) →
    NotTaken rule state replies state → EventStep machine rule state number handler got name text replies state
event_not_taken machine Silent state number handler got name text replies h = h
event_not_taken machine (Over fault) state number handler got name text replies h = h
event_not_taken machine (Refuses refusal) state number handler got name text replies h = h
event_not_taken machine Again state number handler got name text replies h = absurd h
event_not_taken machine Takes state number handler got name text replies h = absurd h

-- a connect that is not taken
pub connect_not_taken : {Tree : Type 0} (machine : Machine Tree) (rule : Rule) (state : CircuitState machine.State) (connection applied got : ℕ) (replies : List Down) →
    NotTaken rule state replies state → ConnectStep machine rule state connection applied got replies state
connect_not_taken machine Silent state connection applied got replies h = h
connect_not_taken machine (Over fault) state connection applied got replies h = h
connect_not_taken machine (Refuses refusal) state connection applied got replies h = h
connect_not_taken machine Again state connection applied got replies h = h
connect_not_taken machine Takes state connection applied got replies h = absurd h
