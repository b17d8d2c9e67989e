-- What a run leaves to be done.
use Rattle.std.proofs.Common.{◌≡◌, ℕ, ◌+◌, Bool, true, false, List, [], ◌∷◌, ◌++◌, Option, Some, None, refl, sym, subst, arith}
use Rattle.std.proofs.lemmas.Grind.{common_steps}
use Rattle.std.proofs.lemmas.Bool.Decides.{nat_tests}
use Rattle.hub_messages.specs.Stage.{Machine}
use Rattle.hub_messages.specs.declared.down.Down.{Down}
use Rattle.hub_messages.specs.declared.outcome.CircuitFault.{CircuitFault}
use Rattle.hub_messages.specs.declared.stage.Acted.{Acted}
use Rattle.hub_messages.specs.declared.stage.Acted.TheVariants as ac
use Rattle.hub_messages.specs.declared.stage.Made.{Made}
use Rattle.hub_messages.specs.declared.stage.Made.TheVariants as md
use Rattle.hub_messages.specs.declared.up.Up.{Up}
use Rattle.hub_messages.specs.declared.up.Up.TheVariants.{Start, Connect, Event, Ack}
use Rattle.circuit_meaning.specs.declared.circuit.CircuitStatus.{CircuitStatus}
use Rattle.circuit_meaning.specs.declared.circuit.Rule.{Rule}
use Rattle.circuit_meaning.specs.declared.circuit.Rule.TheVariants.{Silent, Over, Refuses, Again, Takes}
use Rattle.circuit_meaning.specs.Rules.{event_rule, ack_rule, connect_rule}
use Rattle.circuit_meaning.specs.Circuit.State.{CircuitState, started, ended_by, forgetting}
use Rattle.circuit_meaning.specs.Circuit.Batches.{is_due, is_spent, Rendered, Renders, RendersIf, MakesBatch}
use Rattle.circuit_meaning.specs.Circuit.Steps.{Step, EventStep, AckStep, ConnectStep, Finishes, NotTaken}
use Rattle.circuit_meaning.specs.Circuit.Runs.{Run, IsCalm}

-- a stage is clean after a batch
abbrev pub Cleans : {Tree : Type 0} (machine : Machine Tree) → Type 0
Cleans machine = (before after : machine.State) (bytes : List ℕ) → machine.Renders before (md.Batch bytes) after → machine.is_dirty after ≡ false

-- no batch is due of a clean stage that has rendered
clean-due : (status : CircuitStatus) (dirty : Bool) (sent : ℕ) → dirty ≡ false → is_due (record status { sent = sent + 1 }) dirty ≡ false
clean-due status dirty sent clean = grind (arith, nat_tests, common_steps)

over_is_calm : {Tree : Type 0} (machine : Machine Tree) (state : CircuitState machine.State) (fault : CircuitFault) → IsCalm machine (ended_by fault state)
over_is_calm machine state fault = λ runs. let over : Some fault ≡ None = runs in absurd (cc)

rendered_calms : {Tree : Type 0} (machine : Machine Tree) (before after : CircuitState machine.State) (made : Made) (stage : machine.State) (replies : List Down) →
    Cleans machine → machine.Renders before.stage made stage → Rendered made stage before replies after → IsCalm machine after
rendered_calms machine before after (md.Batch bytes) stage replies cleans renders does =
    subst (λ s. IsCalm machine s) (sym does.1) (λ runs. clean-due before.status (machine.is_dirty stage) before.status.sent (cleans before.stage stage bytes renders))
rendered_calms machine before after (md.Fault fault) stage replies cleans renders does =
    subst (λ s. IsCalm machine s) (sym does.1) (over_is_calm machine (record before { stage = stage }) fault)

renders_calms : {Tree : Type 0} (machine : Machine Tree) (before after : CircuitState machine.State) (spent : Bool) (replies : List Down) →
    Cleans machine → Renders machine spent before replies after → IsCalm machine after
renders_calms machine before after true replies cleans does = subst (λ s. IsCalm machine s) (sym does.1) (over_is_calm machine before _)
renders_calms machine before after false replies cleans does = rendered_calms machine before after does.0 does.1 replies cleans does.2 does.3

makes_calm_by : {Tree : Type 0} (machine : Machine Tree) (before after : CircuitState machine.State) (due : Bool) (replies : List Down) →
    Cleans machine → is_due before.status (machine.is_dirty before.stage) ≡ due → RendersIf machine due before replies after → IsCalm machine after
makes_calm_by machine before after true replies cleans is does = renders_calms machine before after (is_spent before.status) replies cleans does
makes_calm_by machine before after false replies cleans is does = subst (λ s. IsCalm machine s) (sym does.1) (λ runs. is)

makes_calm : {Tree : Type 0} (machine : Machine Tree) (before after : CircuitState machine.State) (replies : List Down) →
    Cleans machine → MakesBatch machine before replies after → IsCalm machine after
makes_calm machine before after replies cleans does =
    makes_calm_by machine before after (is_due before.status (machine.is_dirty before.stage)) replies cleans refl does

not_taken_calm : {Tree : Type 0} (machine : Machine Tree) (rule : Rule) (before after : CircuitState machine.State) (replies : List Down) →
    IsCalm machine before → NotTaken rule before replies after → IsCalm machine after
not_taken_calm machine Silent before after replies calm does = subst (λ s. IsCalm machine s) (sym does.1) calm
not_taken_calm machine (Over fault) before after replies calm does = subst (λ s. IsCalm machine s) (sym does.1) calm
not_taken_calm machine (Refuses refusal) before after replies calm does = subst (λ s. IsCalm machine s) (sym does.1) calm
not_taken_calm machine Again before after replies calm does = absurd does
not_taken_calm machine Takes before after replies calm does = absurd does

finish_calms : {Tree : Type 0} (machine : Machine Tree) (acted : Acted) (before after : CircuitState machine.State) (replies : List Down) →
    Cleans machine → Finishes machine acted before replies after → IsCalm machine after
finish_calms machine (ac.Outcome outcome) before after replies cleans does =
    makes_calm machine (record before { outcomes = before.outcomes ++ outcome ∷ [] }) after does.0 cleans does.2
finish_calms machine (ac.Fault fault) before after replies cleans does = subst (λ s. IsCalm machine s) (sym does.1) (over_is_calm machine before fault)

event_calm : {Tree : Type 0} (machine : Machine Tree) (rule : Rule) (before after : CircuitState machine.State) (number handler got : ℕ) (name : List ℕ) (text : Option (List ℕ)) (replies : List Down) →
    Cleans machine → IsCalm machine before → EventStep machine rule before number handler got name text replies after → IsCalm machine after
event_calm machine Silent before after number handler got name text replies cleans calm does = not_taken_calm machine Silent before after replies calm does
event_calm machine (Over fault) before after number handler got name text replies cleans calm does = not_taken_calm machine (Over fault) before after replies calm does
event_calm machine (Refuses refusal) before after number handler got name text replies cleans calm does = not_taken_calm machine (Refuses refusal) before after replies calm does
event_calm machine Again before after number handler got name text replies cleans calm does = subst (λ s. IsCalm machine s) (sym does.1) (λ runs. calm runs)
event_calm machine Takes before after number handler got name text replies cleans calm does =
    finish_calms machine does.0 (record before { stage = does.1; status = record (forgetting before.status got) { last = number } }) after replies cleans does.3

ack_calm : {Tree : Type 0} (machine : Machine Tree) (rule : Rule) (before after : CircuitState machine.State) (batch got : ℕ) (replies : List Down) →
    Cleans machine → IsCalm machine before → AckStep machine rule before batch got replies after → IsCalm machine after
ack_calm machine Silent before after batch got replies cleans calm does = not_taken_calm machine Silent before after replies calm does
ack_calm machine (Over fault) before after batch got replies cleans calm does = not_taken_calm machine (Over fault) before after replies calm does
ack_calm machine (Refuses refusal) before after batch got replies cleans calm does = not_taken_calm machine (Refuses refusal) before after replies calm does
ack_calm machine Again before after batch got replies cleans calm does = absurd does
ack_calm machine Takes before after batch got replies cleans calm does = makes_calm machine _ after replies cleans does.2

connect_calm : {Tree : Type 0} (machine : Machine Tree) (rule : Rule) (before after : CircuitState machine.State) (connection applied got : ℕ) (replies : List Down) →
    Cleans machine → IsCalm machine before → ConnectStep machine rule before connection applied got replies after → IsCalm machine after
connect_calm machine Silent before after connection applied got replies cleans calm does = not_taken_calm machine Silent before after replies calm does
connect_calm machine (Over fault) before after connection applied got replies cleans calm does = not_taken_calm machine (Over fault) before after replies calm does
connect_calm machine (Refuses refusal) before after connection applied got replies cleans calm does = not_taken_calm machine (Refuses refusal) before after replies calm does
connect_calm machine Again before after connection applied got replies cleans calm does = absurd does
connect_calm machine Takes before after connection applied got replies cleans calm does = makes_calm machine _ after does.0 cleans does.2.2

step_calm : {Tree : Type 0} (machine : Machine Tree) (before after : CircuitState machine.State) (connection : ℕ) (message : Up) (replies : List Down) →
    Cleans machine → IsCalm machine before → Step machine before connection message replies after → IsCalm machine after
step_calm machine before after connection Start replies cleans calm does = absurd does
step_calm machine before after connection (Connect number secret applied got) replies cleans calm does =
    connect_calm machine (connect_rule before.status applied got) before after connection applied got replies cleans calm does
step_calm machine before after connection (Event number handler got name text) replies cleans calm does =
    event_calm machine (event_rule before.status connection number got) before after number handler got name text replies cleans calm does
step_calm machine before after connection (Ack batch got) replies cleans calm does =
    ack_calm machine (ack_rule before.status connection batch got) before after batch got replies cleans calm does

run_calm : {Tree : Type 0} (machine : Machine Tree) (messages : List (ℕ × Up)) (before after : CircuitState machine.State) →
    Cleans machine → IsCalm machine before → Run machine before messages after → IsCalm machine after
run_calm machine [] before after cleans calm run = subst (λ s. IsCalm machine s) (sym run) calm
run_calm machine (message ∷ messages) before after cleans calm run =
    run_calm machine messages run.1 after cleans (step_calm machine before run.1 message.0 message.1 run.0 cleans calm run.2) run.3

-- a started circuit leaves no batch due
pub started_calm : {Tree : Type 0} (machine : Machine Tree) (stage : machine.State) (window connection : ℕ) (replies : List Down) (first : CircuitState machine.State) (messages : List (ℕ × Up)) (last : CircuitState machine.State) →
    Cleans machine → MakesBatch machine (started stage window connection) replies first → Run machine first messages last → IsCalm machine last
started_calm machine stage window connection replies first messages last cleans made run =
    run_calm machine messages first last cleans (makes_calm machine (started stage window connection) first replies cleans made) run
