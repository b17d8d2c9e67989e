-- What a message makes of a circuit.
use Rattle.std.specs.Prelude.{◌≡◌, ℕ, ◌+◌, ◌-◌, List, [], ◌∷◌, ◌++◌, drop, take, Option, Some, if◌then◌else◌, max, nat_lt}
use Rattle.hub_messages.specs.Stage.{Machine}
use Rattle.hub_messages.specs.declared.down.Down.{Down}
use Rattle.hub_messages.specs.declared.down.Down.TheVariants.{Connected, Batch, Outcome, Refused, Ended}
use Rattle.hub_messages.specs.declared.outcome.Outcome.{Outcome as Outcomes}
use Rattle.hub_messages.specs.declared.stage.Acted.{Acted}
use Rattle.hub_messages.specs.declared.stage.Acted.TheVariants as ac
use Rattle.hub_messages.specs.declared.up.Up.{Up}
use Rattle.hub_messages.specs.declared.up.Up.TheVariants.{Start, Connect, Event, Ack}
use Rattle.circuit_meaning.specs.declared.circuit.CircuitStatus.{CircuitStatus}
use Rattle.circuit_meaning.specs.declared.circuit.Rule.{Rule}
use Rattle.circuit_meaning.specs.declared.circuit.Rule.TheVariants.{Silent, Over, Refuses, Again, Takes}
use Rattle.circuit_meaning.specs.Rules.{event_rule, ack_rule, connect_rule}
use Rattle.circuit_meaning.specs.Circuit.State.{CircuitState, bytes_of, ended_by, forgetting}
use Rattle.circuit_meaning.specs.Circuit.Batches.{MakesBatch}

-- one reply, and nothing changes
abbrev pub OnlyReplies : {Stage : Type 0} → Down → CircuitState Stage → List Down → CircuitState Stage → Type 0
OnlyReplies reply before replies after = (replies ≡ reply ∷ []) × (after ≡ before)

-- a rule by which the message is not taken
abbrev pub NotTaken : {Stage : Type 0} → Rule → CircuitState Stage → List Down → CircuitState Stage → Type 0
NotTaken Silent before replies after = (replies ≡ []) × (after ≡ before)
NotTaken (Over fault) before replies after = OnlyReplies (Ended fault) before replies after
NotTaken (Refuses refusal) before replies after = OnlyReplies (Refused refusal) before replies after
NotTaken Again before replies after = ⊥
NotTaken Takes before replies after = ⊥

-- the outcomes of the events from this number on
abbrev pub outcomes_from : ℕ → List Outcomes → List Down
outcomes_from number [] = []
outcomes_from number (outcome ∷ outcomes) = Outcome number outcome ∷ outcomes_from (number + 1) outcomes

-- the batches from this number on
abbrev pub batches_from : ℕ → List (List ℕ) → List Down
batches_from number [] = []
batches_from number (bytes ∷ batches) = Batch number bytes ∷ batches_from (number + 1) batches

-- the outcome of an event again, where it is kept
abbrev pub outcome_again : CircuitStatus → List Outcomes → ℕ → List Down
outcome_again status outcomes number =
    if nat_lt status.forgotten number then outcomes_from number (take 1 (drop (number - 1) outcomes)) else []

-- the handler's code ran or the event came to another end, which is kept and told, and a batch is made; a fault ends the circuit
abbrev pub Finishes : {Tree : Type 0} (machine : Machine Tree) → Acted → CircuitState machine.State → List Down → CircuitState machine.State → Type 0
Finishes machine (ac.Outcome outcome) before replies after =
    (batch : List Down) × (replies ≡ Outcome before.status.last outcome ∷ batch)
    × MakesBatch machine (record before { outcomes = before.outcomes ++ outcome ∷ [] }) batch after
Finishes machine (ac.Fault fault) before replies after = (replies ≡ Ended fault ∷ []) × (after ≡ ended_by fault before)

-- an event that was taken before: its outcome again, where it is kept
abbrev pub TellsAgain : {Stage : Type 0} → CircuitState Stage → ℕ → ℕ → List Down → CircuitState Stage → Type 0
TellsAgain before number got replies after =
    (replies ≡ outcome_again (forgetting before.status got) before.outcomes number)
    × (after ≡ record before { status = forgetting before.status got })

-- an event, by the rule that it meets
abbrev pub EventStep : {Tree : Type 0} (machine : Machine Tree) → Rule → CircuitState machine.State → ℕ → ℕ → ℕ → List ℕ → Option (List ℕ) → List Down → CircuitState machine.State → Type 0
EventStep machine Again before number handler got name text replies after = TellsAgain before number got replies after
EventStep machine Takes before number handler got name text replies after =
    (acted : Acted) × (stage : machine.State) × machine.Acts before.stage handler name text acted stage
    × Finishes machine acted (record before { stage = stage; status = record (forgetting before.status got) { last = number } }) replies after
EventStep machine rule before number handler got name text replies after = NotTaken rule before replies after

-- an acknowledgement, by the rule that it meets
abbrev pub AckStep : {Tree : Type 0} (machine : Machine Tree) → Rule → CircuitState machine.State → ℕ → ℕ → List Down → CircuitState machine.State → Type 0
AckStep machine Takes before batch got replies after =
    (stage : machine.State) × machine.Releases before.stage (max before.status.acked batch) stage
    × MakesBatch machine (record before { stage = stage; status = record (forgetting before.status got) { acked = max before.status.acked batch } }) replies after
AckStep machine rule before batch got replies after = NotTaken rule before replies after

-- a browser that is back, by the rule that it meets: it gets what it has not got, then a batch made now
abbrev pub ConnectStep : {Tree : Type 0} (machine : Machine Tree) → Rule → CircuitState machine.State → ℕ → ℕ → ℕ → List Down → CircuitState machine.State → Type 0
ConnectStep machine Takes before connection applied got replies after =
    (batch : List Down)
    × (replies ≡ Connected before.status.sent before.status.last
    ∷ outcomes_from (max before.status.forgotten got + 1) (drop (max before.status.forgotten got) before.outcomes)
    ++ batches_from (applied + 1) (drop applied (bytes_of before.batches)) ++ batch)
    × ((stage : machine.State) × machine.Releases before.stage applied stage
    × MakesBatch machine (record before { stage = stage; status = record (forgetting before.status got) { acked = applied; bound = Some connection } }) batch after)
ConnectStep machine rule before connection applied got replies after = NotTaken rule before replies after

-- a message on a connection; a Start makes another circuit and is none of this one's
abbrev pub Step : {Tree : Type 0} (machine : Machine Tree) → CircuitState machine.State → ℕ → Up → List Down → CircuitState machine.State → Type 0
Step machine before connection Start replies after = ⊥
Step machine before connection (Connect number secret applied got) replies after =
    ConnectStep machine (connect_rule before.status applied got) before connection applied got replies after
Step machine before connection (Event number handler got name text) replies after =
    EventStep machine (event_rule before.status connection number got) before number handler got name text replies after
Step machine before connection (Ack batch got) replies after =
    AckStep machine (ack_rule before.status connection batch got) before batch got replies after
