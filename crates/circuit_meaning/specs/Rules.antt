-- Which rule of a circuit a message meets. The first that fits decides.
use Rattle.std.specs.Prelude.{ℕ, ◌+◌, ◌-◌, Bool, false, Option, Some, None, if◌then◌else◌, max, ◌==◌, nat_lt}
use Rattle.hub_messages.specs.declared.outcome.CircuitFault.{CircuitFault}
use Rattle.hub_messages.specs.declared.outcome.Refusal.TheVariants.{GotAhead, AckAhead, AppliedAhead, BatchesGone, Early, OutcomesFull}
use Rattle.circuit_meaning.specs.declared.circuit.CircuitStatus.{CircuitStatus}
use Rattle.circuit_meaning.specs.declared.circuit.Rule.{Rule}
use Rattle.circuit_meaning.specs.declared.circuit.Rule.TheVariants.{Silent, Over, Refuses, Again, Takes}

-- whether a circuit is bound to a connection
abbrev pub is_bound : Option ℕ → ℕ → Bool
is_bound None connection = false
is_bound (Some bound) connection = bound == connection

-- a circuit that has ended answers with its fault
abbrev pub unless_ended : Option CircuitFault → Rule → Rule
unless_ended None rule = rule
unless_ended (Some fault) rule = Over fault

-- how many outcomes may be kept
abbrev pub outcomes_limit : ℕ
outcomes_limit = 64

-- an event of this number, whose browser has got the answers up to one
abbrev pub event_rule : CircuitStatus → ℕ → ℕ → ℕ → Rule
event_rule status connection number got =
    if is_bound status.bound connection
    then unless_ended status.ended (
    if nat_lt status.last got then Refuses (GotAhead status.last)
    else (if nat_lt status.last number
    then (if nat_lt (status.last + 1) number then Refuses (Early (status.last + 1))
    else (if nat_lt (status.last - max status.forgotten got) outcomes_limit then Takes
    else Refuses (OutcomesFull (max status.forgotten got + 1))))
    else Again))
    else Silent

-- an acknowledgement of batches up to one
abbrev pub ack_rule : CircuitStatus → ℕ → ℕ → ℕ → Rule
ack_rule status connection batch got =
    if is_bound status.bound connection
    then unless_ended status.ended (
    if nat_lt status.last got then Refuses (GotAhead status.last)
    else (if nat_lt status.sent batch then Refuses (AckAhead status.sent)
    else Takes))
    else Silent

-- a browser that is back, with batches up to one applied
abbrev pub connect_rule : CircuitStatus → ℕ → ℕ → Rule
connect_rule status applied got =
    unless_ended status.ended (
    if nat_lt status.sent applied then Refuses (AppliedAhead status.sent)
    else (if nat_lt applied status.acked then Refuses (BatchesGone status.acked)
    else (if nat_lt status.last got then Refuses (GotAhead status.last)
    else Takes)))
