-- What runs keep.
use Rattle.std.proofs.Common.{◌≡◌, ℕ, ◌+◌, ◌-◌, ◌≤◌, max, Bool, true, false, nat_lt, List, [], ◌∷◌, ◌++◌, Option, Some, None, cond, refl, sym, ◌∙◌, ap, subst, arith, append_assoc}
use Rattle.std.proofs.lemmas.List.{append-nil}
use Rattle.std.proofs.lemmas.Grind.{common_steps}
use Rattle.std.proofs.lemmas.Bool.Decides.{nat_tests}
use Rattle.hub_messages.specs.Stage.{Machine}
use Rattle.hub_messages.specs.declared.down.Down.{Down}
use Rattle.hub_messages.specs.declared.outcome.CircuitFault.{CircuitFault}
use Rattle.hub_messages.specs.declared.outcome.Refusal.{Refusal}
use Rattle.hub_messages.specs.declared.stage.Acted.{Acted}
use Rattle.hub_messages.specs.declared.stage.Acted.TheVariants as ac
use Rattle.hub_messages.specs.declared.stage.Made.{Made}
use Rattle.hub_messages.specs.declared.stage.Made.TheVariants as md
use Rattle.hub_messages.specs.declared.up.Up.{Up}
use Rattle.hub_messages.specs.declared.up.Up.TheVariants.{Start, Connect, Event, Ack}
use Rattle.circuit_meaning.specs.declared.circuit.CircuitStatus.{CircuitStatus}
use Rattle.circuit_meaning.specs.declared.circuit.Rule.{Rule}
use Rattle.circuit_meaning.specs.declared.circuit.Rule.TheVariants.{Silent, Over, Refuses, Again, Takes}
use Rattle.circuit_meaning.specs.Rules.{is_bound, unless_ended, event_rule, ack_rule, connect_rule, outcomes_limit}
use Rattle.circuit_meaning.specs.Circuit.State.{CircuitState, BatchRow, started, ended_by, forgetting}
use Rattle.circuit_meaning.specs.Circuit.Batches.{is_due, is_spent, Rendered, Renders, RendersIf, MakesBatch}
use Rattle.circuit_meaning.specs.Circuit.Steps.{Step, EventStep, AckStep, ConnectStep, Finishes, NotTaken}
use Rattle.circuit_meaning.specs.Circuit.Runs.{Run, IsWithinWindow, GoesOn}

-- a state that keeps within its window, behind another
pub record Follows {Stage : Type 0} (before after : CircuitState Stage) : Type 0 where
  pub within : IsWithinWindow after.status
  pub goes : GoesOn before after

pub goes_nowhere : {Stage : Type 0} (state : CircuitState Stage) → GoesOn state state
goes_nowhere state = record { batches = ([], sym (append-nil state.batches)); outcomes = ([], sym (append-nil state.outcomes)); last = omega arith; window = refl }

pub goes_further : {Stage : Type 0} (first between last : CircuitState Stage) → GoesOn first between → GoesOn between last → GoesOn first last
goes_further first between last one two = record {
  batches = (one.batches.0 ++ two.batches.0, two.batches.1 ∙ ap (λ l. l ++ two.batches.0) one.batches.1 ∙ append_assoc first.batches one.batches.0 two.batches.0);
  outcomes = (one.outcomes.0 ++ two.outcomes.0, two.outcomes.1 ∙ ap (λ l. l ++ two.outcomes.0) one.outcomes.1 ∙ append_assoc first.outcomes one.outcomes.0 two.outcomes.0);
  last = omega (arith, one.last, two.last);
  window = two.window ∙ one.window;
}

stays : {Stage : Type 0} (before after : CircuitState Stage) → IsWithinWindow before.status → after ≡ before → Follows before after
stays before after within is = subst (λ s. Follows before s) (sym is) (record { within = within; goes = goes_nowhere before })

ends : {Stage : Type 0} (before after : CircuitState Stage) (fault : CircuitFault) (stage : Stage) → IsWithinWindow before.status → after ≡ ended_by fault (record before { stage = stage }) → Follows before after
ends before after fault stage within is =
    subst (λ s. Follows before s) (sym is) (record {
      within = record { acked = within.acked; sent = within.sent };
      goes = record { batches = ([], sym (append-nil before.batches)); outcomes = ([], sym (append-nil before.outcomes)); last = omega arith; window = refl };
    })

-- there is room in the window where a batch is due
due-room : (status : CircuitStatus) (dirty : Bool) → is_due status dirty ≡ true → nat_lt (status.sent - status.acked) status.window ≡ true
due-room status dirty due = grind (arith, common_steps)

rendered_follows : {Stage : Type 0} (before after : CircuitState Stage) (made : Made) (stage : Stage) (replies : List Down) →
    IsWithinWindow before.status → nat_lt (before.status.sent - before.status.acked) before.status.window ≡ true → Rendered made stage before replies after → Follows before after
rendered_follows {Stage = Stage} before after (md.Batch bytes) stage replies within room does =
    let row : BatchRow Stage = record { bytes = bytes; stage = stage } in
    let below : before.status.sent + 1 ≤ before.status.acked + before.status.window = grind (arith, nat_tests, within.acked) in
    subst (λ s. Follows before s) (sym does.1) (record {
      within = record { acked = omega (arith, within.acked); sent = below };
      goes = record { batches = (row ∷ [], refl); outcomes = ([], sym (append-nil before.outcomes)); last = omega arith; window = refl };
    })
rendered_follows before after (md.Fault fault) stage replies within room does = ends before after fault stage within does.1

renders_follow : {Tree : Type 0} (machine : Machine Tree) (before after : CircuitState machine.State) (spent : Bool) (replies : List Down) →
    IsWithinWindow before.status → nat_lt (before.status.sent - before.status.acked) before.status.window ≡ true → Renders machine spent before replies after → Follows before after
renders_follow machine before after true replies within room does = ends before after _ before.stage within does.1
renders_follow machine before after false replies within room does = rendered_follows before after does.0 does.1 replies within room does.3

makes_follow_by : {Tree : Type 0} (machine : Machine Tree) (before after : CircuitState machine.State) (due : Bool) (replies : List Down) →
    IsWithinWindow before.status → is_due before.status (machine.is_dirty before.stage) ≡ due → RendersIf machine due before replies after → Follows before after
makes_follow_by machine before after true replies within is does =
    renders_follow machine before after (is_spent before.status) replies within (due-room before.status (machine.is_dirty before.stage) is) does
makes_follow_by machine before after false replies within is does = stays before after within does.1

makes_follow : {Tree : Type 0} (machine : Machine Tree) (before after : CircuitState machine.State) (replies : List Down) →
    IsWithinWindow before.status → MakesBatch machine before replies after → Follows before after
makes_follow machine before after replies within does =
    makes_follow_by machine before after (is_due before.status (machine.is_dirty before.stage)) replies within refl does

-- what a taken message was tested for
taken_last : (bound : Bool) (ended : Option CircuitFault) (ahead early : Bool) (first second : Refusal) →
    cond bound (unless_ended ended (cond ahead (Refuses first) (cond early (Refuses second) Takes))) Silent ≡ Takes → early ≡ false
taken_last true None true early first second h = absurd (cc)
taken_last true None false true first second h = absurd (cc)
taken_last true None false false first second h = refl
taken_last true (Some fault) ahead early first second h = absurd (cc)
taken_last false ended ahead early first second h = absurd (cc)

ack_takes : (status : CircuitStatus) (connection batch got : ℕ) → ack_rule status connection batch got ≡ Takes → batch ≤ status.sent
ack_takes status connection batch got h =
    let below = taken_last (is_bound status.bound connection) status.ended (nat_lt status.last got) (nat_lt status.sent batch) _ _ h in
    grind (arith, nat_tests)

taken_connect : (ended : Option CircuitFault) (ahead gone late : Bool) (first second third : Refusal) →
    unless_ended ended (cond ahead (Refuses first) (cond gone (Refuses second) (cond late (Refuses third) Takes))) ≡ Takes → (ahead ≡ false) × (gone ≡ false)
taken_connect (Some fault) ahead gone late first second third h = absurd (cc)
taken_connect None true gone late first second third h = absurd (cc)
taken_connect None false true late first second third h = absurd (cc)
taken_connect None false false late first second third h = (refl, refl)

connect_takes : (status : CircuitStatus) (applied got : ℕ) → connect_rule status applied got ≡ Takes → (applied ≤ status.sent) × (status.acked ≤ applied)
connect_takes status applied got h =
    let tests = taken_connect status.ended (nat_lt status.sent applied) (nat_lt applied status.acked) (nat_lt status.last got) _ _ _ h in
    let made = tests.0 in
    let kept = tests.1 in
    (grind (arith, nat_tests), grind (arith, nat_tests))

taken_event : (bound : Bool) (ended : Option CircuitFault) (ahead above early full : Bool) (first second third : Refusal) →
    cond bound (unless_ended ended (cond ahead (Refuses first) (cond above (cond early (Refuses second) (cond full Takes (Refuses third))) Again))) Silent ≡ Takes → above ≡ true
taken_event false ended ahead above early full first second third h = absurd (cc)
taken_event true (Some fault) ahead above early full first second third h = absurd (cc)
taken_event true None true above early full first second third h = absurd (cc)
taken_event true None false false early full first second third h = absurd (cc)
taken_event true None false true early full first second third h = refl

event_takes : (status : CircuitStatus) (connection number got : ℕ) → event_rule status connection number got ≡ Takes → status.last ≤ number
event_takes status connection number got h =
    let above = taken_event (is_bound status.bound connection) status.ended (nat_lt status.last got) (nat_lt status.last number) (nat_lt (status.last + 1) number) (nat_lt (status.last - max status.forgotten got) outcomes_limit) _ _ _ h in
    grind (arith, nat_tests)

not_taken_follows : {Stage : Type 0} (rule : Rule) (before after : CircuitState Stage) (replies : List Down) → IsWithinWindow before.status → NotTaken rule before replies after → Follows before after
not_taken_follows Silent before after replies within does = stays before after within does.1
not_taken_follows (Over fault) before after replies within does = stays before after within does.1
not_taken_follows (Refuses refusal) before after replies within does = stays before after within does.1
not_taken_follows Again before after replies within does = absurd does
not_taken_follows Takes before after replies within does = absurd does

-- a step behind a change that itself goes on
behind : {Stage : Type 0} (before between after : CircuitState Stage) → GoesOn before between → Follows between after → Follows before after
behind before between after one two = record { within = two.within; goes = goes_further before between after one two.goes }

finish_follows : {Tree : Type 0} (machine : Machine Tree) (acted : Acted) (before after : CircuitState machine.State) (replies : List Down) →
    IsWithinWindow before.status → Finishes machine acted before replies after → Follows before after
finish_follows machine (ac.Outcome outcome) before after replies within does =
    let between : CircuitState machine.State = record before { outcomes = before.outcomes ++ outcome ∷ [] } in
    behind before between after
    (record { batches = ([], sym (append-nil before.batches)); outcomes = (outcome ∷ [], refl); last = omega arith; window = refl })
    (makes_follow machine between after does.0 within does.2)
finish_follows machine (ac.Fault fault) before after replies within does = ends before after fault before.stage within does.1

event_follows : {Tree : Type 0} (machine : Machine Tree) (rule : Rule) (before after : CircuitState machine.State) (connection number handler got : ℕ) (name : List ℕ) (text : Option (List ℕ)) (replies : List Down) →
    event_rule before.status connection number got ≡ rule → IsWithinWindow before.status → EventStep machine rule before number handler got name text replies after → Follows before after
event_follows machine Silent before after connection number handler got name text replies is within does = not_taken_follows Silent before after replies within does
event_follows machine (Over fault) before after connection number handler got name text replies is within does = not_taken_follows (Over fault) before after replies within does
event_follows machine (Refuses refusal) before after connection number handler got name text replies is within does = not_taken_follows (Refuses refusal) before after replies within does
event_follows machine Again before after connection number handler got name text replies is within does =
    subst (λ s. Follows before s) (sym does.1) (record {
      within = record { acked = within.acked; sent = within.sent };
      goes = record { batches = ([], sym (append-nil before.batches)); outcomes = ([], sym (append-nil before.outcomes)); last = omega arith; window = refl };
    })
event_follows machine Takes before after connection number handler got name text replies is within does =
    let between : CircuitState machine.State = record before { stage = does.1; status = record (forgetting before.status got) { last = number } } in
    let risen = event_takes before.status connection number got is in
    behind before between after
    (record { batches = ([], sym (append-nil before.batches)); outcomes = ([], sym (append-nil before.outcomes)); last = risen; window = refl })
    (finish_follows machine does.0 between after replies (record { acked = within.acked; sent = within.sent }) does.3)

ack_follows : {Tree : Type 0} (machine : Machine Tree) (rule : Rule) (before after : CircuitState machine.State) (connection batch got : ℕ) (replies : List Down) →
    ack_rule before.status connection batch got ≡ rule → IsWithinWindow before.status → AckStep machine rule before batch got replies after → Follows before after
ack_follows machine Silent before after connection batch got replies is within does = not_taken_follows Silent before after replies within does
ack_follows machine (Over fault) before after connection batch got replies is within does = not_taken_follows (Over fault) before after replies within does
ack_follows machine (Refuses refusal) before after connection batch got replies is within does = not_taken_follows (Refuses refusal) before after replies within does
ack_follows machine Again before after connection batch got replies is within does = absurd does
ack_follows machine Takes before after connection batch got replies is within does =
    let between : CircuitState machine.State = record before { stage = does.0; status = record (forgetting before.status got) { acked = max before.status.acked batch } } in
    let made = ack_takes before.status connection batch got is in
    behind before between after
    (record { batches = ([], sym (append-nil before.batches)); outcomes = ([], sym (append-nil before.outcomes)); last = omega arith; window = refl })
    (makes_follow machine between after replies (record { acked = omega (arith, made, within.acked); sent = omega (arith, within.sent) }) does.2)

connect_follows : {Tree : Type 0} (machine : Machine Tree) (rule : Rule) (before after : CircuitState machine.State) (connection applied got : ℕ) (replies : List Down) →
    connect_rule before.status applied got ≡ rule → IsWithinWindow before.status → ConnectStep machine rule before connection applied got replies after → Follows before after
connect_follows machine Silent before after connection applied got replies is within does = not_taken_follows Silent before after replies within does
connect_follows machine (Over fault) before after connection applied got replies is within does = not_taken_follows (Over fault) before after replies within does
connect_follows machine (Refuses refusal) before after connection applied got replies is within does = not_taken_follows (Refuses refusal) before after replies within does
connect_follows machine Again before after connection applied got replies is within does = absurd does
connect_follows machine Takes before after connection applied got replies is within does =
    let between : CircuitState machine.State = record before { stage = does.2.0; status = record (forgetting before.status got) { acked = applied; bound = Some connection } } in
    let range = connect_takes before.status applied got is in
    behind before between after
    (record { batches = ([], sym (append-nil before.batches)); outcomes = ([], sym (append-nil before.outcomes)); last = omega arith; window = refl })
    (makes_follow machine between after does.0 (record { acked = range.0; sent = omega (arith, within.sent, range.1) }) does.2.2)

step_follows : {Tree : Type 0} (machine : Machine Tree) (before after : CircuitState machine.State) (connection : ℕ) (message : Up) (replies : List Down) →
    IsWithinWindow before.status → Step machine before connection message replies after → Follows before after
step_follows machine before after connection Start replies within does = absurd does
step_follows machine before after connection (Connect number secret applied got) replies within does =
    connect_follows machine (connect_rule before.status applied got) before after connection applied got replies refl within does
step_follows machine before after connection (Event number handler got name text) replies within does =
    event_follows machine (event_rule before.status connection number got) before after connection number handler got name text replies refl within does
step_follows machine before after connection (Ack batch got) replies within does =
    ack_follows machine (ack_rule before.status connection batch got) before after connection batch got replies refl within does

run_follows : {Tree : Type 0} (machine : Machine Tree) (messages : List (ℕ × Up)) (before after : CircuitState machine.State) →
    IsWithinWindow before.status → Run machine before messages after → Follows before after
run_follows machine [] before after within run = stays before after within run
run_follows machine (message ∷ messages) before after within run =
    let one = step_follows machine before run.1 message.0 message.1 run.0 within run.2 in
    behind before run.1 after one.goes (run_follows machine messages run.1 after one.within run.3)

-- a started circuit keeps its window and its history
pub started_follows : {Tree : Type 0} (machine : Machine Tree) (stage : machine.State) (window connection : ℕ) (replies : List Down) (first : CircuitState machine.State) (messages : List (ℕ × Up)) (last : CircuitState machine.State) →
    MakesBatch machine (started stage window connection) replies first → Run machine first messages last → IsWithinWindow last.status × GoesOn first last
started_follows machine stage window connection replies first messages last made run =
    let one = makes_follow machine (started stage window connection) first replies (record { acked = omega arith; sent = omega arith }) made in
    let two = run_follows machine messages first last one.within run in
    (two.within, two.goes)
