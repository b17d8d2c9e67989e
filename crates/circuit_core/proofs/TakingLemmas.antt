-- What the taken messages do, from what the calls below them did.
use Rattle.std.proofs.Common.{◌≡◌, ℕ, ◌+◌, ◌-◌, ◌≤◌, ◌<◌, max, true, nat_lt, List, [], ◌∷◌, ◌++◌, length, take, drop, get_or, Option, Some, None, refl, sym, ◌∙◌, ap, subst, arith, length-append}
use Rattle.std.proofs.lemmas.List.{drop-append-le}
use Rattle.std.proofs.lemmas.Grind.{common_steps}
use Rattle.std.proofs.lemmas.Bool.Decides.{nat_tests}
use Rattle.hub_messages.specs.Stage.{Machine}
use Rattle.hub_messages.specs.declared.down.Down.{Down}
use Rattle.hub_messages.specs.declared.down.Down.TheVariants.{Connected, Outcome as Told, Ended}
use Rattle.hub_messages.specs.declared.outcome.CircuitFault.{CircuitFault}
use Rattle.hub_messages.specs.declared.outcome.Outcome.{Outcome}
use Rattle.hub_messages.specs.declared.stage.Acted.TheVariants as ac
use Rattle.circuit_meaning.specs.declared.circuit.CircuitStatus.{CircuitStatus}
use Rattle.circuit_meaning.specs.declared.circuit.Rule.TheVariants.{Takes}
use Rattle.circuit_meaning.specs.Circuit.State.{CircuitState, BatchRow, bytes_of, ended_by, forgetting}
use Rattle.circuit_meaning.specs.Circuit.Steps.{outcomes_from, batches_from, outcome_again, EventStep, AckStep, ConnectStep}
use Rattle.circuit_core.specs.Kept.{Kept}
use Rattle.circuit_core.specs.Standing.{Stands}
use Rattle.circuit_core.proofs.MakingLemmas.{Made, stands_ended}

pub acknowledged : {Stage Tree : Type 0} (machine : Machine Tree) (stands : Stage → machine.State → Type 0) (state : CircuitState machine.State) (after : Kept Stage) (batch got acked : ℕ) (before replies : List Down) (stage : machine.State) →
    acked ≡ max state.status.acked batch → before ≡ [] → machine.Releases state.stage acked stage →
    Made machine stands (record state { stage = stage; status = record (forgetting state.status got) { acked = acked } }) after before replies →
    (next : CircuitState machine.State) × Stands stands after next × AckStep machine Takes state batch got replies next
acknowledged machine stands state after batch got acked before replies stage is none releases made =
    let says : replies ≡ made.2.0 = made.2.1 ∙ ap (λ l. l ++ made.2.0) none in
    rw (← is) (made.0, made.1, (stage, releases, rw says made.2.2))

pub stands_taken : {Stage State : Type 0} (stands : Stage → State → Type 0) (state : CircuitState State) (kept after : Kept Stage) (number : ℕ) (stage : State) (outcome : Outcome) →
    Stands stands kept state → state.status.ended ≡ None → state.status.forgotten ≤ state.status.last → number ≡ state.status.last + 1 → stands after.stage stage →
    after.status ≡ record kept.status { last = number } → after.batches ≡ kept.batches → after.outcomes ≡ kept.outcomes ++ outcome ∷ [] →
    Stands stands after (record state { stage = stage; status = record state.status { last = number }; outcomes = state.outcomes ++ outcome ∷ [] })
stands_taken stands state kept after number stage outcome st alive le is new status batches outcomes =
    let runs = st.runs alive in
    record {
      status = status ∙ ap (λ (n : CircuitStatus). record n { last = number }) st.status;
      runs = λ h. record {
        stage = new;
        batches = batches ∙ runs.batches;
        outcomes = outcomes ∙ ap (λ l. l ++ outcome ∷ []) runs.outcomes ∙ sym (drop-append-le state.status.forgotten state.outcomes (outcome ∷ []) (omega (arith, runs.last)));
        sent = runs.sent;
        last = grind (arith, length-append, runs.last);
      };
    }

pub took : {Stage Tree : Type 0} (machine : Machine Tree) (stands : Stage → machine.State → Type 0) (state : CircuitState machine.State) (after : Kept Stage) (number handler got : ℕ) (name : List ℕ) (text : Option (List ℕ)) (before replies : List Down) (outcome : Outcome) (stage : machine.State) →
    machine.Acts state.stage handler name text (ac.Outcome outcome) stage → before ≡ Told number outcome ∷ [] →
    Made machine stands (record state { stage = stage; status = record (forgetting state.status got) { last = number }; outcomes = state.outcomes ++ outcome ∷ [] }) after before replies →
    (next : CircuitState machine.State) × Stands stands after next × EventStep machine Takes state number handler got name text replies next
took machine stands state after number handler got name text before replies outcome stage acts told made =
    (made.0, made.1, (ac.Outcome outcome, stage, acts, (made.2.0, made.2.1 ∙ ap (λ l. l ++ made.2.0) told, made.2.2)))

pub broke : {Stage Tree : Type 0} (machine : Machine Tree) (stands : Stage → machine.State → Type 0) (state : CircuitState machine.State) (after : Kept Stage) (number handler got : ℕ) (name : List ℕ) (text : Option (List ℕ)) (replies : List Down) (fault : CircuitFault) (stage : machine.State) →
    machine.Acts state.stage handler name text (ac.Fault fault) stage → replies ≡ Ended fault ∷ [] →
    after.status ≡ record (forgetting state.status got) { last = number; ended = Some fault } →
    (next : CircuitState machine.State) × Stands stands after next × EventStep machine Takes state number handler got name text replies next
broke machine stands state after number handler got name text replies fault stage acts says status =
    let next : CircuitState machine.State = ended_by fault (record state { stage = stage; status = record (forgetting state.status got) { last = number } }) in
    (next, stands_ended stands after next fault status refl, (ac.Fault fault, stage, acts, (says, refl)))

pub stands_bound : {Stage State : Type 0} (stands : Stage → State → Type 0) (state : CircuitState State) (kept after : Kept Stage) (connection : Option ℕ) →
    Stands stands kept state → after ≡ record kept { status = record kept.status { bound = connection } } → Stands stands after (record state { status = record state.status { bound = connection } })
stands_bound stands state kept after connection st is =
    let next : CircuitState _ = record state { status = record state.status { bound = connection } } in
    let kept_bound : Stands stands (record kept { status = record kept.status { bound = connection } }) next = record {
      status = ap (λ (n : CircuitStatus). record n { bound = connection }) st.status;
      runs = λ h. let r = st.runs h in record { stage = r.stage; batches = r.batches; outcomes = r.outcomes; sent = r.sent; last = r.last };
    } in
    subst (λ k. Stands stands k next) (sym is) kept_bound

pub connected : {State : Type 0} (kept status : CircuitStatus) (batches : List (BatchRow State)) (outcomes : List Outcome) (applied : ℕ) (first second third : List Down) (remembered : List Outcome) (unacknowledged : List (List ℕ)) →
    kept ≡ status → first ≡ Connected kept.sent kept.last ∷ [] → second ≡ first ++ outcomes_from (kept.forgotten + 1) remembered →
    third ≡ second ++ batches_from (applied + 1) unacknowledged → remembered ≡ drop status.forgotten outcomes → unacknowledged ≡ drop applied (bytes_of batches) →
    third ≡ (Connected status.sent status.last ∷ outcomes_from (status.forgotten + 1) (drop status.forgotten outcomes)) ++ batches_from (applied + 1) (drop applied (bytes_of batches))
connected kept status batches outcomes applied first second third remembered unacknowledged same one two three kept_outcomes kept_batches = cc

pub reconnected : {Stage Tree : Type 0} (machine : Machine Tree) (stands : Stage → machine.State → Type 0) (state : CircuitState machine.State) (after : Kept Stage) (connection applied got : ℕ) (before replies : List Down) (stage : machine.State) →
    machine.Releases state.stage applied stage →
    before ≡ (Connected state.status.sent state.status.last ∷ outcomes_from (max state.status.forgotten got + 1) (drop (max state.status.forgotten got) state.outcomes)) ++ batches_from (applied + 1) (drop applied (bytes_of state.batches)) →
    Made machine stands (record state { stage = stage; status = record (forgetting state.status got) { acked = applied; bound = Some connection } }) after before replies →
    (next : CircuitState machine.State) × Stands stands after next × ConnectStep machine Takes state connection applied got replies next
reconnected machine stands state after connection applied got before replies stage releases says made =
    (made.0, made.1, (made.2.0, made.2.1 ∙ ap (λ l. l ++ made.2.0) says, (stage, releases, made.2.2)))

pub outcome-one : (outcomes : List Outcome) (forgotten number : ℕ) (outcome : Outcome) → forgotten < number → number ≤ length outcomes →
    outcomes_from number (take 1 (drop (number - 1) outcomes)) ≡ Told number (get_or (drop forgotten outcomes) (number - forgotten - 1) outcome) ∷ []
outcome-one outcomes forgotten number outcome above below = grind (arith, common_steps)

pub outcome_again-none : (outcomes : List Outcome) (status : CircuitStatus) (number : ℕ) → number ≤ status.forgotten → [] ≡ outcome_again status outcomes number
outcome_again-none outcomes status number le = grind (arith, nat_tests, common_steps)

pub outcome_again-some : (outcomes : List Outcome) (status : CircuitStatus) (number : ℕ) (outcome : Outcome) → status.forgotten < number → number ≤ length outcomes →
    outcome_again status outcomes number ≡ Told number (get_or (drop status.forgotten outcomes) (number - status.forgotten - 1) outcome) ∷ []
outcome_again-some outcomes status number outcome above below =
    let kept : nat_lt status.forgotten number ≡ true = grind (arith, nat_tests) in
    rw kept (outcome-one outcomes status.forgotten number outcome above below)
