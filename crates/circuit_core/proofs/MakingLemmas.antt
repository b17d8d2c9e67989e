-- A batch that is made, or not, by parts that stand for a state.
use Rattle.std.proofs.Common.{◌≡◌, ℕ, ◌+◌, ◌≤◌, true, false, List, [], ◌∷◌, ◌++◌, length, drop, Some, None, refl, sym, ◌∙◌, ap, subst, arith, length-append}
use Rattle.std.proofs.lemmas.List.{append-nil, map-append, length-map, drop-append-le}
use Rattle.hub_messages.specs.Stage.{Machine}
use Rattle.hub_messages.specs.declared.down.Down.{Down}
use Rattle.hub_messages.specs.declared.down.Down.TheVariants.{Batch, Ended}
use Rattle.hub_messages.specs.declared.outcome.CircuitFault.{CircuitFault}
use Rattle.hub_messages.specs.declared.outcome.CircuitFault.TheVariants.{NumbersSpent}
use Rattle.hub_messages.specs.declared.stage.Made.TheVariants as md
use Rattle.circuit_meaning.specs.declared.circuit.CircuitStatus.{CircuitStatus}
use Rattle.circuit_meaning.specs.Circuit.State.{CircuitState, BatchRow, bytes_of, started, ended_by}
use Rattle.circuit_meaning.specs.Circuit.Batches.{is_due, is_spent, Renders, RendersIf, MakesBatch}
use Rattle.circuit_core.specs.Kept.{Kept}
use Rattle.circuit_core.specs.Standing.{Stands, Continues}

-- what a making of a batch leads to
abbrev pub Made : {Stage Tree : Type 0} (machine : Machine Tree) → (Stage → machine.State → Type 0) → CircuitState machine.State → Kept Stage → List Down → List Down → Type 0
Made machine stands state after before replies =
    (next : CircuitState machine.State) × Stands stands after next × Continues machine before replies state next

pub made_none : {Stage Tree : Type 0} (machine : Machine Tree) (stands : Stage → machine.State → Type 0) (state : CircuitState machine.State) (kept : Kept Stage) (replies : List Down) →
    Stands stands kept state → is_due state.status (machine.is_dirty state.stage) ≡ false → Made machine stands state kept replies replies
made_none machine stands state kept replies st due =
    (state, st, ([], sym (append-nil replies), subst (λ b. RendersIf machine b state [] state) (sym due) (refl, refl)))

-- one more batch behind those that are kept
pub drop-one_more : {State : Type 0} (acked : ℕ) (batches : List (BatchRow State)) (row : BatchRow State) → acked ≤ length batches →
    drop acked (bytes_of batches) ++ row.bytes ∷ [] ≡ drop acked (bytes_of (batches ++ row ∷ []))
drop-one_more {State = State} acked batches row le =
    let mapped = map-append (λ (row : BatchRow State). row.bytes) batches (row ∷ []) in
    let dropped = drop-append-le acked (bytes_of batches) (row.bytes ∷ []) (rw length-map le) in
    sym (ap (drop acked) mapped ∙ dropped)

pub made_batch : {Stage Tree : Type 0} (machine : Machine Tree) (stands : Stage → machine.State → Type 0) (state : CircuitState machine.State) (kept after : Kept Stage) (before replies : List Down) (bytes : List ℕ) (stage : machine.State) →
    Stands stands kept state → kept.status.ended ≡ None → kept.status.acked ≤ kept.status.sent → is_due state.status (machine.is_dirty state.stage) ≡ true →
    is_spent state.status ≡ false → machine.Renders state.stage (md.Batch bytes) stage → stands after.stage stage →
    after.status ≡ record kept.status { sent = kept.status.sent + 1 } → after.batches ≡ kept.batches ++ bytes ∷ [] → after.outcomes ≡ kept.outcomes →
    replies ≡ before ++ Batch (kept.status.sent + 1) bytes ∷ [] → Made machine stands state after before replies
made_batch machine stands state kept after before replies bytes stage st alive le due unspent renders new status batches outcomes says =
    let runs = st.runs (ap (λ n. n.ended) (sym st.status) ∙ alive) in
    let row : BatchRow machine.State = record { bytes = bytes; stage = stage } in
    let next : CircuitState machine.State = record state { stage = stage; status = record state.status { sent = state.status.sent + 1 }; batches = state.batches ++ row ∷ [] } in
    let same : Stands stands after next = record {
      status = status ∙ ap (λ (n : CircuitStatus). record n { sent = n.sent + 1 }) st.status;
      runs = λ h. record {
        stage = new;
        batches = batches ∙ ap (λ l. l ++ bytes ∷ []) runs.batches ∙ drop-one_more state.status.acked state.batches row (omega (arith, runs.sent, ap (λ n. n.acked) st.status, ap (λ n. n.sent) st.status));
        outcomes = outcomes ∙ runs.outcomes;
        sent = grind (arith, length-append, runs.sent);
        last = runs.last;
      };
    } in (
      next,
      same,
      (
        Batch (state.status.sent + 1) bytes ∷ [],
        says ∙ ap (λ n. before ++ Batch (n.sent + 1) bytes ∷ []) st.status,
        subst (λ b. RendersIf machine b state (Batch (state.status.sent + 1) bytes ∷ []) next) (sym due)
            (subst (λ b. Renders machine b state (Batch (state.status.sent + 1) bytes ∷ []) next) (sym unspent) (md.Batch bytes, stage, renders, (refl, refl))),
      ),
    )

-- a circuit that a fault ended stands by its status
pub stands_ended : {Stage State : Type 0} (stands : Stage → State → Type 0) (kept : Kept Stage) (state : CircuitState State) (fault : CircuitFault) →
    kept.status ≡ state.status → state.status.ended ≡ Some fault → Stands stands kept state
stands_ended stands kept state fault status over = record { status = status; runs = λ alive. absurd (cc) }

pub made_fault : {Stage Tree : Type 0} (machine : Machine Tree) (stands : Stage → machine.State → Type 0) (state : CircuitState machine.State) (kept after : Kept Stage) (before replies : List Down) (fault : CircuitFault) (stage : machine.State) →
    Stands stands kept state → is_due state.status (machine.is_dirty state.stage) ≡ true →
    is_spent state.status ≡ false → machine.Renders state.stage (md.Fault fault) stage →
    after.status ≡ record kept.status { ended = Some fault } → replies ≡ before ++ Ended fault ∷ [] → Made machine stands state after before replies
made_fault machine stands state kept after before replies fault stage st due unspent renders status says =
    let next : CircuitState machine.State = ended_by fault (record state { stage = stage }) in (
      next,
      stands_ended stands after next fault (status ∙ ap (λ (n : CircuitStatus). record n { ended = Some fault }) st.status) refl,
      (
        Ended fault ∷ [],
        says,
        subst (λ b. RendersIf machine b state (Ended fault ∷ []) next) (sym due)
            (subst (λ b. Renders machine b state (Ended fault ∷ []) next) (sym unspent) (md.Fault fault, stage, renders, (refl, refl))),
      ),
    )

pub made_spent : {Stage Tree : Type 0} (machine : Machine Tree) (stands : Stage → machine.State → Type 0) (state : CircuitState machine.State) (kept after : Kept Stage) (before replies : List Down) →
    Stands stands kept state → is_due state.status (machine.is_dirty state.stage) ≡ true → is_spent state.status ≡ true →
    after.status ≡ record kept.status { ended = Some NumbersSpent } → replies ≡ before ++ Ended NumbersSpent ∷ [] → Made machine stands state after before replies
made_spent machine stands state kept after before replies st due spent status says =
    let next : CircuitState machine.State = ended_by NumbersSpent state in (
      next,
      stands_ended stands after next NumbersSpent (status ∙ ap (λ (n : CircuitStatus). record n { ended = Some NumbersSpent }) st.status) refl,
      (
        Ended NumbersSpent ∷ [],
        says,
        subst (λ b. RendersIf machine b state (Ended NumbersSpent ∷ []) next) (sym due)
            (subst (λ b. Renders machine b state (Ended NumbersSpent ∷ []) next) (sym spent) (refl, refl)),
      ),
    )

-- a circuit that starts
pub stands_first : {Stage Tree : Type 0} (machine : Machine Tree) (stands : Stage → machine.State → Type 0) (stage : machine.State) (window connection : ℕ) (kept : Kept Stage) → stands kept.stage stage →
    kept.status ≡ (started stage window connection).status → kept.batches ≡ [] → kept.outcomes ≡ [] → Stands stands kept (started stage window connection)
stands_first machine stands stage window connection kept new status batches outcomes = record {
  status = status;
  runs = λ alive. record { stage = new; batches = batches; outcomes = outcomes; sent = refl; last = refl };
}

-- replies that go on from none
pub made_first : {Stage Tree : Type 0} (machine : Machine Tree) (stands : Stage → machine.State → Type 0) (state : CircuitState machine.State) (after : Kept Stage) (before replies : List Down) → before ≡ [] →
    Made machine stands state after before replies → (next : CircuitState machine.State) × Stands stands after next × MakesBatch machine state replies next
made_first machine stands state after before replies none made =
    (made.0, made.1, subst (λ l. MakesBatch machine state l made.0) (sym (made.2.1 ∙ ap (λ l. l ++ made.2.0) none)) made.2.2)
