-- A step of a sound circuit leaves it sound, with its batches and perhaps more, and sends only batches that it has made.
use Rattle.std.proofs.Common.{◌≡◌, ◌<◌, ◌≤◌, ℕ, suc, ◌+◌, ◌-◌, Bool, List, [], ◌∷◌, ◌++◌, length, map, drop, take, zero, Some, None, refl, ap, sym, ◌∙◌, subst, arith, true, false, max, length-append, append-nil, inl, inr}
use Rattle.std.proofs.lemmas.Bool.Decides.{nat_tests}
use Rattle.std.proofs.lemmas.List.{length-take-le, take-append-drop}
use Rattle.std.specs.Prelude.{nat_lt, if◌then◌else◌}
use Rattle.std.specs.declared.option.Option.{Option}
use Rattle.std.proofs.lemmas.Bool.{cases_lt}
use Rattle.hub_messages.specs.Stage.{Machine, IsLawful}
use Rattle.hub_messages.specs.declared.down.Down.{Down}
use Rattle.hub_messages.specs.declared.down.Down.TheVariants as dn
use Rattle.hub_messages.specs.declared.outcome.CircuitFault.{CircuitFault}
use Rattle.hub_messages.specs.declared.outcome.CircuitFault.TheVariants as cf
use Rattle.hub_messages.specs.declared.outcome.Outcome.{Outcome}
use Rattle.hub_messages.specs.declared.stage.Acted.{Acted}
use Rattle.hub_messages.specs.declared.stage.Acted.TheVariants as ac
use Rattle.hub_messages.specs.declared.stage.Made.{Made}
use Rattle.hub_messages.specs.declared.stage.Made.TheVariants as md
use Rattle.hub_messages.specs.declared.up.Up.{Up}
use Rattle.hub_messages.specs.declared.up.Up.TheVariants as up
use Rattle.circuit_meaning.specs.declared.circuit.CircuitStatus.{CircuitStatus}
use Rattle.circuit_meaning.specs.declared.circuit.Rule.{Rule}
use Rattle.circuit_meaning.specs.declared.circuit.Rule.TheVariants as rl
use Rattle.circuit_meaning.specs.Rules.{is_bound, unless_ended, event_rule, ack_rule, connect_rule}
use Rattle.circuit_meaning.specs.Circuit.Batches.{Rendered, Renders, RendersIf, MakesBatch, is_due, is_spent}
use Rattle.circuit_meaning.specs.Circuit.State.{BatchRow, CircuitState, bytes_of, ended_by, forgetting}
use Rattle.circuit_meaning.specs.Circuit.Steps.{Step, EventStep, AckStep, ConnectStep, Finishes, outcomes_from, outcome_again, batches_from}
use Rattle.schedule_replay.specs.Every.{Every}
use Rattle.schedule_replay.specs.Line.InStep.{AreShort, IsOf, IsSound, Chains, tree_after}
use Rattle.schedule_replay.specs.Line.Lines.{batch_row}
use Rattle.schedule_replay.specs.Line.Steps.{Ends}
use Rattle.schedule_replay.proofs.Line.EveryLemmas.{every-append, every-weaker}
use Rattle.schedule_replay.proofs.Line.RowLemmas.{get-behind, row-next, row-kept, after-next, chain-more, short-more}

pub record Grows {Tree : Type 0} (ends : Ends Tree) (first : Tree) (before : CircuitState ends.machine.State) (replies : List Down) (after : CircuitState ends.machine.State) : Type 0 where
  pub more : List (BatchRow ends.machine.State)
  pub batches : after.batches ≡ before.batches ++ more
  pub sound : IsSound ends first after
  pub sent : Every (IsOf after.batches) replies

-- what a circuit keeps whose batches stay
pub sound-kept : {Tree : Type 0} (ends : Ends Tree) (first : Tree) (before after : CircuitState ends.machine.State) → IsSound ends first before
    → after.batches ≡ before.batches → after.status.sent ≡ before.status.sent
    → (after.status.ended ≡ None → (before.status.ended ≡ None) × (ends.machine.made after.stage ≡ ends.machine.made before.stage) × (ends.machine.tree after.stage ≡ ends.machine.tree before.stage))
    → IsSound ends first after
sound-kept ends first before after sound same count stage = record {
  chain = subst (λ (rows : List (BatchRow ends.machine.State)). Chains ends first rows) (sym same) sound.chain;
  short = subst (λ (rows : List (BatchRow ends.machine.State)). AreShort rows) (sym same) sound.short;
  sent = count ∙ sound.sent ∙ ap length (sym same);
  made = λ runs. let kept = stage runs in kept.1 ∙ sound.made kept.0 ∙ ap length (sym same);
  tree = λ runs. let kept = stage runs in kept.2 ∙ sound.tree kept.0
      ∙ ap (λ (rows : List (BatchRow ends.machine.State)). tree_after ends.machine first rows (length rows)) (sym same);
}

pub grows-same : {Tree : Type 0} (ends : Ends Tree) (first : Tree) (before after : CircuitState ends.machine.State) (replies : List Down) → IsSound ends first after
    → after.batches ≡ before.batches → Every (IsOf before.batches) replies → Grows ends first before replies after
grows-same ends first before after replies sound same sent = record {
  more = [];
  batches = same ∙ sym (append-nil before.batches);
  sound = sound;
  sent = subst (λ (rows : List (BatchRow ends.machine.State)). Every (IsOf rows) replies) (sym same) sent;
}

none-ended : (fault : CircuitFault) {A : Type 0} → Some fault ≡ None → A
none-ended fault e = absurd (cc)

-- a rendering

module _ {Tree : Type 0} (ends : Ends Tree) (first : Tree) (lawful : IsLawful first ends.turns ends.machine) where
  abbrev State : Type 0
  State = ends.machine.State

  abbrev Circuit : Type 0
  Circuit = CircuitState State

  abbrev with_batch : Circuit → List ℕ → State → Circuit
  with_batch before bytes stage = record before {
    stage = stage;
    status = record before.status { sent = before.status.sent + 1 };
    batches = before.batches ++ record { bytes = bytes; stage = stage } ∷ [];
  }

  batch-sound : (before : Circuit) (bytes : List ℕ) (stage : State) → before.status.ended ≡ None → IsSound ends first before
      → ends.machine.Renders before.stage (md.Batch bytes) stage → IsSound ends first (with_batch before bytes stage)
  batch-sound before bytes stage runs sound rendered =
      let row : BatchRow State = record { bytes = bytes; stage = stage } in
      let longer : length (before.batches ++ row ∷ []) ≡ length before.batches + 1 = length-append before.batches (row ∷ []) in
      let turned = lawful.render.turned before.stage stage bytes rendered in
      let counted : ends.turns (length before.batches + 1) bytes (ends.machine.tree before.stage) (ends.machine.tree stage) (ends.machine.counts stage) =
      subst (λ (n : ℕ). ends.turns (n + 1) bytes (ends.machine.tree before.stage) (ends.machine.tree stage) (ends.machine.counts stage)) (sound.made runs) turned in
      let placed : ends.turns (length before.batches + 1) bytes (tree_after ends.machine first before.batches (length before.batches)) (ends.machine.tree stage) (ends.machine.counts stage) =
      subst (λ (t : Tree). ends.turns (length before.batches + 1) bytes t (ends.machine.tree stage) (ends.machine.counts stage)) (sound.tree runs) counted in
      record {
        chain = chain-more ends first before.batches row sound.chain placed;
        short = short-more before.batches row sound.short (lawful.render.short before.stage stage bytes rendered);
        sent = ap (λ (n : ℕ). n + 1) sound.sent ∙ sym longer;
        made = λ still. lawful.render.made before.stage stage (md.Batch bytes) rendered ∙ ap (λ (n : ℕ). n + 1) (sound.made runs) ∙ sym longer;
        tree = λ still. sym (subst (λ (n : ℕ). tree_after ends.machine first (before.batches ++ row ∷ []) n ≡ ends.machine.tree stage) (sym longer)
            (after-next ends.machine first (before.batches ++ row ∷ []) (length before.batches) row (get-behind before.batches row)));
      }

  batch-found : (before : Circuit) (bytes : List ℕ) (stage : State) → IsSound ends first before
      → IsOf (with_batch before bytes stage).batches (dn.Batch (before.status.sent + 1) bytes)
  batch-found before bytes stage sound =
      let row : BatchRow State = record { bytes = bytes; stage = stage } in
      let there : batch_row (before.batches ++ row ∷ []) (length before.batches + 1) ≡ Some row =
      row-next (before.batches ++ row ∷ []) (length before.batches) ∙ get-behind before.batches row in
      (row, subst (λ (n : ℕ). batch_row (before.batches ++ row ∷ []) (n + 1) ≡ Some row) (sym sound.sent) there, refl)

  ended-sound : (before : Circuit) (fault : CircuitFault) (stage : State) → IsSound ends first before → IsSound ends first (ended_by fault (record before { stage = stage }))
  ended-sound before fault stage sound =
      sound-kept ends first before (ended_by fault (record before { stage = stage })) sound refl refl (λ runs. none-ended fault runs)

  grows-rendered : (before after : Circuit) (made : Made) (stage : State) (replies : List Down) → before.status.ended ≡ None → IsSound ends first before
      → ends.machine.Renders before.stage made stage → Rendered made stage before replies after → Grows ends first before replies after
  grows-rendered before after (md.Batch bytes) stage replies runs sound rendered does =
      let row : BatchRow State = record { bytes = bytes; stage = stage } in
      let next : Circuit = with_batch before bytes stage in
      let found = batch-found before bytes stage sound in
      let grown : Grows ends first before (dn.Batch (before.status.sent + 1) bytes ∷ []) next = record {
        more = row ∷ [];
        batches = refl;
        sound = batch-sound before bytes stage runs sound rendered;
        sent = (found, tt);
      } in
      subst (λ (x : Circuit). Grows ends first before replies x) (sym does.1)
      (subst (λ (x : List Down). Grows ends first before x next) (sym does.0) grown)
  grows-rendered before after (md.Fault fault) stage replies runs sound rendered does =
      let next : Circuit = ended_by fault (record before { stage = stage }) in
      let grown : Grows ends first before (dn.Ended fault ∷ []) next =
      grows-same ends first before next (dn.Ended fault ∷ []) (ended-sound before fault stage sound) refl (tt, tt) in
      subst (λ (x : Circuit). Grows ends first before replies x) (sym does.1)
      (subst (λ (x : List Down). Grows ends first before x next) (sym does.0) grown)

  grows-renders : (before after : Circuit) (spent : Bool) (replies : List Down) → before.status.ended ≡ None → IsSound ends first before
      → Renders ends.machine spent before replies after → Grows ends first before replies after
  grows-renders before after true replies runs sound does =
      let fault : CircuitFault = cf.NumbersSpent in
      let next : Circuit = ended_by fault before in
      let grown : Grows ends first before (dn.Ended fault ∷ []) next =
      grows-same ends first before next (dn.Ended fault ∷ []) (ended-sound before fault before.stage sound) refl (tt, tt) in
      subst (λ (x : Circuit). Grows ends first before replies x) (sym does.1)
      (subst (λ (x : List Down). Grows ends first before x next) (sym does.0) grown)
  grows-renders before after false replies runs sound does = grows-rendered before after does.0 does.1 replies runs sound does.2 does.3

  grows-if : (before after : Circuit) (due : Bool) (replies : List Down) → before.status.ended ≡ None → IsSound ends first before
      → RendersIf ends.machine due before replies after → Grows ends first before replies after
  grows-if before after true replies runs sound does = grows-renders before after (is_spent before.status) replies runs sound does
  grows-if before after false replies runs sound does =
      subst (λ (x : Circuit). Grows ends first before replies x) (sym does.1)
      (subst (λ (x : List Down). Grows ends first before x before) (sym does.0) (grows-same ends first before before [] sound refl tt))

  pub grows-batch : (before after : Circuit) (replies : List Down) → before.status.ended ≡ None → IsSound ends first before
      → MakesBatch ends.machine before replies after → Grows ends first before replies after
  grows-batch before after replies runs sound does = grows-if before after (is_due before.status (ends.machine.is_dirty before.stage)) replies runs sound does

-- outcomes are no batches, and batches that are sent again are those that were made

outcomes-any : {Stage : Type 0} (rows : List (BatchRow Stage)) (number : ℕ) (outcomes : List Outcome) → Every (IsOf rows) (outcomes_from number outcomes)
outcomes-any rows number [] = tt
outcomes-any rows number (outcome ∷ outcomes) = (tt, outcomes-any rows (number + 1) outcomes)

outcome-any : {Stage : Type 0} (rows : List (BatchRow Stage)) (kept : Bool) (number : ℕ) (outcomes : List Outcome)
    → Every (IsOf rows) (if kept then outcomes_from number outcomes else [])
outcome-any rows true number outcomes = outcomes-any rows number outcomes
outcome-any rows false number outcomes = tt

append-assoc : {A : Type 0} (xs : List A) (y : A) (ys : List A) → (xs ++ y ∷ []) ++ ys ≡ xs ++ y ∷ ys
append-assoc [] y ys = refl
append-assoc (x ∷ xs) y ys = ap (λ (t : List _). x ∷ t) (append-assoc xs y ys)

batches-behind : {Stage : Type 0} (front rows : List (BatchRow Stage)) → Every (IsOf (front ++ rows)) (batches_from (length front + 1) (bytes_of rows))
batches-behind front [] = tt
batches-behind {Stage} front (row ∷ rows) =
    let whole : List (BatchRow Stage) = front ++ row ∷ rows in
    let moved : (front ++ row ∷ []) ++ rows ≡ whole = append-assoc front row rows in
    let longer : length (front ++ row ∷ []) ≡ length front + 1 = length-append front (row ∷ []) in
    let first : batch_row whole (length front + 1) ≡ Some row =
    subst (λ (x : List (BatchRow Stage)). batch_row x (length front + 1) ≡ Some row) moved
    (row-kept (front ++ row ∷ []) rows (length front + 1) row (row-next (front ++ row ∷ []) (length front) ∙ get-behind front row)) in
    let rest = batches-behind (front ++ row ∷ []) rows in
    let there = subst (λ (x : List (BatchRow Stage)). Every (IsOf x) (batches_from (length (front ++ row ∷ []) + 1) (bytes_of rows))) moved rest in
    ((row, first, refl), subst (λ (n : ℕ). Every (IsOf whole) (batches_from (n + 1) (bytes_of rows))) longer there)

map-drop : {A B : Type 0} (f : A → B) (n : ℕ) (xs : List A) → drop n (map f xs) ≡ map f (drop n xs)
map-drop f zero xs = refl
map-drop f (suc n) [] = refl
map-drop f (suc n) (x ∷ xs) = map-drop f n xs

batches-again : {Stage : Type 0} (rows : List (BatchRow Stage)) (number : ℕ) → number ≤ length rows → Every (IsOf rows) (batches_from (number + 1) (drop number (bytes_of rows)))
batches-again {Stage} rows number within =
    let front : List (BatchRow Stage) = take number rows in
    let rest : List (BatchRow Stage) = drop number rows in
    let whole : front ++ rest ≡ rows = take-append-drop number rows in
    let counted : length front ≡ number = length-take-le number rows within in
    let behind = batches-behind front rest in
    let placed = subst (λ (n : ℕ). Every (IsOf (front ++ rest)) (batches_from (n + 1) (bytes_of rest))) counted behind in
    let joined = subst (λ (x : List (BatchRow Stage)). Every (IsOf x) (batches_from (number + 1) (bytes_of rest))) whole placed in
    subst (λ (x : List (List ℕ)). Every (IsOf rows) (batches_from (number + 1) x)) (sym (map-drop (λ (r : BatchRow Stage). r.bytes) number rows)) joined

-- what is of some batches is of these and more
pub still-of : {Stage : Type 0} (rows longer more : List (BatchRow Stage)) → longer ≡ rows ++ more → (x : Down) → IsOf rows x → IsOf longer x
still-of {Stage} rows longer more e (dn.Batch number bytes) is =
    (is.0, subst (λ (x : List (BatchRow Stage)). batch_row x number ≡ Some is.0) (sym e) (row-kept rows more number is.0 is.1), is.2)
still-of rows longer more e _ is = tt

-- the rules by which a circuit takes a message: it has not ended

runs-unless : (ended : Option CircuitFault) (rule : Rule) → unless_ended ended rule ≡ rl.Takes → ended ≡ None
runs-unless None rule e = refl
runs-unless (Some fault) rule e = absurd (cc)

again-unless : (ended : Option CircuitFault) (rule : Rule) → unless_ended ended rule ≡ rl.Again → ended ≡ None
again-unless None rule e = refl
again-unless (Some fault) rule e = absurd (cc)

runs-bound : (bound : Bool) (ended : Option CircuitFault) (rule : Rule) → (if bound then unless_ended ended rule else rl.Silent) ≡ rl.Takes → ended ≡ None
runs-bound true ended rule e = runs-unless ended rule e
runs-bound false ended rule e = absurd (cc)

again-bound : (bound : Bool) (ended : Option CircuitFault) (rule : Rule) → (if bound then unless_ended ended rule else rl.Silent) ≡ rl.Again → ended ≡ None
again-bound true ended rule e = again-unless ended rule e
again-bound false ended rule e = absurd (cc)

-- a Connect is taken only up to the batches that were made
not-ahead : (ahead gone far : Bool) (ended : Option CircuitFault) (a b c : Rule) → unless_ended ended (if ahead then a else (if gone then b else (if far then c else rl.Takes))) ≡ rl.Takes
    → (a ≡ rl.Takes → ⊥) → ahead ≡ false
not-ahead true gone far None a b c e other = absurd (other e)
not-ahead true gone far (Some fault) a b c e other = absurd (cc)
not-ahead false gone far ended a b c e other = refl

-- steps

module _ {Tree : Type 0} (ends : Ends Tree) (first : Tree) (lawful : IsLawful first ends.turns ends.machine) where
  abbrev St : Type 0
  St = ends.machine.State

  abbrev Cir : Type 0
  Cir = CircuitState St

  one-reply : (before after : Cir) (reply : Down) (replies : List Down) → IsSound ends first before → ((rows : List (BatchRow St)) → IsOf rows reply)
      → (replies ≡ reply ∷ []) × (after ≡ before) → Grows ends first before replies after
  one-reply before after reply replies sound is does =
      subst (λ (x : Cir). Grows ends first before replies x) (sym does.1)
      (subst (λ (x : List Down). Grows ends first before x before) (sym does.0) (grows-same ends first before before (reply ∷ []) sound refl (is before.batches, tt)))

  no-reply : (before after : Cir) (replies : List Down) → IsSound ends first before → (replies ≡ []) × (after ≡ before) → Grows ends first before replies after
  no-reply before after replies sound does =
      subst (λ (x : Cir). Grows ends first before replies x) (sym does.1)
      (subst (λ (x : List Down). Grows ends first before x before) (sym does.0) (grows-same ends first before before [] sound refl tt))

  -- from a state with the same batches
  from-same : (before middle after : Cir) (replies : List Down) → middle.batches ≡ before.batches → Grows ends first middle replies after → Grows ends first before replies after
  from-same before middle after replies same grows = record {
    more = grows.more;
    batches = grows.batches ∙ ap (λ (x : List (BatchRow St)). x ++ grows.more) same;
    sound = grows.sound;
    sent = grows.sent;
  }

  -- other replies before those
  with-replies : (before after : Cir) (front replies all : List Down) → all ≡ front ++ replies → ((rows : List (BatchRow St)) → Every (IsOf rows) front) → Grows ends first before replies after
      → Grows ends first before all after
  with-replies before after front replies all e any grows =
      subst (λ (x : List Down). Grows ends first before x after) (sym e)
      (record { more = grows.more; batches = grows.batches; sound = grows.sound; sent = every-append (IsOf after.batches) front replies (any after.batches) grows.sent })

  abbrev acting : Cir → ℕ → ℕ → St → Cir
  acting before number got stage = record before { stage = stage; status = record (forgetting before.status got) { last = number } }

  acting-sound : (before : Cir) (number got : ℕ) (stage : St) → IsSound ends first before
      → (ends.machine.made stage ≡ ends.machine.made before.stage) → (ends.machine.tree stage ≡ ends.machine.tree before.stage) → IsSound ends first (acting before number got stage)
  acting-sound before number got stage sound made tree =
      sound-kept ends first before (acting before number got stage) sound refl refl (λ runs. (runs, made, tree))

  finishes : (before after : Cir) (acted : Acted) (replies : List Down) → before.status.ended ≡ None → IsSound ends first before
      → Finishes ends.machine acted before replies after → Grows ends first before replies after
  finishes before after (ac.Outcome outcome) replies runs sound does =
      let middle : Cir = record before { outcomes = before.outcomes ++ outcome ∷ [] } in
      let kept = sound-kept ends first before middle sound refl refl (λ e. (e, refl, refl)) in
      let grown = grows-batch ends first lawful middle after does.0 runs kept does.2 in
      with-replies before after (dn.Outcome before.status.last outcome ∷ []) does.0 replies does.1 (λ rows. (tt, tt))
      (from-same before middle after does.0 refl grown)
  finishes before after (ac.Fault fault) replies runs sound does =
      let next : Cir = ended_by fault before in
      let ended = sound-kept ends first before next sound refl refl (λ e. none-ended fault e) in
      subst (λ (x : Cir). Grows ends first before replies x) (sym does.1)
      (subst (λ (x : List Down). Grows ends first before x next) (sym does.0) (grows-same ends first before next (dn.Ended fault ∷ []) ended refl (tt, tt)))

  event-grows : (before after : Cir) (connection number handler got : ℕ) (name : List ℕ) (text : Option (List ℕ)) (replies : List Down) (rule : Rule) → IsSound ends first before
      → event_rule before.status connection number got ≡ rule → EventStep ends.machine rule before number handler got name text replies after → Grows ends first before replies after
  event-grows before after connection number handler got name text replies rl.Silent sound e does = no-reply before after replies sound does
  event-grows before after connection number handler got name text replies (rl.Over fault) sound e does = one-reply before after (dn.Ended fault) replies sound (λ rows. tt) does
  event-grows before after connection number handler got name text replies (rl.Refuses refusal) sound e does = one-reply before after (dn.Refused refusal) replies sound (λ rows. tt) does
  event-grows before after connection number handler got name text replies rl.Again sound e does =
      let next : Cir = record before { status = forgetting before.status got } in
      let kept = sound-kept ends first before next sound refl refl (λ runs. (runs, refl, refl)) in
      subst (λ (x : Cir). Grows ends first before replies x) (sym does.1)
      (subst (λ (x : List Down). Grows ends first before x next) (sym does.0)
      (grows-same ends first before next (outcome_again (forgetting before.status got) before.outcomes number) kept refl
      (outcome-any before.batches (nat_lt (forgetting before.status got).forgotten number) number (take 1 (drop (number - 1) before.outcomes)))))
  event-grows before after connection number handler got name text replies rl.Takes sound e does =
      let runs : before.status.ended ≡ None = runs-bound (is_bound before.status.bound connection) before.status.ended _ e in
      let acted = does.0 in
      let stage = does.1 in
      let acts = does.2 in
      let made = lawful.act.made before.stage stage handler name text acted acts in
      let tree = lawful.act.tree before.stage stage handler name text acted acts in
      let middle : Cir = acting before number got stage in
      from-same before middle after replies refl (finishes middle after acted replies runs (acting-sound before number got stage sound made tree) does.3)

  ack-grows : (before after : Cir) (connection batch got : ℕ) (replies : List Down) (rule : Rule) → IsSound ends first before
      → ack_rule before.status connection batch got ≡ rule → AckStep ends.machine rule before batch got replies after → Grows ends first before replies after
  ack-grows before after connection batch got replies rl.Silent sound e does = no-reply before after replies sound does
  ack-grows before after connection batch got replies (rl.Over fault) sound e does = one-reply before after (dn.Ended fault) replies sound (λ rows. tt) does
  ack-grows before after connection batch got replies (rl.Refuses refusal) sound e does = one-reply before after (dn.Refused refusal) replies sound (λ rows. tt) does
  ack-grows before after connection batch got replies rl.Again sound e does = absurd does
  ack-grows before after connection batch got replies rl.Takes sound e does =
      let runs : before.status.ended ≡ None = runs-bound (is_bound before.status.bound connection) before.status.ended _ e in
      let stage = does.0 in
      let made = lawful.release.made before.stage stage (max before.status.acked batch) does.1 in
      let tree = lawful.release.tree before.stage stage (max before.status.acked batch) does.1 in
      let middle : Cir = record before { stage = stage; status = record (forgetting before.status got) { acked = max before.status.acked batch } } in
      let kept = sound-kept ends first before middle sound refl refl (λ still. (still, made, tree)) in
      from-same before middle after replies refl (grows-batch ends first lawful middle after replies runs kept does.2)

  connect-grows : (before after : Cir) (connection applied got : ℕ) (replies : List Down) (rule : Rule) → IsSound ends first before
      → connect_rule before.status applied got ≡ rule → ConnectStep ends.machine rule before connection applied got replies after → Grows ends first before replies after
  connect-grows before after connection applied got replies rl.Silent sound e does = no-reply before after replies sound does
  connect-grows before after connection applied got replies (rl.Over fault) sound e does = one-reply before after (dn.Ended fault) replies sound (λ rows. tt) does
  connect-grows before after connection applied got replies (rl.Refuses refusal) sound e does = one-reply before after (dn.Refused refusal) replies sound (λ rows. tt) does
  connect-grows before after connection applied got replies rl.Again sound e does = absurd does
  connect-grows before after connection applied got replies rl.Takes sound e does =
      let runs : before.status.ended ≡ None = runs-unless before.status.ended _ e in
      let near = not-ahead (nat_lt before.status.sent applied) (nat_lt applied before.status.acked) (nat_lt before.status.last got) before.status.ended _ _ _ e (λ no_such. absurd (cc)) in
      let sent = sound.sent in
      let within : applied ≤ length before.batches = grind (arith, nat_tests, near, sent) in
      let stage = does.2.0 in
      let made = lawful.release.made before.stage stage applied does.2.1 in
      let tree = lawful.release.tree before.stage stage applied does.2.1 in
      let middle : Cir = record before { stage = stage; status = record (forgetting before.status got) { acked = applied; bound = Some connection } } in
      let kept = sound-kept ends first before middle sound refl refl (λ still. (still, made, tree)) in
      let grown = from-same before middle after does.0 refl (grows-batch ends first lawful middle after does.0 runs kept does.2.2) in
      let kept_rows : (x : Down) → IsOf before.batches x → IsOf after.batches x = still-of before.batches after.batches grown.more grown.batches in
      let from : ℕ = max before.status.forgotten got in
      let told : List Down = outcomes_from (from + 1) (drop from before.outcomes) in
      let again : List Down = batches_from (applied + 1) (drop applied (bytes_of before.batches)) in
      let again_of = every-weaker (IsOf before.batches) (IsOf after.batches) kept_rows again (batches-again before.batches applied within) in
      let greeted : List Down = dn.Connected before.status.sent before.status.last ∷ told in
      let told_of : Every (IsOf after.batches) greeted = (tt, outcomes-any after.batches (from + 1) (drop from before.outcomes)) in
      let all : Every (IsOf after.batches) ((greeted ++ again) ++ does.0) =
      every-append (IsOf after.batches) (greeted ++ again) does.0 (every-append (IsOf after.batches) greeted again told_of again_of) grown.sent in
      record { more = grown.more; batches = grown.batches; sound = grown.sound; sent = subst (λ (x : List Down). Every (IsOf after.batches) x) (sym does.1) all }

  pub step-grows : (before after : Cir) (connection : ℕ) (message : Up) (replies : List Down) → IsSound ends first before
      → Step ends.machine before connection message replies after → Grows ends first before replies after
  step-grows before after connection up.Start replies sound does = absurd does
  step-grows before after connection (up.Connect number secret applied got) replies sound does = connect-grows before after connection applied got replies _ sound refl does
  step-grows before after connection (up.Event number handler got name text) replies sound does = event-grows before after connection number handler got name text replies _ sound refl does
  step-grows before after connection (up.Ack batch got) replies sound does = ack-grows before after connection batch got replies _ sound refl does
