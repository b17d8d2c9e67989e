-- Every step keeps the browser in step with the circuit.
use Rattle.std.proofs.Common.{◌≡◌, ◌≤◌, ℕ, ◌+◌, List, [], ◌∷◌, ◌++◌, length, map, slice_get, Some, None, refl, ap, sym, ◌∙◌, subst, arith, length-append, append-nil}
use Rattle.std.specs.declared.option.Option.{Option}
use Rattle.hub_messages.specs.Stage.{Machine, IsLawful}
use Rattle.hub_messages.specs.declared.down.Down.{Down}
use Rattle.hub_messages.specs.declared.down.Down.TheVariants as dn
use Rattle.hub_messages.specs.declared.outcome.Refusal.TheVariants as rf
use Rattle.hub_messages.specs.declared.up.Up.{Up}
use Rattle.hub_messages.specs.declared.up.Up.TheVariants as up
use Rattle.circuit_meaning.specs.Browser.State.{BrowserState}
use Rattle.circuit_meaning.specs.Circuit.Batches.{MakesBatch}
use Rattle.circuit_meaning.specs.Circuit.State.{BatchRow, CircuitState, started}
use Rattle.schedule_replay.specs.Every.{Every}
use Rattle.schedule_replay.specs.Line.InStep.{AreShort, IsInStep, IsOf, IsOfLine, IsSound, IsSoundIf, IsShortReply, tree_after}
use Rattle.schedule_replay.specs.Line.Lines.{rows_of}
use Rattle.schedule_replay.specs.Line.Server.{Serves, WithCircuit, WithoutCircuit}
use Rattle.schedule_replay.specs.Line.State.{LineState, Message, upward, downward, connection}
use Rattle.schedule_replay.specs.Line.Steps.{Ends}
use Rattle.schedule_replay.proofs.Line.BrowserLemmas.{Shows}
use Rattle.schedule_replay.proofs.Line.CircuitLemmas.{Grows, grows-batch, step-grows, still-of}
use Rattle.schedule_replay.proofs.Line.EveryLemmas.{every-append, every-any, every-map, every-weaker}
use Rattle.schedule_replay.proofs.Line.RowLemmas.{after-front, row-short}

-- what a browser sends carries no batch
ups-any : {Stage : Type 0} (rows : List (BatchRow Stage)) (ups : List Up) → Every (IsOfLine rows) (map upward ups)
ups-any rows ups = every-map (IsOfLine rows) upward ups (every-any (λ x. IsOfLine rows (upward x)) (λ x. tt) ups)

-- after a step of the browser
pub in-step-up : {Tree : Type 0} (ends : Ends Tree) (first : Tree) (state : LineState ends.machine.State Tree) (browser : BrowserState Tree) (ups : List Up) (delivered : ℕ)
    → IsInStep ends first state → Shows ends first (rows_of state.circuit) browser
    → IsInStep ends first (record state { steps = state.steps + 1; browser = browser; messages = state.messages ++ map upward ups; delivered = delivered })
in-step-up ends first state browser ups delivered kept shows = record {
  circuit = kept.circuit;
  messages = every-append (IsOfLine (rows_of state.circuit)) state.messages (map upward ups) kept.messages (ups-any (rows_of state.circuit) ups);
  applied = shows.applied;
  shown = shows.shown;
}

-- what the server leaves, and the batches that it sends
pub record Served {Tree : Type 0} (ends : Ends Tree) (first : Tree) (before : Option (CircuitState ends.machine.State)) (replies : List Down) (after : Option (CircuitState ends.machine.State)) : Type 0 where
  pub more : List (BatchRow ends.machine.State)
  pub rows : rows_of after ≡ rows_of before ++ more
  pub sound : IsSoundIf ends first after
  pub sent : Every (IsOf (rows_of after)) replies

module _ {Tree : Type 0} (ends : Ends Tree) (first : Tree) (lawful : IsLawful first ends.turns ends.machine) (begins : ends.machine.First ends.stage) where
  abbrev Circuits : Type 0
  Circuits = CircuitState ends.machine.State

  started-sound : IsSound ends first (started ends.stage ends.window connection)
  started-sound = record {
    chain = λ place row found. absurd (cc);
    short = λ place row found. absurd (cc);
    sent = refl;
    made = λ runs. lawful.first.made ends.stage begins;
    tree = λ runs. lawful.first.tree ends.stage begins;
  }

  refused : (before after : Option Circuits) (replies : List Down) (reply : Down) → IsSoundIf ends first before → ((rows : List (BatchRow ends.machine.State)) → IsOf rows reply)
      → replies ≡ reply ∷ [] → after ≡ before → Served ends first before replies after
  refused before after replies reply sound is said same =
      let served : Served ends first before (reply ∷ []) before = record {
        more = [];
        rows = sym (append-nil (rows_of before));
        sound = sound;
        sent = (is (rows_of before), tt);
      } in
      subst (λ (x : Option Circuits). Served ends first before replies x) (sym same)
      (subst (λ (x : List Down). Served ends first before x before) (sym said) served)

  begins-served : (after : Option Circuits) (replies : List Down) → WithoutCircuit ends.machine ends.stage ends.window up.Start replies after → Served ends first None replies after
  begins-served after replies does =
      let grown = grows-batch ends first lawful (started ends.stage ends.window connection) does.1 does.0 refl started-sound does.3 in
      let served : Served ends first None (dn.Started connection 0 ∷ does.0) (Some does.1) = record {
        more = does.1.batches;
        rows = refl;
        sound = grown.sound;
        sent = (tt, grown.sent);
      } in
      subst (λ (x : Option Circuits). Served ends first None replies x) (sym does.4)
      (subst (λ (x : List Down). Served ends first None x (Some does.1)) (sym does.2) served)

  without-served : (message : Up) (after : Option Circuits) (replies : List Down) → WithoutCircuit ends.machine ends.stage ends.window message replies after → Served ends first None replies after
  without-served up.Start after replies does = begins-served after replies does
  without-served (up.Connect number secret applied got) after replies does = refused None after replies (dn.Refused rf.NotConnected) tt (λ rows. tt) does.0 does.1
  without-served (up.Event number handler got name text) after replies does = refused None after replies (dn.Refused rf.NotConnected) tt (λ rows. tt) does.0 does.1
  without-served (up.Ack batch got) after replies does = refused None after replies (dn.Refused rf.NotConnected) tt (λ rows. tt) does.0 does.1

  grown-served : (before circuit : Circuits) (after : Option Circuits) (replies : List Down) → Grows ends first before replies circuit → after ≡ Some circuit → Served ends first (Some before) replies after
  grown-served before circuit after replies grown same =
      let served : Served ends first (Some before) replies (Some circuit) = record {
        more = grown.more;
        rows = grown.batches;
        sound = grown.sound;
        sent = grown.sent;
      } in
      subst (λ (x : Option Circuits). Served ends first (Some before) replies x) (sym same) served

  with-served : (before : Circuits) (message : Up) (after : Option Circuits) (replies : List Down) → IsSound ends first before → WithCircuit ends.machine before message replies after
      → Served ends first (Some before) replies after
  with-served before up.Start after replies sound does = refused (Some before) after replies (dn.Refused rf.AlreadyConnected) sound (λ rows. tt) does.0 does.1
  with-served before (up.Connect number secret applied got) after replies sound does =
      grown-served before does.0 after replies (step-grows ends first lawful before does.0 connection (up.Connect number secret applied got) replies sound does.1) does.2
  with-served before (up.Event number handler got name text) after replies sound does =
      grown-served before does.0 after replies (step-grows ends first lawful before does.0 connection (up.Event number handler got name text) replies sound does.1) does.2
  with-served before (up.Ack batch got) after replies sound does =
      grown-served before does.0 after replies (step-grows ends first lawful before does.0 connection (up.Ack batch got) replies sound does.1) does.2

  pub serves-served : (before : Option Circuits) (message : Up) (after : Option Circuits) (replies : List Down) → IsSoundIf ends first before
      → Serves ends.machine ends.stage ends.window before message replies after → Served ends first before replies after
  serves-served None message after replies sound does = without-served message after replies does
  serves-served (Some before) message after replies sound does = with-served before message after replies sound does

  still-of-line : (rows longer more : List (BatchRow ends.machine.State)) → longer ≡ rows ++ more → (x : Message) → IsOfLine rows x → IsOfLine longer x
  still-of-line rows longer more e (upward message) is = tt
  still-of-line rows longer more e (downward message) is = still-of rows longer more e message is

  -- after a step of the server
  pub in-step-down : (state : LineState ends.machine.State Tree) (message : Up) (replies : List Down) (circuit : Option Circuits) (delivered : ℕ)
      → IsInStep ends first state → Serves ends.machine ends.stage ends.window state.circuit message replies circuit
      → IsInStep ends first (record state { steps = state.steps + 1; circuit = circuit; messages = state.messages ++ map downward replies; delivered = delivered })
  in-step-down state message replies circuit delivered kept serves =
      let rows : List (BatchRow ends.machine.State) = rows_of state.circuit in
      let longer : List (BatchRow ends.machine.State) = rows_of circuit in
      let served = serves-served state.circuit message circuit replies kept.circuit serves in
      let old : Every (IsOfLine longer) state.messages = every-weaker (IsOfLine rows) (IsOfLine longer) (still-of-line rows longer served.more served.rows) state.messages kept.messages in
      let new : Every (IsOfLine longer) (map downward replies) = every-map (IsOfLine longer) downward replies served.sent in
      let counted : length longer ≡ length rows + length served.more = ap length served.rows ∙ length-append rows served.more in
      let applied = kept.applied in
      let same : tree_after ends.machine first longer state.browser.status.applied ≡ tree_after ends.machine first rows state.browser.status.applied =
      ap (λ (x : List (BatchRow ends.machine.State)). tree_after ends.machine first x state.browser.status.applied) served.rows
      ∙ after-front ends.machine first rows served.more state.browser.status.applied applied in
      record {
        circuit = served.sound;
        messages = every-append (IsOfLine longer) state.messages (map downward replies) old new;
        applied = omega (arith, counted, applied);
        shown = kept.shown ∙ sym same;
      }

-- a server sends only batches that fit messages

short-if : {Tree : Type 0} (ends : Ends Tree) (first : Tree) (circuit : Option (CircuitState ends.machine.State)) → IsSoundIf ends first circuit → AreShort (rows_of circuit)
short-if ends first None sound = λ place row found. absurd (cc)
short-if ends first (Some circuit) sound = sound.short

short-reply : {Stage : Type 0} (rows : List (BatchRow Stage)) → AreShort rows → (reply : Down) → IsOf rows reply → IsShortReply reply
short-reply rows short (dn.Batch number bytes) is = subst (λ (b : List ℕ). length b ≤ 33554368) is.2 (row-short rows number is.0 short is.1)
short-reply rows short _ is = tt

pub served-short : {Tree : Type 0} (ends : Ends Tree) (first : Tree) (before after : Option (CircuitState ends.machine.State)) (replies : List Down) → Served ends first before replies after
    → Every IsShortReply replies
served-short ends first before after replies served =
    every-weaker (IsOf (rows_of after)) IsShortReply (short-reply (rows_of after) (short-if ends first after served.sound)) replies served.sent
