-- What the server's code does with a message.
use Rattle.std.proofs.Common.{◌≡◌, ◌≢◌, ℕ, List, [], ◌∷◌, Some, None, Result, Ok, Err, refl, subst, sym}
use Rattle.std.specs.Prelude.{IfOk}
use Rattle.std.specs.declared.option.Option.{Option}
use Rattle.hub_messages.specs.Stage.{Machine}
use Rattle.hub_messages.specs.declared.down.Down.{Down}
use Rattle.hub_messages.specs.declared.up.Up.{Up}
use Rattle.hub_messages.specs.declared.up.Up.TheVariants as up
use Rattle.circuit_meaning.specs.Circuit.State.{CircuitState}
use Rattle.circuit_meaning.specs.Circuit.Steps.{Step}
use Rattle.circuit_core.specs.Kept.{Kept}
use Rattle.circuit_core.specs.Standing.{Leads}
use Rattle.schedule_replay.specs.declared.direct_line.server.Server.{Server}
use Rattle.schedule_replay.specs.declared.direct_line.server.Server.TheVariants.{Waiting, Serving}
use Rattle.schedule_replay.specs.Line.Server.{Serves, WithCircuit, WithoutCircuit}
use Rattle.schedule_replay.specs.Line.Standing.{Becomes, StandsServer}
use Rattle.schedule_replay.specs.Line.State.{connection}

-- what follows of an answer
pub if-ok : {A E : Type 0} (given : Result A E) (P Q : A → Type 0) → ((x : A) → P x → Q x) → IfOk given P → IfOk given Q
if-ok (Ok x) P Q more holds = more x holds
if-ok (Err e) P Q more holds = tt

with-step : {Tree : Type 0} (machine : Machine Tree) (before next : CircuitState machine.State) (message : Up) (replies : List Down) → message ≢ up.Start
    → Step machine before connection message replies next → WithCircuit machine before message replies (Some next)
with-step machine before next up.Start replies other step = absurd (other refl)
with-step machine before next (up.Connect number secret applied got) replies other step = (next, step, refl)
with-step machine before next (up.Event number handler got name text) replies other step = (next, step, refl)
with-step machine before next (up.Ack batch got) replies other step = (next, step, refl)

-- a circuit that is there makes its step
pub serving-receives : {Stage Tree : Type 0} (machine : Machine Tree) (stands : Stage → machine.State → Type 0) (first : machine.State) (window : ℕ) (server : Server Stage Tree) (circuit next : Kept Stage) (message : Up) (replies : List Down)
    → message ≢ up.Start → Leads machine stands circuit next (λ state other. Step machine state connection message replies other)
    → (before : Option (CircuitState machine.State)) → server ≡ Serving circuit → StandsServer machine stands first server before
    → Becomes machine stands first (Serving next) (Serves machine first window before message replies)
serving-receives machine stands first window server circuit next message replies other leads None is stood =
    let none : StandsServer machine stands first (Serving circuit) None = subst (λ s. StandsServer machine stands first s None) is stood in absurd none
serving-receives machine stands first window server circuit next message replies other leads (Some state) is stood =
    let there : StandsServer machine stands first (Serving circuit) (Some state) = subst (λ s. StandsServer machine stands first s (Some state)) is stood in
    let led = leads state there in
    (Some led.0, led.1, with-step machine state led.0 message replies other led.2)

-- a stage that waits becomes a circuit at a Start
pub waiting-starts : {Stage Tree : Type 0} (machine : Machine Tree) (stands : Stage → machine.State → Type 0) (first : machine.State) (window : ℕ) (server after : Server Stage Tree) (stage : Stage) (message : Up) (replies : List Down)
    → message ≡ up.Start → (stands stage first → Becomes machine stands first after (WithoutCircuit machine first window up.Start replies))
    → (before : Option (CircuitState machine.State)) → server ≡ Waiting stage → StandsServer machine stands first server before
    → Becomes machine stands first after (Serves machine first window before message replies)
waiting-starts machine stands first window server after stage message replies start begins None is stood =
    let there : stands stage first = subst (λ s. StandsServer machine stands first s None) is stood in
    subst (λ (m : Up). Becomes machine stands first after (Serves machine first window None m replies)) (sym start) (begins there)
waiting-starts machine stands first window server after stage message replies start begins (Some state) is stood =
    let none : StandsServer machine stands first (Waiting stage) (Some state) = subst (λ s. StandsServer machine stands first s (Some state)) is stood in absurd none
