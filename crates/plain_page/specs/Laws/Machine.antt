-- The laws of the machine of plain stages.
use Rattle.std.specs.Prelude.{◌≡◌, ◌≢◌, ℕ, [], Option, Some, None, refl}
use Rattle.std.proofs.Common.{sym, ◌∙◌, ap}
use Rattle.hub_messages.specs.Stage.{IsLawful, FirstLaws, ActLaws, RenderLaws, ReleaseLaws, made_after}
use Rattle.hub_messages.specs.declared.outcome.Outcome.{Outcome as Outcomes}
use Rattle.hub_messages.specs.declared.outcome.Outcome.TheVariants as outcome
use Rattle.hub_messages.specs.declared.outcome.CircuitFault.{CircuitFault}
use Rattle.hub_messages.specs.declared.outcome.CircuitFault.TheVariants as circuit
use Rattle.hub_messages.specs.declared.stage.Acted.{Acted}
use Rattle.hub_messages.specs.declared.stage.Acted.TheVariants as acted
use Rattle.hub_messages.specs.declared.stage.Made.{Made}
use Rattle.hub_messages.specs.declared.stage.Made.TheVariants.{Batch, Fault}
use Rattle.cs_meaning.specs.declared.fault.Fault.{Fault as CodeFault}
use Rattle.cs_meaning.specs.declared.fault.Fault.TheVariants as code
use Rattle.plain_page.specs.Running.{circuit_fault, Ran}
use Rattle.plain_page.specs.Turning.{Turned}
use Rattle.plain_page.specs.Machine.{PlainState, plain_tree, tree_of, refusal, told, with_fields, ActsUnless, Renders, plain_machine}

first_laws : FirstLaws (tree_of []) plain_machine
first_laws = record {
  tree = λ state h. ap plain_tree h;
  made = λ state h. ap (λ (s : PlainState). s.made) h;
  released = λ state h. ap (λ (s : PlainState). s.released) h;
}

not_acted : (fault : Option CircuitFault) (other : Outcomes) → acted.Outcome other ≡ told fault → other ≢ outcome.Acted → ⊥
not_acted None other e ne = let same : other ≡ outcome.Acted = cc in ne same
not_acted (Some fault) other e ne = absurd (cc)

other_same : (refused : Option Outcomes) (before after : PlainState) (handler : ℕ) (other : Outcomes) →
    ActsUnless refused before handler (acted.Outcome other) after → other ≢ outcome.Acted → after ≡ before
other_same (Some refused) before after handler other h ne = h.1
other_same None before after handler other h ne = absurd (not_acted h.fault other h.answered ne)

-- of a state whose fields may change
keeps : {X : Type 0} (view : PlainState → X) (refused : Option Outcomes) (before after : PlainState) (handler : ℕ) (answer : Acted) →
    ((fields : _) → view (with_fields before fields) ≡ view before) → ActsUnless refused before handler answer after → view after ≡ view before
keeps view (Some refused) before after handler answer same h = ap view h.1
keeps view None before after handler answer same h = ap view h.changed ∙ same h.fields

fault_named : (met : CodeFault) (fault : CircuitFault) → circuit_fault met ≡ Some fault → fault ≢ circuit.Memory
fault_named code.DivideByZero fault e memory = cc
fault_named code.Overflow fault e memory = cc
fault_named code.NullUse fault e memory = cc
fault_named code.IndexOutOfRange fault e memory = cc
fault_named code.FuelSpent fault e memory = cc
fault_named code.CallDepth fault e memory = cc
fault_named code.ValueTooLarge fault e memory = cc
fault_named code.Oom fault e memory = cc

ran_named : (fault : Option CircuitFault) (shown : CircuitFault) (before after : _) (meaning : _) → Ran fault before after meaning →
    acted.Fault shown ≡ told fault → shown ≢ circuit.Memory
ran_named None shown before after meaning ran e memory = cc
ran_named (Some fault) shown before after meaning ran e memory =
    let same : shown ≡ fault = cc in
    fault_named ran.0 fault ran.3 (sym same ∙ memory)

named : (refused : Option Outcomes) (before after : PlainState) (handler : ℕ) (fault : CircuitFault) →
    ActsUnless refused before handler (acted.Fault fault) after → fault ≢ circuit.Memory
named (Some refused) before after handler fault h memory = let wrong : acted.Fault fault ≡ acted.Outcome refused = h.0 in cc
named None before after handler fault h memory = ran_named h.fault fault before.component.fields h.fields _ h.ran h.answered memory

act_laws : ActLaws plain_machine
act_laws = record {
  other = λ before after handler name text other h ne. other_same (refusal before handler name text) before after handler other h ne;
  tree = λ before after handler name text answer h. keeps plain_tree (refusal before handler name text) before after handler answer (λ fields. refl) h;
  counts = λ before after handler name text answer h. keeps (λ s. s.counts) (refusal before handler name text) before after handler answer (λ fields. refl) h;
  made = λ before after handler name text answer h. keeps (λ s. s.made) (refusal before handler name text) before after handler answer (λ fields. refl) h;
  released = λ before after handler name text answer h. keeps (λ s. s.released) (refusal before handler name text) before after handler answer (λ fields. refl) h;
  memory = λ before after handler name text fault h. named (refusal before handler name text) before after handler fault h;
}

made_more : (before after : PlainState) (answer : Made) → Renders before answer after → after.made ≡ made_after before.made answer
made_more before after (Batch bytes) h = ap (λ (s : PlainState). s.made) h.1
made_more before after (Fault fault) h = absurd h

same_released : (before after : PlainState) (answer : Made) → Renders before answer after → after.released ≡ before.released
same_released before after (Batch bytes) h = ap (λ (s : PlainState). s.released) h.1
same_released before after (Fault fault) h = absurd h

render_laws : RenderLaws Turned plain_machine
render_laws = record {
  turned = λ before after bytes h. h.0;
  short = λ before after bytes h. h.0.spelled.few;
  clean = λ before after bytes h. ap (λ (s : PlainState). s.dirty) h.1;
  made = λ before after answer h. made_more before after answer h;
  released = λ before after answer h. same_released before after answer h;
  memory = λ before after fault h. absurd h;
}

release_laws : ReleaseLaws plain_machine
release_laws = record {
  tree = λ before after acked h. ap plain_tree h;
  counts = λ before after acked h. ap (λ (s : PlainState). s.counts) h;
  made = λ before after acked h. ap (λ (s : PlainState). s.made) h;
  dirty = λ before after acked h. ap (λ (s : PlainState). s.dirty) h;
  released = λ before after acked h. ap (λ (s : PlainState). s.released) h;
}

pub plain_lawful : IsLawful (tree_of []) Turned plain_machine
plain_lawful = record { first = first_laws; act = act_laws; render = render_laws; release = release_laws }
