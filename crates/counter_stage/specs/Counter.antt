-- The states of a counter, and what its calls do.
use Rattle.std.specs.Prelude.{◌≡◌, ℕ, ◌+◌, ◌==◌, ◌||◌, true, false, not, List, [], ◌∷◌, Option, is_some, codes, max, if◌then◌else◌}
use Rattle.std.specs.Str.{bytes_eq}
use Rattle.hub_messages.specs.Stage.{Machine}
use Rattle.hub_messages.specs.declared.outcome.Outcome.TheVariants as oc
use Rattle.hub_messages.specs.declared.outcome.CircuitFault.TheVariants as cf
use Rattle.hub_messages.specs.declared.stage.Acted.{Acted}
use Rattle.hub_messages.specs.declared.stage.Acted.TheVariants as ac
use Rattle.hub_messages.specs.declared.stage.Made.{Made}
use Rattle.hub_messages.specs.declared.stage.Made.TheVariants as md
use Rattle.counter_stage.specs.declared.stage.CounterState.{CounterState}
use Rattle.counter_stage.specs.declared.tree.CounterTree.{CounterTree}
use Rattle.counter_stage.specs.declared.tree.CounterTree.TheVariants.{Blank, Shows}
use Rattle.counter_stage.specs.Tree.{counts_of}

-- nothing was rendered or released, and this is the number
abbrev pub fresh_state : ℕ → CounterState
fresh_state number = record { number = number; tree = Blank; made = 0; released = 0; changed = false }

-- what an event comes to, where the handler 1 is known from the first batch on
abbrev pub acted_by : CounterState → ℕ → List ℕ → Option (List ℕ) → Acted
acted_by state handler name text =
    if state.made == 0 || not (handler == 1) then ac.Outcome oc.HandlerUnknown
    else (if not (bytes_eq name (codes "onclick")) then ac.Outcome oc.WrongEvent
    else (if is_some text then ac.Outcome oc.BadArguments
    else (if state.number == 255 then ac.Fault cf.Overflow
    else ac.Outcome oc.Acted)))

-- one more where the handler acted
abbrev pub counted : Acted → CounterState → CounterState
counted (ac.Outcome oc.Acted) state = record state { number = state.number + 1; changed = true }
counted (ac.Outcome outcome) state = state
counted (ac.Fault fault) state = state

-- the number is shown
abbrev pub Rendered : CounterState → Made → CounterState → Type 0
Rendered before (md.Batch bytes) after =
    (bytes ≡ before.number ∷ []) × (after ≡ record before { tree = Shows before.number; made = before.made + 1; changed = false })
Rendered before (md.Fault fault) after = ⊥

-- a counter as a machine
abbrev pub counter : Machine CounterTree
counter = record {
  State = CounterState;
  First = λ state. state ≡ fresh_state state.number;
  tree = λ state. state.tree;
  counts = λ state. counts_of state.made;
  made = λ state. state.made;
  released = λ state. state.released;
  is_dirty = λ state. state.changed;
  Acts = λ before handler name text acted after. (acted ≡ acted_by before handler name text) × (after ≡ counted acted before);
  Renders = Rendered;
  Releases = λ before acked after. after ≡ record before { released = max before.released acked };
}
