-- The states of a plain stage, and what its calls do.
use Rattle.std.specs.Prelude.{◌≡◌, ℕ, ◌+◌, ◌==◌, ◌||◌, Bool, true, false, not, nat_lt, max, List, [], length, Option, Some, None, is_some, is_none, if◌then◌else◌}
use Rattle.std.specs.Str.{bytes_eq}
use Rattle.page_core.specs.declared.counts.Counts.{Counts}
use Rattle.page_core.specs.declared.node.Node.{Node}
use Rattle.page_core.specs.declared.node.Page.{Page}
use Rattle.hub_messages.specs.Stage.{Machine}
use Rattle.hub_messages.specs.declared.outcome.Outcome.{Outcome as Outcomes}
use Rattle.hub_messages.specs.declared.outcome.Outcome.TheVariants as outcome
use Rattle.hub_messages.specs.declared.outcome.CircuitFault.{CircuitFault}
use Rattle.hub_messages.specs.declared.stage.Acted.{Acted}
use Rattle.hub_messages.specs.declared.stage.Acted.TheVariants as acted
use Rattle.hub_messages.specs.declared.stage.Made.{Made}
use Rattle.hub_messages.specs.declared.stage.Made.TheVariants.{Batch, Fault}
use Rattle.first_click.specs.declared.component.Component.{Component}
use Rattle.first_click.specs.declared.component.Field.{Field}
use Rattle.first_click.specs.Rendering.{fresh_nodes}
use Rattle.plain_page.specs.declared.page_tree.PageTree.{PageTree}
use Rattle.plain_page.specs.Click.{onclick}
use Rattle.plain_page.specs.Running.{code_at, meaning_at, Ran}
use Rattle.plain_page.specs.Turning.{counts_of_nodes, Turned}

-- a state of a plain stage
pub record PlainState : Type 0 where
  -- the component, its fields with their present values
  pub component : Component
  -- the fields at the last batch, if there was one
  pub rendered : Option (List Field)
  -- the counts of the last batch
  pub counts : Counts
  -- the number of the last batch
  pub made : ℕ
  -- the greatest number released
  pub released : ℕ
  -- a handler acted since the last batch
  pub dirty : Bool

-- nothing was rendered, acted or released yet
abbrev pub first_state : Component → PlainState
first_state component = record { component = component; rendered = None; counts = counts_of_nodes []; made = 0; released = 0; dirty = false }

-- the fresh rendering over the fields at the last batch, all of it born with the first; before the first no nodes
abbrev pub nodes_over : PlainState → Option (List Field) → List Node
nodes_over state None = []
nodes_over state (Some fields) = fresh_nodes 1 fields state.component.items

-- nodes as the tree of a screen
abbrev pub tree_of : List Node → PageTree
tree_of nodes = let page : Page = record { nodes = nodes } in record { page = page }

-- the tree of a state
abbrev pub plain_tree : PlainState → PageTree
plain_tree state = tree_of (nodes_over state state.rendered)

-- why an event reaches no code: no handler of a rendered page has the id, the handler is of clicks, or a click carries a text
abbrev pub refusal : PlainState → ℕ → List ℕ → Option (List ℕ) → Option Outcomes
refusal state handler name text =
    if is_none state.rendered || handler == 0 || nat_lt (length state.component.handlers) handler then Some outcome.HandlerUnknown
    else if not (bytes_eq name onclick) then Some outcome.WrongEvent
    else if is_some text then Some outcome.BadArguments
    else None

-- the state with other values in its fields, which is to be rendered
abbrev pub with_fields : PlainState → List Field → PlainState
with_fields state fields = record state { component = record state.component { fields = fields }; dirty = true }

-- what is told of code that came to its end, or met a fault
abbrev pub told : Option CircuitFault → Acted
told None = acted.Outcome outcome.Acted
told (Some fault) = acted.Fault fault

-- the handler's code ran
pub record Runs (before : PlainState) (handler : ℕ) (answer : Acted) (after : PlainState) : Type 0 where
  pub fault : Option CircuitFault
  pub fields : List Field
  pub ran : Ran fault before.component.fields fields (meaning_at before.component.fields (code_at before.component.methods before.component.handlers handler))
  pub answered : answer ≡ told fault
  pub changed : after ≡ with_fields before fields

-- an event is refused, and nothing changes, or its handler's code runs
abbrev pub ActsUnless : Option Outcomes → PlainState → ℕ → Acted → PlainState → Type 0
ActsUnless (Some refused) before handler answer after = (answer ≡ acted.Outcome refused) × (after ≡ before)
ActsUnless None before handler answer after = Runs before handler answer after

-- an event acts, or is refused
abbrev pub Acts : PlainState → ℕ → List ℕ → Option (List ℕ) → Acted → PlainState → Type 0
Acts before handler name text answer after = ActsUnless (refusal before handler name text) before handler answer after

-- the state behind a batch of these counts
abbrev pub behind_batch : PlainState → Counts → PlainState
behind_batch state counts =
    record state { rendered = Some state.component.fields; counts = counts; made = state.made + 1; dirty = false }

-- a batch takes the tree to that of the present fields; there are no faults
abbrev pub Renders : PlainState → Made → PlainState → Type 0
Renders before (Batch bytes) after =
    Turned (before.made + 1) bytes (plain_tree before) (plain_tree after) after.counts × (after ≡ behind_batch before after.counts)
Renders before (Fault fault) after = ⊥

-- the machine of plain stages
abbrev pub plain_machine : Machine PageTree
plain_machine = record {
  State = PlainState;
  First = λ state. state ≡ first_state state.component;
  tree = plain_tree;
  counts = λ state. state.counts;
  made = λ state. state.made;
  released = λ state. state.released;
  is_dirty = λ state. state.dirty;
  Acts = Acts;
  Renders = Renders;
  Releases = λ before acked after. after ≡ record before { released = max before.released acked };
}
