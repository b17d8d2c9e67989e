-- What a stage is: its states, and a relation for each call.
use Rattle.std.specs.Prelude.{◌≡◌, ◌≢◌, ◌≤◌, ◌+◌, ℕ, Bool, false, List, length, Option, max}
use Rattle.page_core.specs.declared.counts.Counts.{Counts}
use Rattle.hub_messages.specs.declared.outcome.Outcome.{Outcome as Outcomes}
use Rattle.hub_messages.specs.declared.outcome.Outcome.TheVariants as oc
use Rattle.hub_messages.specs.declared.outcome.CircuitFault.{CircuitFault}
use Rattle.hub_messages.specs.declared.outcome.CircuitFault.TheVariants as cf
use Rattle.hub_messages.specs.declared.stage.Acted.{Acted}
use Rattle.hub_messages.specs.declared.stage.Acted.TheVariants as ac
use Rattle.hub_messages.specs.declared.stage.Made.{Made}
use Rattle.hub_messages.specs.declared.stage.Made.TheVariants.{Batch, Fault}

-- the states of a stage over the trees of a screen
pub record Machine (Tree : Type 0) : Type 1 where
  pub State : Type 0
  -- nothing was rendered, acted or released yet
  pub First : State → Type 0
  -- the tree of a screen that has applied every batch made
  pub tree : State → Tree
  -- the counts of the last batch made
  pub counts : State → Counts
  -- the number of the last batch made
  pub made : State → ℕ
  -- the greatest number released
  pub released : State → ℕ
  -- a component changed since the last batch
  pub is_dirty : State → Bool
  -- an event on a handler, by its name and the text that it carries
  pub Acts : State → ℕ → List ℕ → Option (List ℕ) → Acted → State → Type 0
  pub Renders : State → Made → State → Type 0
  pub Releases : State → ℕ → State → Type 0

-- a stage stands for some state to which this relation leads
abbrev pub Answers : {Stage State : Type 0} → (Stage → State → Type 0) → Stage → (State → Type 0) → Type 0
Answers {State = State} stands stage leads_to = (after : State) × stands stage after × leads_to after

-- a stage stands for a first state
abbrev pub IsFirst : {Stage Tree : Type 0} (machine : Machine Tree) → (Stage → machine.State → Type 0) → Stage → Type 0
IsFirst machine stands stage = (state : machine.State) × machine.First state × stands stage state

-- the number of the last batch after a rendering
abbrev pub made_after : ℕ → Made → ℕ
made_after made (Batch bytes) = made + 1
made_after made (Fault fault) = made

-- a batch fits a message
abbrev pub IsShort : Made → Type 0
IsShort (Batch bytes) = length bytes ≤ 33554368
IsShort (Fault fault) = Unit {0}

-- in a first state the tree is that of a screen that has applied no batch
pub record FirstLaws {Tree : Type 0} (first : Tree) (machine : Machine Tree) : Type 0 where
  pub tree : (state : machine.State) → machine.First state → machine.tree state ≡ first
  pub made : (state : machine.State) → machine.First state → machine.made state ≡ 0
  pub released : (state : machine.State) → machine.First state → machine.released state ≡ 0

-- acting makes no batch and releases nothing; what is not acted changes nothing; no stage runs out of memory by a fault
pub record ActLaws {Tree : Type 0} (machine : Machine Tree) : Type 0 where
  pub other : (before after : machine.State) (handler : ℕ) (name : List ℕ) (text : Option (List ℕ)) (outcome : Outcomes) →
      machine.Acts before handler name text (ac.Outcome outcome) after → outcome ≢ oc.Acted → after ≡ before
  pub tree : (before after : machine.State) (handler : ℕ) (name : List ℕ) (text : Option (List ℕ)) (acted : Acted) →
      machine.Acts before handler name text acted after → machine.tree after ≡ machine.tree before
  pub counts : (before after : machine.State) (handler : ℕ) (name : List ℕ) (text : Option (List ℕ)) (acted : Acted) →
      machine.Acts before handler name text acted after → machine.counts after ≡ machine.counts before
  pub made : (before after : machine.State) (handler : ℕ) (name : List ℕ) (text : Option (List ℕ)) (acted : Acted) →
      machine.Acts before handler name text acted after → machine.made after ≡ machine.made before
  pub released : (before after : machine.State) (handler : ℕ) (name : List ℕ) (text : Option (List ℕ)) (acted : Acted) →
      machine.Acts before handler name text acted after → machine.released after ≡ machine.released before
  pub memory : (before after : machine.State) (handler : ℕ) (name : List ℕ) (text : Option (List ℕ)) (fault : CircuitFault) →
      machine.Acts before handler name text (ac.Fault fault) after → fault ≢ cf.Memory

-- a batch turns the tree before it into the tree after it, with its counts, and nothing is dirty then; a fault makes none
pub record RenderLaws {Tree : Type 0} (turns : ℕ → List ℕ → Tree → Tree → Counts → Type 0) (machine : Machine Tree) : Type 0 where
  pub turned : (before after : machine.State) (bytes : List ℕ) → machine.Renders before (Batch bytes) after →
      turns (machine.made before + 1) bytes (machine.tree before) (machine.tree after) (machine.counts after)
  pub short : (before after : machine.State) (bytes : List ℕ) → machine.Renders before (Batch bytes) after → length bytes ≤ 33554368
  pub clean : (before after : machine.State) (bytes : List ℕ) → machine.Renders before (Batch bytes) after → machine.is_dirty after ≡ false
  pub made : (before after : machine.State) (answer : Made) → machine.Renders before answer after →
      machine.made after ≡ made_after (machine.made before) answer
  pub released : (before after : machine.State) (answer : Made) → machine.Renders before answer after →
      machine.released after ≡ machine.released before
  pub memory : (before after : machine.State) (fault : CircuitFault) → machine.Renders before (Fault fault) after → fault ≢ cf.Memory

-- releasing changes what is released alone
pub record ReleaseLaws {Tree : Type 0} (machine : Machine Tree) : Type 0 where
  pub tree : (before after : machine.State) (acked : ℕ) → machine.Releases before acked after → machine.tree after ≡ machine.tree before
  pub counts : (before after : machine.State) (acked : ℕ) → machine.Releases before acked after → machine.counts after ≡ machine.counts before
  pub made : (before after : machine.State) (acked : ℕ) → machine.Releases before acked after → machine.made after ≡ machine.made before
  pub dirty : (before after : machine.State) (acked : ℕ) → machine.Releases before acked after → machine.is_dirty after ≡ machine.is_dirty before
  pub released : (before after : machine.State) (acked : ℕ) → machine.Releases before acked after →
      machine.released after ≡ max (machine.released before) acked

-- the laws of a stage, for the first tree and what batches make of trees
pub record IsLawful {Tree : Type 0} (first_tree : Tree) (turns : ℕ → List ℕ → Tree → Tree → Counts → Type 0) (machine : Machine Tree) : Type 0 where
  pub first : FirstLaws first_tree machine
  pub act : ActLaws machine
  pub render : RenderLaws turns machine
  pub release : ReleaseLaws machine
