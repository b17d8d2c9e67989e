-- Steps of the code, one behind another.
use Rattle.std.proofs.Common.{◌≡◌, ℕ, List, [], ◌∷◌, ◌++◌, refl, ap, sym, ◌∙◌, subst, append_assoc, append-nil}
use Rattle.page_core.specs.declared.counts.Counts.{Counts}
use Rattle.page_core.specs.declared.node.Node.{Node}
use Rattle.hub_messages.specs.Stage.{Machine}
use Rattle.schedule_replay.specs.declared.direct_line.state.Line.{Line}
use Rattle.schedule_replay.specs.Line.Standing.{IsRunning, Leads, LeadsLines, StandsLine}
use Rattle.schedule_replay.specs.Line.State.{LineState}
use Rattle.schedule_replay.specs.Line.Steps.{Ends, ends_of}

module _ {Stage Screen Tree : Type 0} (machine : Machine Tree) (stands : Stage → machine.State → Type 0) (first : Tree) (turns : ℕ → List ℕ → Tree → Tree → Counts → Type 0) (page : Tree → List Node) (tree : Screen → Tree) where
  abbrev Code : Type 0
  Code = Line Stage Screen Tree

  abbrev State : Type 0
  State = LineState machine.State Tree

  abbrev E : machine.State → ℕ → Ends Tree
  E stage window = ends_of machine stage window turns page

  abbrev OneStep : Type 1
  OneStep = (ends : Ends Tree) → LineState ends.machine.State Tree → LineState ends.machine.State Tree → Type 0

  abbrev SomeSteps : Type 1
  SomeSteps = (ends : Ends Tree) → LineState ends.machine.State Tree → List (List ℕ) → LineState ends.machine.State Tree → Type 0

  lead-one : (before after : Code) (Step : OneStep) → Leads machine stands first turns page tree before after Step → (stage : machine.State) → machine.First stage → (window : ℕ) → before.window ≡ window
      → (state : State) → StandsLine (E stage window) first stands tree before state
      → (next : State) × StandsLine (E stage window) first stands tree after next × (after.window ≡ window) × Step (E stage window) state next
  lead-one before after Step leads stage begins window same =
      let From : ℕ → Type 0 = λ w. (state : State) → StandsLine (E stage w) first stands tree before state
      → (next : State) × StandsLine (E stage w) first stands tree after next × (after.window ≡ w) × Step (E stage w) state next in
      subst From same (leads stage begins)

  -- one more step
  pub lead-more : (before middle after : Code) (old new : List (List ℕ)) (text : List ℕ) (A C : SomeSteps) (B : OneStep)
      → LeadsLines machine stands first turns page tree before middle old new A → Leads machine stands first turns page tree middle after B
      → ((ends : Ends Tree) (state mid next : LineState ends.machine.State Tree) (more : List (List ℕ)) → A ends state more mid → B ends mid next → C ends state (more ++ text ∷ []) next)
      → LeadsLines machine stands first turns page tree before after old (new ++ text ∷ []) C
  lead-more before middle after old new text A C B leads step join stage begins state stood =
      let made = leads stage begins state stood in
      let one = lead-one middle after B step stage begins before.window made.3 made.0 made.2 in (
        one.0,
        made.1 ++ text ∷ [],
        one.1,
        one.2,
        ap (λ (ls : List (List ℕ)). ls ++ text ∷ []) made.4 ∙ append_assoc old made.1 (text ∷ []),
        join (E stage before.window) state made.0 one.0 made.1 made.5 one.3,
      )

  lead-lines : (before after : Code) (old new : List (List ℕ)) (B : SomeSteps) → LeadsLines machine stands first turns page tree before after old new B → (stage : machine.State) → machine.First stage → (window : ℕ) → before.window ≡ window
      → (state : State) → StandsLine (E stage window) first stands tree before state
      → (next : State) × (more : List (List ℕ)) × StandsLine (E stage window) first stands tree after next × (after.window ≡ window) × (new ≡ old ++ more) × B (E stage window) state more next
  lead-lines before after old new B leads stage begins window same =
      let From : ℕ → Type 0 = λ w. (state : State) → StandsLine (E stage w) first stands tree before state
      → (next : State) × (more : List (List ℕ)) × StandsLine (E stage w) first stands tree after next × (after.window ≡ w) × (new ≡ old ++ more) × B (E stage w) state more next in
      subst From same (leads stage begins)

  -- steps behind steps
  pub lead-all : (before middle after : Code) (old new newest : List (List ℕ)) (A B C : SomeSteps)
      → LeadsLines machine stands first turns page tree before middle old new A → LeadsLines machine stands first turns page tree middle after new newest B
      → ((ends : Ends Tree) (state mid next : LineState ends.machine.State Tree) (more others : List (List ℕ)) → A ends state more mid → B ends mid others next → C ends state (more ++ others) next)
      → LeadsLines machine stands first turns page tree before after old newest C
  lead-all before middle after old new newest A B C leads steps join stage begins state stood =
      let made = leads stage begins state stood in
      let rest = lead-lines middle after new newest B steps stage begins before.window made.3 made.0 made.2 in (
        rest.0,
        made.1 ++ rest.1,
        rest.2,
        rest.3,
        rest.4 ∙ ap (λ (ls : List (List ℕ)). ls ++ rest.1) made.4 ∙ append_assoc old made.1 rest.1,
        join (E stage before.window) state made.0 rest.0 made.1 rest.1 made.5 rest.5,
      )

  -- no step yet
  pub lead-none : (line : Code) (lines : List (List ℕ)) (A : SomeSteps) → ((ends : Ends Tree) (state : LineState ends.machine.State Tree) → A ends state [] state)
      → LeadsLines machine stands first turns page tree line line lines lines A
  lead-none line lines A none stage begins state stood = (state, [], stood, refl, sym (append-nil lines), none (E stage line.window) state)

  -- the same lines, by another step
  pub lead-weaker : (before after : Code) (old new : List (List ℕ)) (A B : SomeSteps) → LeadsLines machine stands first turns page tree before after old new A
      → ((stage : machine.State) (state next : State) (more : List (List ℕ)) → StandsLine (E stage before.window) first stands tree after next → A (E stage before.window) state more next → B (E stage before.window) state more next)
      → LeadsLines machine stands first turns page tree before after old new B
  lead-weaker before after old new A B leads weaker stage begins state stood =
      let made = leads stage begins state stood in
      (made.0, made.1, made.2, made.3, made.4, weaker stage state made.0 made.1 made.2 made.5)

  pub running-after : (before after : Code) (old new : List (List ℕ)) (A : SomeSteps) → IsRunning machine stands first turns page tree before → LeadsLines machine stands first turns page tree before after old new A
      → IsRunning machine stands first turns page tree after
  running-after before after old new A run leads =
      let made = leads run.0 run.1 run.2 run.3 in
      (run.0, run.1, made.0, subst (λ (w : ℕ). StandsLine (E run.0 w) first stands tree after made.0) (sym made.3) made.2)
