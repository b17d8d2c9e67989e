-- Turns of the loops that play a schedule.
use Rattle.std.proofs.Common.{◌≡◌, ◌≤◌, ◌<◌, ℕ, suc, zero, ◌+◌, true, false, List, [], ◌∷◌, ◌++◌, length, slice_get, take, map, Some, None, refl, ap, sym, ◌∙◌, subst, arith, inl, inr}
use Rattle.std.proofs.Math.Seq.{take-length}
use Rattle.std.proofs.lemmas.Bool.{lt-ltb, le-ltb}
use Rattle.std.specs.Prelude.{codes, nat_lt}
use Rattle.std.specs.declared.option.Option.{Option}
use Rattle.page_core.specs.declared.counts.Counts.{Counts}
use Rattle.page_core.specs.declared.node.Node.{Node}
use Rattle.hub_messages.specs.Stage.{Machine}
use Rattle.schedule_replay.specs.declared.direct_line.state.Line.{Line}
use Rattle.schedule_replay.specs.declared.schedule.Step.{Step}
use Rattle.schedule_replay.specs.Line.Standing.{IsRunning, Leads, LeadsLines, SpellsMessage, StandsLine}
use Rattle.schedule_replay.specs.Line.State.{LineState, Message, first_line}
use Rattle.schedule_replay.specs.Line.Steps.{Delivers, Ends, Flows, ends_of}
use Rattle.schedule_replay.specs.Line.Transcript.{Runs, StepLines, Transcript}
use Rattle.schedule_replay.specs.Texts.{numbered}
use Rattle.schedule_replay.specs.Schedule.{weight, weights}
use Rattle.schedule_replay.proofs.Line.FlowLemmas.{Many, many-flows, many-more, many-steps, runs-more, runs-steps, weights-more}
use Rattle.schedule_replay.proofs.Line.LeadLemmas.{lead-all, lead-more, lead-none, lead-weaker}
use Rattle.schedule_replay.proofs.Line.ReplyLemmas.{take-push}
use Rattle.schedule_replay.proofs.Line.RowLemmas.{get-within}
use Rattle.schedule_replay.proofs.Line.ZipLemmas.{zip-length}

fresh-if : {Tree : Type 0} (ends : Ends Tree) (found : Option Message) (state next : LineState ends.machine.State Tree) (line : List ℕ)
    → slice_get state.messages state.delivered ≡ found → Delivers ends found state line next → nat_lt state.delivered (length state.messages) ≡ true
fresh-if ends None state next line is does = absurd does
fresh-if ends (Some message) state next line is does = lt-ltb _ _ (get-within state.messages state.delivered message is)

-- the weights of the steps up to a place and of the one there are at most those of all
pub weights-at : (steps : List Step) (place : ℕ) (step : Step) → slice_get steps place ≡ Some step → weights (take place steps) + weight step ≤ weights steps
weights-at [] place step found = absurd (cc)
weights-at (first ∷ steps) zero step found =
    let same : first ≡ step = cc in
    let total = weights-more first steps in
    let first_weight : weight first ≡ weight step = ap weight same in
    let none : weights (take zero (first ∷ steps)) ≡ 0 = refl in
    omega (arith, total, first_weight, none)
weights-at (first ∷ steps) (suc place) step found =
    let total = weights-more first steps in
    let front : weights (take (suc place) (first ∷ steps)) ≡ weight first + weights (take place steps) = weights-more first (take place steps) in
    let rest = weights-at steps place step found in
    omega (arith, total, front, rest)

module _ {Stage Screen Tree : Type 0} (machine : Machine Tree) (stands : Stage → machine.State → Type 0) (first : Tree) (turns : ℕ → List ℕ → Tree → Tree → Counts → Type 0) (page : Tree → List Node) (tree : Screen → Tree) where
  abbrev pub Code : Type 0
  Code = Line Stage Screen Tree

  abbrev pub Lines : Code → Code → List (List ℕ) → List (List ℕ) → ((ends : Ends Tree) → LineState ends.machine.State Tree → List (List ℕ) → LineState ends.machine.State Tree → Type 0) → Type 0
  Lines before after old new A = LeadsLines machine stands first turns page tree before after old new A

  abbrev pub Delivered : ℕ → (ends : Ends Tree) → LineState ends.machine.State Tree → List (List ℕ) → LineState ends.machine.State Tree → Type 0
  Delivered count ends state more after = Many ends count state more after

  abbrev pub Played : List Step → (ends : Ends Tree) → LineState ends.machine.State Tree → List (List ℕ) → LineState ends.machine.State Tree → Type 0
  Played steps ends state more after = Runs ends steps state more after

  -- the window stays
  pub same-window : (before after : Code) (old new : List (List ℕ)) (A : (ends : Ends Tree) → LineState ends.machine.State Tree → List (List ℕ) → LineState ends.machine.State Tree → Type 0)
      → IsRunning machine stands first turns page tree before → Lines before after old new A → after.window ≡ before.window
  same-window before after old new A run leads = (leads run.0 run.1 run.2 run.3).3

  pub flow-none : (line : Code) (lines : List (List ℕ)) → Lines line line lines lines (Delivered 0)
  flow-none line lines = lead-none machine stands first turns page tree line lines (Delivered 0) (λ ends state. (refl, refl))

  pub flow-turn : (before middle after : Code) (old new newest : List (List ℕ)) (text : List ℕ) (turn : ℕ) → newest ≡ new ++ text ∷ [] → Lines before middle old new (Delivered turn)
      → Leads machine stands first turns page tree middle after (λ ends state next. Delivers ends (slice_get state.messages state.delivered) state text next)
      → Lines before after old newest (Delivered (turn + 1))
  flow-turn before middle after old new newest text turn pushed leads step =
      let next : suc turn ≡ turn + 1 = omega arith in
      subst (λ (ls : List (List ℕ)). Lines before after old ls (Delivered (turn + 1))) (sym pushed)
      (subst (λ (n : ℕ). Lines before after old (new ++ text ∷ []) (Delivered n)) next
      (lead-more machine stands first turns page tree before middle after old new text (Delivered turn) (Delivered (suc turn)) (λ ends state next. Delivers ends (slice_get state.messages state.delivered) state text next) leads step
      (λ ends state mid later more done does.
      many-more ends turn state mid later more text done (fresh-if ends (slice_get mid.messages mid.delivered) mid later text refl does) does)))

  pub flow-all : (before after : Code) (old new : List (List ℕ)) (count turn : ℕ) → turn ≡ count → Lines before after old new (Delivered turn)
      → Lines before after old new (λ ends state more next. Flows ends count state more next)
  flow-all before after old new count turn same leads =
      lead-weaker machine stands first turns page tree before after old new (Delivered turn) (λ ends state more next. Flows ends count state more next) leads
      (λ stage state next more stood done. many-flows (ends_of machine stage before.window turns page) turn count state next more done (omega (arith, same)) (inl same))

  pub flow-dry : (before after : Code) (old new : List (List ℕ)) (count turn : ℕ) → turn ≤ count → length after.messages.items ≤ after.delivered → Lines before after old new (Delivered turn)
      → Lines before after old new (λ ends state more next. Flows ends count state more next)
  flow-dry before after old new count turn few dry leads =
      lead-weaker machine stands first turns page tree before after old new (Delivered turn) (λ ends state more next. Flows ends count state more next) leads
      (λ stage state next more stood done.
      let long : length after.messages.items ≡ length next.messages = zip-length SpellsMessage after.messages.items next.messages stood.messages in
      let place : after.delivered ≡ next.delivered = stood.delivered in
      let none : length next.messages ≤ next.delivered = omega (arith, long, place, dry) in
      many-flows (ends_of machine stage before.window turns page) turn count state next more done few (inr (le-ltb _ _ none)))

  pub flow-few : (before after : Code) (old new : List (List ℕ)) (count turn limit : ℕ) → IsRunning machine stands first turns page tree before → Lines before after old new (Delivered turn)
      → turn < count → before.steps + count < limit → after.steps < limit
  flow-few before after old new count turn limit run leads less few =
      let made = leads run.0 run.1 run.2 run.3 in
      let ends = ends_of machine run.0 before.window turns page in
      let now : after.steps ≡ made.0.steps = made.2.steps in
      let then : before.steps ≡ run.2.steps = run.3.steps in
      let steps : made.0.steps ≡ run.2.steps + turn = many-steps ends turn run.2 made.0 made.1 made.5 in
      omega (arith, now, then, steps, less, few)

  -- a step that gives one line
  pub one-line : (before after : Code) (old new : List (List ℕ)) (text : List ℕ) (B : (ends : Ends Tree) → LineState ends.machine.State Tree → List ℕ → LineState ends.machine.State Tree → Type 0)
      → new ≡ old ++ text ∷ [] → Leads machine stands first turns page tree before after (λ ends state next. B ends state text next)
      → Lines before after old new (λ ends state more next. (line : List ℕ) × B ends state line next × (more ≡ line ∷ []))
  one-line before after old new text B pushed leads stage begins state stood =
      let led = leads stage begins state stood in
      (led.0, text ∷ [], led.1, led.2, pushed, (text, led.3, refl))

  pub play-none : (line : Code) (lines : List (List ℕ)) → Lines line line lines lines (Played [])
  play-none line lines = lead-none machine stands first turns page tree line lines (Played []) (λ ends state. (refl, refl))

  pub play-turn : (before middle after : Code) (old new newest : List (List ℕ)) (steps : List Step) (place : ℕ) (step : Step) → slice_get steps place ≡ Some step
      → Lines before middle old new (Played (take place steps)) → Lines middle after new newest (λ ends state more next. StepLines ends step state more next)
      → Lines before after old newest (Played (take (place + 1) steps))
  play-turn before middle after old new newest steps place step there leads made =
      subst (λ (ss : List Step). Lines before after old newest (Played ss)) (sym (take-push steps place step there))
      (lead-all machine stands first turns page tree before middle after old new newest (Played (take place steps)) (λ ends state more next. StepLines ends step state more next)
      (Played (take place steps ++ step ∷ [])) leads made
      (λ ends state mid next more others done does. runs-more ends (take place steps) step state mid next more others done does))

  pub play-few : (before after : Code) (old new : List (List ℕ)) (steps : List Step) (place : ℕ) (step : Step) (limit : ℕ) → slice_get steps place ≡ Some step
      → IsRunning machine stands first turns page tree before → Lines before after old new (Played (take place steps))
      → before.steps + weights steps < limit → after.steps + weight step < limit
  play-few before after old new steps place step limit there run leads few =
      let made = leads run.0 run.1 run.2 run.3 in
      let ends = ends_of machine run.0 before.window turns page in
      let now : after.steps ≡ made.0.steps = made.2.steps in
      let then : before.steps ≡ run.2.steps = run.3.steps in
      let up_to : made.0.steps ≤ run.2.steps + weights (take place steps) = runs-steps ends (take place steps) run.2 made.0 made.1 made.5 in
      let total = weights-at steps place step there in
      omega (arith, now, then, up_to, total, few)

  pub play-done : (before after : Code) (old new : List (List ℕ)) (steps : List Step) (place : ℕ) → place ≡ length steps → Lines before after old new (Played (take place steps))
      → Lines before after old new (Played steps)
  play-done before after old new steps place end leads =
      subst (λ (ss : List Step). Lines before after old new (Played ss)) (ap (λ (n : ℕ). take n steps) end ∙ take-length steps) leads

  -- a line before its first step runs
  pub running-first : (line : Code) (window : ℕ) (stage : machine.State) → machine.First stage → line.window ≡ window
      → StandsLine (ends_of machine stage window turns page) first stands tree line (first_line first) → IsRunning machine stands first turns page tree line
  running-first line window stage begins same stood =
      (stage, begins, first_line first, subst (λ (w : ℕ). StandsLine (ends_of machine stage w turns page) first stands tree line (first_line first)) (sym same) stood)

  -- all lines, with the last one
  pub transcript-whole : (before after : Code) (old new lines : List (List ℕ)) (done : List ℕ) (steps : List Step) (window : ℕ) (stage : machine.State) → machine.First stage → before.window ≡ window
      → StandsLine (ends_of machine stage window turns page) first stands tree before (first_line first) → old ≡ [] → Lines before after old new (Played steps)
      → done ≡ numbered (codes "done") after.steps → lines ≡ new ++ done ∷ []
      → Transcript (ends_of machine stage window turns page) first steps lines
  transcript-whole before after old new lines done steps window stage begins same stood empty leads last all =
      let From : ℕ → Type 0 = λ w. (state : LineState machine.State Tree) → StandsLine (ends_of machine stage w turns page) first stands tree before state
      → (next : LineState machine.State Tree) × (more : List (List ℕ)) × StandsLine (ends_of machine stage w turns page) first stands tree after next × (after.window ≡ w) × (new ≡ old ++ more)
      × Runs (ends_of machine stage w turns page) steps state more next in
      let made = (subst From same (leads stage begins)) (first_line first) stood in
      let more : new ≡ made.1 = made.4 ∙ ap (λ (ls : List (List ℕ)). ls ++ made.1) empty in
      let now : after.steps ≡ made.0.steps = made.2.steps in (
        made.1,
        made.0,
        made.5,
        all ∙ ap (λ (ls : List (List ℕ)). ls ++ done ∷ []) more ∙ ap (λ (d : List ℕ). made.1 ++ d ∷ []) (last ∙ ap (numbered (codes "done")) now),
      )
