-- Deliveries and steps, one behind another.
use Rattle.std.proofs.Common.{◌≡◌, ◌≤◌, ◌<◌, ◌⊎◌, ℕ, zero, suc, ◌+◌, Bool, true, false, List, [], ◌∷◌, ◌++◌, length, slice_get, Some, None, refl, ap, sym, ◌∙◌, subst, arith, append_assoc, append-nil, inl, inr, map, sum}
use Rattle.std.specs.List.{fold}
use Rattle.std.specs.Prelude.{nat_lt}
use Rattle.std.specs.declared.option.Option.{Option}
use Rattle.circuit_meaning.specs.Browser.Receives.{Where}
use Rattle.schedule_replay.specs.declared.schedule.Step.{Step}
use Rattle.schedule_replay.specs.declared.schedule.Step.TheVariants.{Open, User, Flow}
use Rattle.schedule_replay.specs.Line.State.{LineState, Message, upward, downward}
use Rattle.schedule_replay.specs.Line.Steps.{Delivers, Ends, Flows}
use Rattle.schedule_replay.specs.Line.Transcript.{Runs, StepLines}
use Rattle.schedule_replay.specs.Schedule.{weight, weights}

-- fewer deliveries of fewer
fewer : (count all : ℕ) (P : Type 0) → (suc count ≡ suc all) ⊎ P → (count ≡ all) ⊎ P
fewer count all P (inl same) = inl (omega (arith, same))
fewer count all P (inr other) = inr other

fold-add : (a b : ℕ) (xs : List ℕ) → fold ◌+◌ (a + b) xs ≡ a + fold ◌+◌ b xs
fold-add a b [] = refl
fold-add a b (x ∷ xs) =
    let same : (a + b) + x ≡ a + (b + x) = omega arith in
    ap (λ (n : ℕ). fold ◌+◌ n xs) same ∙ fold-add a (b + x) xs

-- the weight of the first, and of the others
pub weights-more : (step : Step) (steps : List Step) → weights (step ∷ steps) ≡ weight step + weights steps
weights-more step steps =
    let start : 0 + weight step ≡ weight step + 0 = omega arith in
    ap (λ (n : ℕ). fold ◌+◌ n (map weight steps)) start ∙ fold-add (weight step) 0 (map weight steps)

module _ {Tree : Type 0} (ends : Ends Tree) where
  abbrev State : Type 0
  State = LineState ends.machine.State Tree

  abbrev is_fresh : State → Bool
  is_fresh state = nat_lt state.delivered (length state.messages)

  -- just so many deliveries
  abbrev pub Many : ℕ → State → List (List ℕ) → State → Type 0
  Many zero before lines after = (lines ≡ []) × (after ≡ before)
  Many (suc count) before lines after =
      (line : List ℕ) × (more : List (List ℕ)) × (next : State) × (is_fresh before ≡ true)
      × Delivers ends (slice_get before.messages before.delivered) before line next × Many count next more after × (lines ≡ line ∷ more)

  pub many-more : (count : ℕ) (before middle after : State) (lines : List (List ℕ)) (line : List ℕ) → Many count before lines middle → is_fresh middle ≡ true
      → Delivers ends (slice_get middle.messages middle.delivered) middle line after → Many (suc count) before (lines ++ line ∷ []) after
  many-more zero before middle after lines line done fresh delivers =
      let Next : State → Type 0 = λ x. Many (suc zero) x (line ∷ []) after in
      let one : Next middle = (line, [], after, fresh, delivers, (refl, refl), refl) in
      subst (λ (ls : List (List ℕ)). Many (suc zero) before (ls ++ line ∷ []) after) (sym done.0) (subst Next done.1 one)
  many-more (suc count) before middle after lines line done fresh delivers =
      (done.0, done.1 ++ line ∷ [], done.2, done.3, done.4, many-more count done.2 middle after done.1 line done.5 fresh delivers, ap (λ (ls : List (List ℕ)). ls ++ line ∷ []) done.6)

  pub many-flows : (count all : ℕ) (before after : State) (lines : List (List ℕ)) → Many count before lines after → count ≤ all → (count ≡ all) ⊎ (is_fresh after ≡ false) → Flows ends all before lines after
  many-flows zero zero before after lines done few ends_by = done
  many-flows zero (suc all) before after lines done few (inl same) = absurd (omega (arith, same))
  many-flows zero (suc all) before after lines done few (inr dry) =
      let stopped : is_fresh before ≡ false = subst (λ (s : State). is_fresh s ≡ false) done.1 dry in
      rw stopped done
  many-flows (suc count) zero before after lines done few ends_by = absurd (omega (arith, few))
  many-flows (suc count) (suc all) before after lines done few ends_by =
      let rest = many-flows count all done.2 after done.1 done.5 (omega (arith, few)) (fewer count all _ ends_by) in
      rw done.3 (done.0, done.1, done.2, done.4, rest, done.6)

  -- each delivery is one step
  delivers-steps : (message : Option Message) (before after : State) (line : List ℕ) → Delivers ends message before line after → after.steps ≡ before.steps + 1
  delivers-steps None before after line does = absurd does
  delivers-steps (Some (upward message)) before after line does = ap (λ (s : State). s.steps) does.3
  delivers-steps (Some (downward message)) before after line does = ap (λ (s : State). s.steps) does.6

  pub many-steps : (count : ℕ) (before after : State) (lines : List (List ℕ)) → Many count before lines after → after.steps ≡ before.steps + count
  many-steps zero before after lines done = let same : after.steps ≡ before.steps = ap (λ (s : State). s.steps) done.1 in omega (arith, same)
  many-steps (suc count) before after lines done =
      let first = delivers-steps (slice_get before.messages before.delivered) before done.2 done.0 done.4 in
      let rest = many-steps count done.2 after done.1 done.5 in
      omega (arith, first, rest)

  flows-cases : (count : ℕ) (fresh : Bool) (before after : State) (lines : List (List ℕ)) → is_fresh before ≡ fresh
      → ((next : State) (more : List (List ℕ)) → Flows ends count next more after → after.steps ≤ next.steps + count)
      → Where fresh ((line : List ℕ) × (more : List (List ℕ)) × (next : State) × Delivers ends (slice_get before.messages before.delivered) before line next
      × Flows ends count next more after × (lines ≡ line ∷ more)) ((lines ≡ []) × (after ≡ before))
      → after.steps ≤ before.steps + suc count
  flows-cases count true before after lines is rest done =
      let first = delivers-steps (slice_get before.messages before.delivered) before done.2 done.0 done.3 in
      let others = rest done.2 done.1 done.4 in
      omega (arith, first, others)
  flows-cases count false before after lines is rest done = let same : after.steps ≡ before.steps = ap (λ (s : State). s.steps) done.1 in omega (arith, same)

  pub flows-steps : (count : ℕ) (before after : State) (lines : List (List ℕ)) → Flows ends count before lines after → after.steps ≤ before.steps + count
  flows-steps zero before after lines done = let same : after.steps ≡ before.steps = ap (λ (s : State). s.steps) done.1 in omega (arith, same)
  flows-steps (suc count) before after lines done =
      flows-cases count (is_fresh before) before after lines refl (λ next more flows. flows-steps count next after more flows) done

  -- a step of a schedule is at most so many
  step-steps : (step : Step) (before after : State) (lines : List (List ℕ)) → StepLines ends step before lines after → after.steps ≤ before.steps + weight step
  step-steps (Open tab) before after lines done = let made : after.steps ≡ before.steps + 1 = ap (λ (s : State). s.steps) done.1.3 in omega (arith, made)
  step-steps (User user) before after lines done = let made : after.steps ≡ before.steps + 1 = ap (λ (s : State). s.steps) done.1.4 in omega (arith, made)
  step-steps (Flow count) before after lines done = flows-steps count before after lines done

  pub runs-steps : (steps : List Step) (before after : State) (lines : List (List ℕ)) → Runs ends steps before lines after → after.steps ≤ before.steps + weights steps
  runs-steps [] before after lines done = let same : after.steps ≡ before.steps = ap (λ (s : State). s.steps) done.1 in omega (arith, same)
  runs-steps (step ∷ steps) before after lines done =
      let first = step-steps step before done.2 done.0 done.3 in
      let rest = runs-steps steps done.2 after done.1 done.4 in
      let total = weights-more step steps in
      omega (arith, first, rest, total)

  -- one more step
  pub runs-more : (steps : List Step) (step : Step) (before middle after : State) (lines more : List (List ℕ)) → Runs ends steps before lines middle → StepLines ends step middle more after
      → Runs ends (steps ++ step ∷ []) before (lines ++ more) after
  runs-more [] step before middle after lines more done does =
      let Next : State → Type 0 = λ x. Runs ends (step ∷ []) x more after in
      let one : Next middle = (more, [], after, does, (refl, refl), sym (append-nil more)) in
      subst (λ (ls : List (List ℕ)). Runs ends (step ∷ []) before (ls ++ more) after) (sym done.0) (subst Next done.1 one)
  runs-more (other ∷ steps) step before middle after lines more done does = (
    done.0,
    done.1 ++ more,
    done.2,
    done.3,
    runs-more steps step done.2 middle after done.1 more done.4 does,
    ap (λ (ls : List (List ℕ)). ls ++ more) done.5 ∙ append_assoc done.0 done.1 more,
  )
