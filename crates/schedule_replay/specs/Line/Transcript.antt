-- The transcript of a schedule.
use Rattle.std.specs.Prelude.{◌≡◌, ℕ, List, [], ◌∷◌, ◌++◌, codes}
use Rattle.std.specs.List.{flat_map}
use Rattle.schedule_replay.specs.declared.schedule.Step.{Step}
use Rattle.schedule_replay.specs.declared.schedule.Step.TheVariants.{Open, User, Flow}
use Rattle.schedule_replay.specs.Line.State.{LineState, first_line}
use Rattle.schedule_replay.specs.Line.Steps.{Ends, OpenStep, UserStep, Flows}
use Rattle.schedule_replay.specs.Texts.{numbered}

-- the lines of one step of a schedule
abbrev pub StepLines : {Tree : Type 0} (ends : Ends Tree) → Step → LineState ends.machine.State Tree → List (List ℕ) → LineState ends.machine.State Tree → Type 0
StepLines ends (Open tab) before lines after = (line : List ℕ) × OpenStep ends before line after × (lines ≡ line ∷ [])
StepLines ends (User step) before lines after = (line : List ℕ) × UserStep ends step.path step.event before line after × (lines ≡ line ∷ [])
StepLines ends (Flow count) before lines after = Flows ends count before lines after

-- the lines of steps, one after another
abbrev pub Runs : {Tree : Type 0} (ends : Ends Tree) → List Step → LineState ends.machine.State Tree → List (List ℕ) → LineState ends.machine.State Tree → Type 0
Runs ends [] before lines after = (lines ≡ []) × (after ≡ before)
Runs {Tree} ends (step ∷ steps) before lines after =
    (first : List (List ℕ)) × (rest : List (List ℕ)) × (next : LineState ends.machine.State Tree)
    × StepLines ends step before first next × Runs ends steps next rest after × (lines ≡ first ++ rest)

-- the lines of all steps, and at last how many atomic steps there were
abbrev pub Transcript : {Tree : Type 0} (ends : Ends Tree) → Tree → List Step → List (List ℕ) → Type 0
Transcript {Tree} ends tree steps lines =
    (made : List (List ℕ)) × (after : LineState ends.machine.State Tree)
    × Runs ends steps (first_line tree) made after
    × (lines ≡ made ++ numbered (codes "done") after.steps ∷ [])

-- lines, each with its end
abbrev pub lines_text : List (List ℕ) → List ℕ
lines_text = flat_map (λ line. line ++ 10 ∷ [])
