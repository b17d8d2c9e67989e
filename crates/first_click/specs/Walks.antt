-- Steps one after another.
use Rattle.std.specs.Prelude.{List, [], ◌∷◌}

-- from one state to another, by steps that give these things in order
pub data Walk {State Thing : Type 0} (Step : State → Thing → State → Type 0) : State → List Thing → State → Type 0 where
  stay : (here : State) → Walk Step here [] here
  go : (here next there : State) (thing : Thing) (things : List Thing) →
      Step here thing next → Walk Step next things there → Walk Step here (thing ∷ things) there
