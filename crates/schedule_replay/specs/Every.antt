-- Lists of things that are all such.
use Rattle.std.specs.Prelude.{List, [], ◌∷◌}

-- each thing of a list is such
abbrev pub Every : {Thing : Type 0} → (Thing → Type 0) → List Thing → Type 0
Every Is [] = Unit {0}
Every Is (thing ∷ things) = Is thing × Every Is things
