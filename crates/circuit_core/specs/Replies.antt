-- Replies that change nothing.
use Rattle.std.specs.Prelude.{List, [], ◌∷◌}
use Rattle.hub_messages.specs.declared.down.Down.{Down}
use Rattle.hub_messages.specs.declared.down.Down.TheVariants.{Refused, Ended}
use Rattle.circuit_meaning.specs.declared.circuit.Rule.{Rule}
use Rattle.circuit_meaning.specs.declared.circuit.Rule.TheVariants.{Silent, Over, Refuses, Again, Takes}

-- the reply to a message that is not taken, if there is one
abbrev pub replies_of : Rule → List Down
replies_of (Over fault) = Ended fault ∷ []
replies_of (Refuses refusal) = Refused refusal ∷ []
replies_of Silent = []
replies_of Again = []
replies_of Takes = []
