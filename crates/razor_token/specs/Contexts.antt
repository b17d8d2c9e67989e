-- What a piece changes of what is open.
use Rattle.std.specs.Prelude.{true, false, List, [], ◌∷◌, Option, Some, None, if◌then◌else◌}
use Rattle.cs_token.specs.declared.token.Sign.{Sign}
use Rattle.razor_token.specs.declared.context.Change.{Change}
use Rattle.razor_token.specs.declared.context.Context.{Context}

-- the innermost of what is open
abbrev pub innermost : List Context → Option Context
innermost [] = None
innermost (context ∷ outer) = Some context

-- without the innermost
abbrev pub left : List Context → List Context
left [] = []
left (context ∷ outer) = outer

-- this too, if there is one
abbrev pub entered : Option Context → List Context → List Context
entered None contexts = contexts
entered (Some context) contexts = context ∷ contexts

-- what is open behind the piece
abbrev pub changed : Change → List Context → List Context
changed change contexts = entered change.within (entered change.enters (if change.leaves then left contexts else contexts))

-- nothing changes
abbrev pub stays : Change
stays = record { leaves = false; enters = None; within = None; sign = None }

-- the innermost is left
abbrev pub leaves : Change
leaves = record { leaves = true; enters = None; within = None; sign = None }

-- one is entered
abbrev pub enters : Context → Change
enters context = record { leaves = false; enters = Some context; within = None; sign = None }

-- two are entered, the second innermost
abbrev pub enters_both : Context → Context → Change
enters_both context within = record { leaves = false; enters = Some context; within = Some within; sign = None }

-- the innermost is left for another
abbrev pub becomes : Context → Change
becomes context = record { leaves = true; enters = Some context; within = None; sign = None }

-- the innermost is left for two, the second innermost
abbrev pub becomes_both : Context → Context → Change
becomes_both context within = record { leaves = true; enters = Some context; within = Some within; sign = None }

-- besides, a sign of code stands there
abbrev pub with_sign : Option Sign → Change → Change
with_sign sign change = record change { sign = sign }
