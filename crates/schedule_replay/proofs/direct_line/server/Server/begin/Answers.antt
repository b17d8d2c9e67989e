use Rattle.std.proofs.Common.{rules, ◌≡◌, ◌∷◌, Some, refl}
use Rattle.hub_messages.specs.declared.down.Down.TheVariants.{Started}
use Rattle.schedule_replay.specs.Line.State.{connection}
use Rattle.schedule_replay.proofs.direct_line.server.Server.begin.Goals as goal

pub returns : goal.returns
returns g c = λ first begins stood.
    let made = c.in_ok-circuit.ensures first begins stood in
    let replies : c.insert.new.self.items ≡ Started connection 0 ∷ c.in_ok-circuit.batch.items = search rules in
    (Some made.0, made.1, (c.in_ok-circuit.batch.items, made.0, replies, made.2, refl))
