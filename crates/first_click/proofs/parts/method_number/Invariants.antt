use Rattle.std.proofs.Common.{◌≡◌, drop}
use Rattle.first_click.specs.declared.component.Method.{Method}
use Rattle.first_click.specs.Positions.{position_from}
use Rattle.first_click.proofs.parts.method_number.Given as goal

abbrev pub invariant-loop-at : goal.invariant-loop-at
invariant-loop-at l =
    position_from (λ (m : Method). m.name) l.at (drop l.at l.methods) l.name ≡ position_from (λ (m : Method). m.name) 0 l.methods l.name
