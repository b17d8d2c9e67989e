use Rattle.std.proofs.Common.{◌≡◌, drop}
use Rattle.first_click.specs.declared.component.Field.{Field}
use Rattle.first_click.specs.Positions.{position_from}
use Rattle.first_click.proofs.expressions.field_number.Given as goal

abbrev pub invariant-loop-at : goal.invariant-loop-at
invariant-loop-at l =
    position_from (λ (f : Field). f.name) l.at (drop l.at l.fields) l.name ≡ position_from (λ (f : Field). f.name) 0 l.fields l.name
