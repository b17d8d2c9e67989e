use Rattle.std.proofs.Common.{◌≡◌, drop}
use Rattle.first_click.specs.Fields.{has_field}
use Rattle.first_click.proofs.component.has_field.Given as goal

abbrev pub invariant-loop-field : goal.invariant-loop-field
invariant-loop-field l = has_field (drop l.field-index l.fields) l.name ≡ has_field l.fields l.name
