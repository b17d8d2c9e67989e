use Rattle.std.proofs.Common.{◌≡◌, drop}
use Rattle.first_click.specs.Rendering.{field_text}
use Rattle.first_click.proofs.rendering.field_text.Given as goal

abbrev pub invariant-loop-field : goal.invariant-loop-field
invariant-loop-field l = field_text (drop l.field-index l.fields) l.name ≡ field_text l.fields l.name
