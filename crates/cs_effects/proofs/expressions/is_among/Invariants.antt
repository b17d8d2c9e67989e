use Rattle.std.proofs.Common.{◌≡◌, drop}
use Rattle.std.specs.Prelude.{bytes_eq}
use Rattle.std.specs.List.{list_any}
use Rattle.cs_effects.proofs.expressions.is_among.Given as goal

-- none so far is the name
abbrev pub invariant-loop-field : goal.invariant-loop-field
invariant-loop-field l = list_any (λ field. bytes_eq field l.name) l.fields ≡ list_any (λ field. bytes_eq field l.name) (drop l.field-index l.fields)
