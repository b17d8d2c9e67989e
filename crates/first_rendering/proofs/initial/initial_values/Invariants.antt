use Rattle.std.proofs.Common.{◌≡◌, drop}
use Rattle.first_rendering.specs.First.{initial_values}
use Rattle.first_rendering.proofs.ValueLemmas.{behind}
use Rattle.first_rendering.proofs.initial.initial_values.Given as goal

-- the values so far, with those of the fields that are left, are those of all
abbrev pub invariant-loop-field : goal.invariant-loop-field
invariant-loop-field l =
    (behind l.values (initial_values (drop l.field-index l.fields) l.fuel.left) ≡ initial_values l.fields l.initial.fuel.left) × (l.fuel.depth ≡ 1)
