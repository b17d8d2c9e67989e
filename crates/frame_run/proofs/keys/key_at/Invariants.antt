use Rattle.std.proofs.Common.{◌≡◌, drop}
use Rattle.std.specs.List.{filter_map}
use Rattle.drawing_meaning.specs.Keys as spec
use Rattle.frame_run.proofs.keys.key_at.Given as goal

-- no item so far has the number
abbrev pub invariant-loop-item : goal.invariant-loop-item
invariant-loop-item l = spec.key_at l.number (filter_map spec.key_of l.items) ≡ spec.key_at l.number (filter_map spec.key_of (drop l.item-index l.items))
