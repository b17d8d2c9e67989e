use Rattle.std.proofs.Common.{◌≡◌, drop}
use Rattle.std.specs.List.{filter_map}
use Rattle.drawing_meaning.specs.Keys as spec
use Rattle.frame_run.proofs.keys.are_distinct.Given as goal

-- none so far is repeated behind it
abbrev pub invariant-loop-i : goal.invariant-loop-i
invariant-loop-i l = spec.are_distinct (filter_map spec.key_of l.items) ≡ spec.are_distinct (filter_map spec.key_of (drop l.i l.items))
