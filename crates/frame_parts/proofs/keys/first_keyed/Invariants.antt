use Rattle.std.proofs.Common.{◌≡◌, map, drop}
use Rattle.page_meaning.specs.Parts.{first_keyed, part_of}
use Rattle.frame_parts.proofs.keys.first_keyed.Given as goal

abbrev pub invariant-loop-one : goal.invariant-loop-one
invariant-loop-one l = first_keyed (map part_of l.nodes) ≡ first_keyed (map part_of (drop l.one-index l.nodes))
