use Rattle.std.proofs.Common.{◌≡◌, ◌++◌, map, drop}
use Rattle.std.specs.List.{filter}
use Rattle.pairing_meaning.specs.Tallies.{is_set}
use Rattle.item_edits.specs.Named.{set_of}
use Rattle.item_edits.proofs.names.with_sets.Given as goal

abbrev pub invariant-loop-new : goal.invariant-loop-new
invariant-loop-new l = l.edits ++ map (set_of l.sibling) (filter (is_set l.olds) (drop l.new-index l.news)) ≡ l.initial.edits ++ map (set_of l.sibling) (filter (is_set l.olds) l.news)
