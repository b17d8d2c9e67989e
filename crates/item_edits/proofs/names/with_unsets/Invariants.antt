use Rattle.std.proofs.Common.{◌≡◌, ◌++◌, map, drop}
use Rattle.std.specs.List.{filter}
use Rattle.pairing_meaning.specs.Tallies.{is_unset}
use Rattle.item_edits.specs.Named.{unset_of}
use Rattle.item_edits.proofs.names.with_unsets.Given as goal

abbrev pub invariant-loop-old : goal.invariant-loop-old
invariant-loop-old l = l.edits ++ map (unset_of l.sibling) (filter (is_unset l.news) (drop l.old-index l.olds)) ≡ l.initial.edits ++ map (unset_of l.sibling) (filter (is_unset l.news) l.olds)
