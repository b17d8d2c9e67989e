use Rattle.std.proofs.Common.{◌≡◌, ◌&&◌, drop}
use Rattle.std.specs.List.{list_any}
use Rattle.pairing_meaning.specs.Tallies.{same_name, same_held}
use Rattle.item_edits.proofs.names.has_kept.Given as goal

abbrev pub invariant-loop-old : goal.invariant-loop-old
invariant-loop-old l = list_any (λ old. same_name old l.new && same_held old.value l.new.value) l.olds ≡ list_any (λ old. same_name old l.new && same_held old.value l.new.value) (drop l.old-index l.olds)
