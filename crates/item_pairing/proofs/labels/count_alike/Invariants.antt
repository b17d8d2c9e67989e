use Rattle.std.proofs.Common.{◌≡◌, ◌+◌, ◌≤◌, drop, map}
use Rattle.pairing_meaning.specs.Labels.{label_of, like, same_label}
use Rattle.item_pairing.proofs.labels.count_alike.Given as goal

abbrev pub invariant-loop-other : goal.invariant-loop-other
invariant-loop-other l = (l.count + like same_label (label_of l.item) (map label_of (drop l.other-index l.items)) ≡ like same_label (label_of l.item) (map label_of l.items)) × (l.count ≤ l.other-index)
