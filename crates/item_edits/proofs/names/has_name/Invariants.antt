use Rattle.std.proofs.Common.{◌≡◌, drop}
use Rattle.std.specs.List.{list_any}
use Rattle.pairing_meaning.specs.Tallies.{same_name}
use Rattle.item_edits.proofs.names.has_name.Given as goal

abbrev pub invariant-loop-new : goal.invariant-loop-new
invariant-loop-new l = list_any (λ new. same_name new l.old) l.news ≡ list_any (λ new. same_name new l.old) (drop l.new-index l.news)
