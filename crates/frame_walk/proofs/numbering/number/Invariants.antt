use Rattle.std.proofs.Common.{◌≡◌, length, map, take}
use Rattle.handler_ids.specs.Kept.{Leads}
use Rattle.frame_walk.specs.Ids.{Numbered}
use Rattle.frame_walk.specs.Told.{told_of}
use Rattle.frame_walk.proofs.numbering.number.Given as goal

abbrev pub invariant-loop-k : goal.invariant-loop-k
invariant-loop-k l = Leads l.initial.handlers l.handlers (Numbered l.batch (take l.k l.kept) (take l.k (map told_of l.tolds)) l.ids) × (length l.ids ≡ l.k)
