use Rattle.std.proofs.Common.{take}
use Rattle.handler_ids.specs.Kept.{Leads}
use Rattle.frame_walk.specs.Ids.{Disposed}
use Rattle.frame_walk.proofs.going.dispose_all.Given as goal

abbrev pub invariant-loop-id : goal.invariant-loop-id
invariant-loop-id l = Leads l.initial.handlers l.handlers (Disposed l.batch l.initial.handlers.released (take l.id-index l.ids))
