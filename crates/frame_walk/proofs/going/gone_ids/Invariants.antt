use Rattle.std.proofs.Common.{◌≡◌, ◌++◌, drop}
use Rattle.frame_walk.specs.Ids.{gone_from}
use Rattle.frame_walk.proofs.going.gone_ids.Given as goal

abbrev pub invariant-loop-id : goal.invariant-loop-id
invariant-loop-id l = l.gone.items ++ gone_from (drop l.id-index l.id-items) l.news ≡ gone_from l.id-items l.news
