use Rattle.std.proofs.Common.{◌≡◌, subst, ℕ, ◌+◌, slice_get, Some, get_or}
use Rattle.handler_ids.specs.Kept.{Leads}
use Rattle.item_components.proofs.WithoutLemmas.{same-default}
use Rattle.item_edits.proofs.SlotPairLemmas.{get-read}
use Rattle.frame_walk.specs.Ids.{IsDisposed}
use Rattle.frame_walk.proofs.LeadsLemmas.{disposed-start, disposed-next}
use Rattle.frame_walk.proofs.going.dispose_all.Goals as goal

pub loop-id-init : goal.loop-id-init
loop-id-init c = disposed-start c.args.handlers.now c.args.batch c.args.handlers.now.released

pub loop-id-preserved : goal.loop-id-preserved
loop-id-preserved c =
    let ids = c.args.ids.now in
    let k = c.loop-id.id-index in
    let id : ℕ = get_or ids k 0 in
    let at : slice_get ids k ≡ Some id = get-read ids k id c.loop-id-test.true (same-default ids k 0 (get_or ids k 0) c.loop-id-test.true) in
    disposed-next c.args.handlers.now c.loop-id.handlers c.dispose_one.new.handlers c.args.batch c.args.handlers.now.released k id ids at c.loop-id.invariant
    (subst (λ n. Leads c.loop-id.handlers c.dispose_one.new.handlers (IsDisposed c.args.batch n id)) c.loop-id.invariant.0 c.dispose_one.ensures)
