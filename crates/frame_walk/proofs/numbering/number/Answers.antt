use Rattle.std.proofs.Common.{◌≡◌, ◌∙◌, ap, sym, subst, ℕ, List, [], ◌∷◌, ◌++◌, ◌+◌, length, map, take, slice_get, Some, arith, length-append}
use Rattle.handler_ids.specs.Kept.{Leads}
use Rattle.item_edits.proofs.SlotPairLemmas.{get-read, get-map}
use Rattle.frame_walk.specs.Ids.{Numbered}
use Rattle.frame_walk.specs.Told.{told_of}
use Rattle.frame_walk.proofs.LeadsLemmas.{numbered-start, numbered-next}
use Rattle.frame_walk.proofs.numbering.number.Goals as goal

pub loop-k-init : goal.loop-k-init
loop-k-init c = (
  subst (λ (is : List ℕ). Leads c.args.handlers.now c.args.handlers.now (Numbered c.args.batch [] [] is)) (sym c.new-ids.ensures) (numbered-start c.args.handlers.now c.args.batch),
  ap length c.new-ids.ensures,
)

pub loop-k-preserved : goal.loop-k-preserved
loop-k-preserved c =
    let told = c.index-tolds-k.result in
    let there : slice_get (map told_of c.args.tolds.now) c.loop-k.k ≡ Some (told_of told) = get-map told_of c.args.tolds.now c.loop-k.k told (get-read c.args.tolds.now c.loop-k.k told c.loop-k-test.true c.index-tolds-k.is) in
    let long : length c.push.new.self ≡ length c.loop-k.ids + 1 = ap length c.in_ok-push.ensures.ok ∙ length-append c.loop-k.ids (c.in_ok-id.id ∷ []) in
    let so_far = c.loop-k.invariant.1 in (
      subst (λ (is : List ℕ). Leads c.args.handlers.now c.number_one.new.handlers (Numbered c.args.batch (take (c.loop-k.k + 1) c.args.kept.now) (take (c.loop-k.k + 1) (map told_of c.args.tolds.now)) is)) (sym c.in_ok-push.ensures.ok)
          (numbered-next c.args.handlers.now c.loop-k.handlers c.number_one.new.handlers c.args.batch c.loop-k.k c.in_ok-id.id c.args.kept.now (map told_of c.args.tolds.now) c.loop-k.ids c.kept_at.result (told_of told)
          c.kept_at.ensures there c.loop-k.invariant.0 c.in_ok-id.ensures.numbered),
      omega arith,
    )
