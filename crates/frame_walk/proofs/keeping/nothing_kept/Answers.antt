use Rattle.std.proofs.Common.{◌≡◌, ◌∙◌, ap, List, map, take}
use Rattle.std.proofs.lemmas.List.{take_all}
use Rattle.frame_walk.specs.Ids.{values_in}
use Rattle.frame_walk.specs.Told.{told_of}
use Rattle.frame_walk.proofs.HandlerLemmas.{no_id, nothing-of}
use Rattle.frame_walk.proofs.keeping.nothing_kept.Goals as goal

pub returns : goal.returns
returns c =
    let all : take c.loop-told._told-index c.as_slice-told-items.result.now ≡ c.in_ok-tolds.tolds.items =
    take_all c.loop-told._told-index c.as_slice-told-items.result.now c.loop-told-test.false ∙ c.as_slice-told-items.ensures.value in
    c.loop-told.invariant ∙ ap (λ tolds. map no_id tolds) all ∙ nothing-of told_of c.in_ok-tolds.tolds.items (values_in c.args.new.now) c.in_ok-tolds.ensures
