use Rattle.std.proofs.Common.{◌≡◌, ◌∙◌, ap, sym, List, length, map}
use Rattle.std.proofs.lemmas.List.{length-map}
use Rattle.std.proofs.lemmas.Result.{IfOk-weaker}
use Rattle.frame_walk.specs.Ids.{values_of}
use Rattle.frame_walk.specs.Told.{told_of}
use Rattle.frame_walk.proofs.KeepingLemmas.{kept-long}
use Rattle.frame_walk.proofs.walking.ids_for.Goals as goal

pub number-requires : goal.number-requires
number-requires c =
    let tolds : length c.as_slice-2.result.now ≡ length (values_of c.args.new.now) = ap length c.as_slice-2.ensures.value ∙ sym (length-map c.in_ok-tolds.tolds.items told_of) ∙ ap length c.in_ok-tolds.ensures in
    ap length c.as_slice.ensures ∙ kept-long c.args.old.now c.args.new.now c.in_ok-kept.kept c.in_ok-kept.ensures ∙ sym tolds

pub returns-clause-long : goal.returns-clause-long
returns-clause-long c =
    IfOk-weaker c.number.result (λ ids. length ids ≡ length c.as_slice-2.result.now) _
    (λ ids same. same ∙ ap length c.as_slice-2.ensures.value ∙ sym (length-map c.in_ok-tolds.tolds.items told_of) ∙ ap length c.in_ok-tolds.ensures)
    c.number.ensures.long
