use Rattle.std.proofs.Common.{◌<◌, ◌∷◌, [], ◌-◌, ◌/◌, ◌%◌, ◌+◌, arith, append_assoc}
use Rattle.std.proofs.lemmas.Result.{IfOk-equal, on_err_weaker}
use Rattle.text_core.specs.LengthGroups.{groups}
use Rattle.text_core.proofs.LengthGroupLemmas.{fits_next, groups-more}
use Rattle.text_core.proofs.TextByteLemmas.{keeps_front}
use Rattle.text_core.proofs.text_bytes.+put_length.Goals as goal

pub put_length-requires : goal.put_length-requires
put_length-requires t c =
    (omega arith, (omega arith, fits_next c.args.more c.args.size (omega arith) c.requires.most c.requires.fits))

pub returns-clause-ok : goal.returns-clause-ok
returns-clause-ok t c =
    let more : 0 < c.args.more = omega arith in
    IfOk-equal c.put_length.result c.put_length.new.out.items _ _ c.put_length.ensures.ok
    (rw (c.in_ok-push-3.ensures.items, groups-more c.args.more c.args.size more c.if-size-lt128.false)
    (append_assoc c.args.out.now.items ((c.args.size % 128 + 128) ∷ []) (groups (c.args.more - 1) (c.args.size / 128))))

pub returns-clause-err : goal.returns-clause-err
returns-clause-err t c =
    on_err_weaker c.put_length.result
    (λ e. keeps_front c.args.out.now.items c.push-2.new.self.items c.put_length.new.out.items ((c.args.size % 128 + 128) ∷ []) c.in_ok-push-3.ensures.items e)
    c.put_length.ensures.err
