use Rattle.std.proofs.lemmas.Result.{on_ok_weaker}
use Rattle.cs_print.proofs.WrittenLaws.{source_written}
use Rattle.cs_print.proofs.members.push_source.Goals as goal

pub returns : goal.returns
returns c =
    on_ok_weaker c.push_sign-3.result
    (λ last. source_written c.args.out.now c.push_fixed.new.out c.push_sign.new.out c.push_fixed-2.new.out c.push_sign-2.new.out c.push_text.new.out c.push_sign-3.new.out c.args.source.now
    c.in_ok-push_fixed.ensures c.in_ok-push_sign.ensures c.in_ok-push_fixed-2.ensures c.in_ok-push_sign-2.ensures c.in_ok-push_text.ensures last)
    c.push_sign-3.ensures
