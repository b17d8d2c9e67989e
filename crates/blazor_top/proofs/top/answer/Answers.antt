use Rattle.std.proofs.Common.{◌∷◌, []}
use Rattle.blazor_top.specs.declared.status.Status.TheVariants.{Done}
use Rattle.blazor_top.proofs.EndingLemmas.{says}
use Rattle.blazor_top.proofs.top.answer.Goals as goal

pub returns-in-Ok-clause-says : goal.returns-in-Ok-clause-says
returns-in-Ok-clause-says g c =
    says c.args.words.now (g.F.Files.held c.args.files.now) _ (g.S.Sink.written c.args.out.now) (g.S.Sink.written c.finish.new.out) _
    Done c.in-Ok.lines.items c.finish.result c.in-Ok.ensures.output (rw c.deref.ensures.value at c.finish.ensures.ends)

pub returns-in-Err-Refused-clause-says : goal.returns-in-Err-Refused-clause-says
returns-in-Err-Refused-clause-says g c =
    says c.args.words.now (g.F.Files.held c.args.files.now) _ (g.S.Sink.written c.args.out.now) (g.S.Sink.written c.refuse.new.out) _
    c.in-Err-Refused.refusal.status (c.in-Err-Refused.refusal.line ∷ []) c.refuse.result (rw c.in-Err-Refused.field-0-is at c.in-Err-Refused.ensures.refused) c.refuse.ensures.ends
