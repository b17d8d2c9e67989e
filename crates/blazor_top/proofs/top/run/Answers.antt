use Rattle.blazor_top.proofs.EndingLemmas.{completes}
use Rattle.blazor_top.proofs.top.run.Goals as goal

pub returns-clause-completes : goal.returns-clause-completes
returns-clause-completes g c = completes c.args.words.now (g.F.Files.held c.args.files.now) _ (g.S.Sink.written c.args.out.now) _ _ c.answer.result c.code.result c.code.ensures c.answer.ensures.says
