use Rattle.blazor_top.proofs.WritingLemmas.{no_front}
use Rattle.blazor_top.proofs.writing.write_line.Goals as goal

pub returns-in-Err-clause-front : goal.returns-in-Err-clause-front
returns-in-Err-clause-front g c = λ stopped. no_front (g.S.Sink.written c.args.out.now) c.args.line.now
