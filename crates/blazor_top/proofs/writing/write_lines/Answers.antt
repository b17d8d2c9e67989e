use Rattle.std.proofs.Common.{arith, refl}
use Rattle.blazor_top.proofs.WritingLemmas.{one_more, cut_line}
use Rattle.blazor_top.proofs.writing.write_lines.Goals as goal

pub loop-line-preserved : goal.loop-line-preserved
loop-line-preserved g c = (
  omega (arith, c.loop-line.invariant.0, c.write_line.ensures.later),
  one_more (g.S.Sink.written c.args.out.now) (g.S.Sink.written c.loop-line.out) (g.S.Sink.written c.write_line.new.out) c.args.lines.now c.loop-line.line-index c.line-item.result
      c.loop-line-test.true c.line-item.is c.loop-line.invariant.1 (c.in-All.ensures.all refl),
)

pub returns-in-Fault-clause-front : goal.returns-in-Fault-clause-front
returns-in-Fault-clause-front g c = λ stopped.
    cut_line (g.S.Sink.written c.args.out.now) (g.S.Sink.written c.loop-line.out) (g.S.Sink.written c.write_line.new.out) c.args.lines.now c.loop-line.line-index c.line-item.result
    c.loop-line-test.true c.line-item.is c.loop-line.invariant.1 (c.in-Fault.ensures.front stopped)

pub returns-in-Oom-clause-front : goal.returns-in-Oom-clause-front
returns-in-Oom-clause-front g c = λ stopped.
    cut_line (g.S.Sink.written c.args.out.now) (g.S.Sink.written c.loop-line.out) (g.S.Sink.written c.write_line.new.out) c.args.lines.now c.loop-line.line-index c.line-item.result
    c.loop-line-test.true c.line-item.is c.loop-line.invariant.1 (c.in-Oom.ensures.front stopped)
