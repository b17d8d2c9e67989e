use Rattle.std.proofs.Common.{◌≤◌, take}
use Rattle.outside.specs.Sink.{Adds}
use Rattle.blazor_top.specs.Run.{lines_bytes}
use Rattle.blazor_top.proofs.writing.write_lines.Given as goal

-- the lines so far were written
abbrev pub invariant-loop-line : goal.invariant-loop-line
invariant-loop-line g l =
    (g.S.Sink.fault_count l.initial.out ≤ g.S.Sink.fault_count l.out)
    × Adds (g.S.Sink.written l.initial.out) (g.S.Sink.written l.out) (lines_bytes (take l.line-index l.lines))
