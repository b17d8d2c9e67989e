use Rattle.std.proofs.Common.{rules, ◌≡◌, ◌++◌, ◌+◌, ◌<◌}
use Rattle.std.specs.Prelude.{codes}
use Rattle.std.specs.Fmt.{decimal}
use Rattle.schedule_replay.proofs.NumberLemmas.{numbers-written}
use Rattle.schedule_replay.proofs.direct_line.printing.push_sent.Goals as goal

pub loop-number-preserved : goal.loop-number-preserved
loop-number-preserved c =
    let within : c.loop-number.number < c.args.last = search rules in
    let written : c.push_number-in-loop-number.new.line ≡ (c.loop-number.line ++ codes " ") ++ decimal (c.loop-number.number + 1) = search rules in
    numbers-written _ c.loop-number.line _ c.loop-number.number c.args.last within c.loop-number.invariant written
