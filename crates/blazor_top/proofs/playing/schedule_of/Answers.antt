use Rattle.std.proofs.Common.{◌≡◌, ◌++◌, Err, sym}
use Rattle.std.specs.Fmt.{decimal}
use Rattle.std.specs.Prelude.{codes}
use Rattle.schedule_replay.specs.Schedule.{schedule_of}
use Rattle.schedule_replay.specs.declared.schedule.ScheduleFault.TheVariants as fault
use Rattle.blazor_top.specs.Lines.{too_large_line}
use Rattle.blazor_top.specs.Reply.{unread, no_step}
use Rattle.blazor_top.specs.Stopping.{NoSchedule, wrong, many}
use Rattle.blazor_top.specs.declared.status.Status.TheVariants as status
use Rattle.blazor_top.proofs.StopLemmas.{on_refuses}
use Rattle.blazor_top.proofs.playing.schedule_of.Goals as goal

pub returns-in-Err-Unread-clause-refused : goal.returns-in-Err-Unread-clause-refused
returns-in-Err-Unread-clause-refused c =
    let means : Err fault.Unread ≡ schedule_of c.args.bytes.now = rw c.in-Err-Unread.field-0-is at c.in-Err-Unread.ensures.spelled in
    on_refuses c.refused_with.result status.Unscheduled (codes "schedule unread") (NoSchedule c.args.name.now c.args.bytes.now) c.refused_with.ensures
    (wrong (codes "schedule unread") (unread (sym means)))

pub returns-in-Err-Step-clause-refused : goal.returns-in-Err-Step-clause-refused
returns-in-Err-Step-clause-refused c =
    let number = c.in-Err-Step.number in
    let means : Err (fault.Step number) ≡ schedule_of c.args.bytes.now = rw c.in-Err-Step.field-0-is at c.in-Err-Step.ensures.spelled in
    on_refuses c.no_step.result status.Unscheduled (codes "schedule step " ++ decimal number) (NoSchedule c.args.name.now c.args.bytes.now) c.no_step.ensures
    (wrong (codes "schedule step " ++ decimal number) (no_step number (sym means)))

pub returns-in-Err-TooMany-clause-refused : goal.returns-in-Err-TooMany-clause-refused
returns-in-Err-TooMany-clause-refused c =
    let means : Err fault.TooMany ≡ schedule_of c.args.bytes.now = rw c.in-Err-TooMany.field-0-is at c.in-Err-TooMany.ensures.spelled in
    on_refuses c.about.result status.TooLarge (too_large_line c.args.name.now) (NoSchedule c.args.name.now c.args.bytes.now) c.about.ensures (many (sym means))
