use Rattle.blazor_top.proofs.StopLemmas.{handed_on, on_refuses, plays_none, plays_one, plays_not, none_at}
use Rattle.blazor_top.specs.Lines.{refused_line}
use Rattle.blazor_top.specs.declared.status.Status.TheVariants as status
use Rattle.std.proofs.Common.{rules, ◌≡◌, None}
use Rattle.std.specs.Prelude.{slice_get}
use Rattle.blazor_top.proofs.playing.play.Goals as goal

pub returns-in_err-component-clause-refused : goal.returns-in_err-component-clause-refused
returns-in_err-component-clause-refused c =
    handed_on c.from_residual.result c.in_err-component.field-0.0 _ _ c.from_residual.ensures.1
    (λ got line none. plays_none c.args.schedule.now c.args.root.now c.args.sources.now.schedule.items c.args.sources.now.root.items c.args.others.now got line
    (rw c.deref.ensures.value at none))
    c.in_err-component.ensures.refused

pub returns-in-Some-clause-refused : goal.returns-in-Some-clause-refused
returns-in-Some-clause-refused c =
    on_refuses c.not_yet.result status.Refused (refused_line c.in-Some.second.now) _ c.not_yet.ensures
    (plays_one c.args.schedule.now c.args.root.now c.args.sources.now.schedule.items c.args.sources.now.root.items c.args.others.now c.in-Some.second.now
    c.in_ok-component.component (search rules) (rw c.deref.ensures.value at c.in_ok-component.ensures.spelled))

pub returns-in_err-schedule-clause-refused : goal.returns-in_err-schedule-clause-refused
returns-in_err-schedule-clause-refused c =
    let none : slice_get c.args.others.now 0 ≡ None = search rules in
    handed_on c.from_residual-in_err-schedule.result c.in_err-schedule.field-0.0 _ _ c.from_residual-in_err-schedule.ensures.1
    (λ got line wrong. plays_not c.args.schedule.now c.args.root.now c.args.sources.now.schedule.items c.args.sources.now.root.items c.args.others.now c.in_ok-component.component
    (none_at c.args.others.now none) (rw c.deref.ensures.value at c.in_ok-component.ensures.spelled) got line (rw c.deref-2.ensures.value at wrong))
    c.in_err-schedule.ensures.refused

pub returns-clause-output : goal.returns-clause-output
returns-clause-output c =
    let none : slice_get c.args.others.now 0 ≡ None = search rules in
    record {
      schedule = c.in_ok-schedule.schedule;
      component = c.in_ok-component.component;
      alone = none_at c.args.others.now none;
      is_schedule = rw c.deref-2.ensures.value at c.in_ok-schedule.ensures.spelled;
      is_component = rw c.deref.ensures.value at c.in_ok-component.ensures.spelled;
      transcript = c.in_ok-transcript.ensures;
    }
