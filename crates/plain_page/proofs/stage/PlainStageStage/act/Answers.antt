use Rattle.std.proofs.Common.{refl, Some, None}
use Rattle.std.specs.Option.{option_copied}
use Rattle.plain_page.specs.Machine.{with_fields}
use Rattle.plain_page.proofs.StageLemmas.{component_behind, run_step}
use Rattle.plain_page.proofs.stage.PlainStageStage.act.Goals as goal

pub returns-in-None-clause-step : goal.returns-in-None-clause-step
returns-in-None-clause-step c before stands =
    let ran = rw (c.in-None.is, c.as_slice.ensures, c.as_slice-2.ensures) at c.in_ok-ran.ensures.ran in
    let acts = run_step c.args.self.now c.args.handler c.args.name.now (option_copied c.args.text) None c.run.new.present.fields.items before stands
    (c.in_default.ensures.refused before stands) ran in (
      with_fields before c.run.new.present.fields.items,
      record { component = component_behind c.args.self.now before c.run.new.present.fields.items stands; made = stands.made; released = stands.released; dirty = refl; begun = stands.begun },
      acts,
    )

pub returns-in-Some-ran-clause-step : goal.returns-in-Some-ran-clause-step
returns-in-Some-ran-clause-step c before stands =
    let ran = rw (c.in-Some-ran.is, c.as_slice.ensures, c.as_slice-2.ensures) at c.in_ok-ran.ensures.ran in
    let acts = run_step c.args.self.now c.args.handler c.args.name.now (option_copied c.args.text) (Some c.in-Some-ran.fault) c.run.new.present.fields.items before stands
    (c.in_default.ensures.refused before stands) ran in (
      with_fields before c.run.new.present.fields.items,
      record { component = component_behind c.args.self.now before c.run.new.present.fields.items stands; made = stands.made; released = stands.released; dirty = refl; begun = stands.begun },
      acts,
    )
