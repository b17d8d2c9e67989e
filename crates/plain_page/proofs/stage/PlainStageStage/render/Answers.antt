use Rattle.std.proofs.Common.{◌≢◌, ◌+◌, ℕ, refl, sym, ap, ◌∙◌, arith}
use Rattle.std.proofs.lemmas.Bool.{ne_eqb}
use Rattle.std.proofs.Math.Logic.{∥∥₁_map}
use Rattle.plain_page.specs.Machine.{behind_batch}
use Rattle.plain_page.proofs.StageLemmas.{render_step}
use Rattle.plain_page.proofs.stage.PlainStageStage.render.Goals as goal

pub rendered-requires-clause-able : goal.rendered-requires-clause-able
rendered-requires-clause-able c =
    rw c.as_slice.ensures.value (∥∥₁_map (c.args.self.now.able c.if-self.false) (λ can. can.numbers))

pub returns-clause-step : goal.returns-clause-step
returns-clause-step c before stands =
    let spelled = rw (c.as_slice.ensures.value, c.as_slice-2.ensures, ← c.new.ensures) at c.in_ok-bytes.ensures in
    let step = render_step c.args.self.now c.new.result spelled before stands in
    let some : c.args.number ≢ 0 = (λ none. absurd (omega (arith, c.requires, none))) in (
      behind_batch before step.0,
      record {
        component = stands.component;
        made = ap (λ (n : ℕ). n + 1) stands.made ∙ sym c.requires;
        released = stands.released;
        dirty = refl;
        begun = sym (ne_eqb c.args.number 0 some);
      },
      step.1,
    )
