use Rattle.std.proofs.Common.{List, refl, sym, ap, subst}
use Rattle.first_click.specs.declared.component.Component.{Component}
use Rattle.first_click.specs.declared.component.Field.{Field}
use Rattle.plain_page.specs.Machine.{first_state}
use Rattle.plain_page.specs.Running.{CanRun}
use Rattle.plain_page.proofs.stage.PlainStage.new.Goals as goal

pub invariant_of-result : goal.invariant_of-result
invariant_of-result c =
    let can : CanRun c.args.component.fields c.args.component.methods c.args.component.handlers =
    record { numbers = c.requires.numbers; statements = c.requires.statements; handled = c.requires.handled } in
    record {
      light = c.requires.light;
      able = λ _. ∣ subst (λ (fields : List Field). CanRun fields c.args.component.methods c.args.component.handlers) (sym c.in_ok-unpacked.ensures) can ∣₁;
    }

pub returns-clause-first : goal.returns-clause-first
returns-clause-first c =
    let make : List Field → Component = λ fields. record c.args.component { fields = fields } in
    (first_state c.args.component, refl, record { component = ap make (sym c.in_ok-unpacked.ensures); made = refl; released = refl; dirty = refl; begun = refl })
