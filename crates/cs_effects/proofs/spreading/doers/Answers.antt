use Rattle.std.proofs.Common.{◌≡◌, ◌<◌, slice_get, Some, false, rules, sym, subst}
use Rattle.std.specs.List.{list_any}
use Rattle.cs_effects.specs.declared.marks.Mark.TheVariants.{Waiting}
use Rattle.cs_effects.specs.Spreading.{is_waiting, weights}
use Rattle.cs_effects.proofs.Spreads.{Spreading, begins, turn, ends, lighter}
use Rattle.cs_effects.proofs.spreading.doers.Goals as goal

pub loop-at-init : goal.loop-at-init
loop-at-init c = subst (λ marks. Spreading c.args.members.now c.args.deed.now marks) (sym c.in_ok-marks.ensures) (begins c.args.members.now c.args.deed.now)

pub loop-at-preserved : goal.loop-at-preserved
loop-at-preserved c =
    let waits : slice_get c.loop-at.marks c.in-Some.at ≡ Some Waiting = search rules in
    subst (λ marks. Spreading c.args.members.now c.args.deed.now marks) (sym c.in_ok-marks-2.ensures)
    (turn c.args.members.now c.args.deed.now c.loop-at.marks c.in-Some.at c.loop-at.invariant waits)

pub loop-at-smaller : goal.loop-at-smaller
loop-at-smaller c =
    let waits : slice_get c.loop-at.marks c.in-Some.at ≡ Some Waiting = search rules in
    subst (λ marks. weights marks < weights c.loop-at.marks) (sym c.in_ok-marks-2.ensures)
    (lighter c.args.members.now c.loop-at.marks c.in-Some.at waits)

pub returns : goal.returns
returns c =
    let none : list_any is_waiting c.loop-at.marks ≡ false = search rules in
    ends c.args.members.now c.args.deed.now c.loop-at.marks c.loop-at.invariant none
