use Rattle.std.proofs.Common.{◌≡◌, ◌<◌, slice_get, slice_set, Some, true, false, rules, refl, sym, ap, subst, ◌∙◌}
use Rattle.std.specs.List.{list_any}
use Rattle.razor_parts.specs.declared.circles.Mark.TheVariants.{Waiting, Passed}
use Rattle.razor_parts.specs.Circles.{is_waiting, weights, marked, marked_all, holds_one, parts_at}
use Rattle.razor_parts.proofs.CircleLaws.{Marking, begins, turn, closes, ends, lighter}
use Rattle.razor_parts.proofs.circles.contains_itself.Goals as goal

pub loop-at-init : goal.loop-at-init
loop-at-init c =
    subst (λ marks. Marking c.args.records.now c.args.name.now marks)
    (sym (c.mark_named.ensures ∙ ap (λ marks. marked c.args.records.now c.args.name.now marks) c.in_ok-marks.ensures))
    (begins c.args.records.now c.args.name.now)

pub returns-then-branch : goal.returns-then-branch
returns-then-branch c =
    let waits : slice_get c.loop-at.marks c.in-Some.at ≡ Some Waiting = search rules in
    let closed : holds_one c.args.name.now (parts_at (slice_get c.args.records.now c.in-Some.at)) ≡ true =
    sym (c.in_ok-pass_all.ensures.yes ∙ ap (λ parts. holds_one c.args.name.now parts) c.parts_at.ensures) ∙ c.if-branch.true in
    (λ t. closes c.args.records.now c.args.name.now c.loop-at.marks c.in-Some.at c.loop-at.invariant waits closed, λ holds. refl)

pub loop-at-preserved : goal.loop-at-preserved
loop-at-preserved c =
    let here = parts_at (slice_get c.args.records.now c.in-Some.at) in
    let waits : slice_get c.loop-at.marks c.in-Some.at ≡ Some Waiting = search rules in
    let off : holds_one c.args.name.now here ≡ false =
    sym (c.in_ok-pass_all.ensures.yes ∙ ap (λ parts. holds_one c.args.name.now parts) c.parts_at.ensures) ∙ c.if-branch.false in
    let is : c.pass_all.new.marks ≡ marked_all c.args.records.now here (slice_set c.loop-at.marks c.in-Some.at Passed) =
    c.in_ok-pass_all.ensures.marks c.if-branch.false ∙ ap (λ parts. marked_all c.args.records.now parts c.set.new.self) c.parts_at.ensures
    ∙ ap (λ marks. marked_all c.args.records.now here marks) c.set.ensures in
    subst (λ marks. Marking c.args.records.now c.args.name.now marks) (sym is)
    (turn c.args.records.now c.args.name.now c.loop-at.marks c.in-Some.at c.loop-at.invariant waits off)

pub loop-at-smaller : goal.loop-at-smaller
loop-at-smaller c =
    let here = parts_at (slice_get c.args.records.now c.in-Some.at) in
    let waits : slice_get c.loop-at.marks c.in-Some.at ≡ Some Waiting = search rules in
    let is : c.pass_all.new.marks ≡ marked_all c.args.records.now here (slice_set c.loop-at.marks c.in-Some.at Passed) =
    c.in_ok-pass_all.ensures.marks c.if-branch.false ∙ ap (λ parts. marked_all c.args.records.now parts c.set.new.self) c.parts_at.ensures
    ∙ ap (λ marks. marked_all c.args.records.now here marks) c.set.ensures in
    subst (λ marks. weights marks < weights c.loop-at.marks) (sym is)
    (lighter c.args.records.now c.args.name.now c.loop-at.marks c.in-Some.at c.loop-at.invariant waits)

pub returns : goal.returns
returns c =
    let none : list_any is_waiting c.loop-at.marks ≡ false = search rules in
    (λ t. absurd (let e : false ≡ true = t in cc), λ holds. absurd (ends c.args.records.now c.args.name.now c.loop-at.marks c.loop-at.invariant none holds))
