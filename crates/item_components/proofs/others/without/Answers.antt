use Rattle.std.proofs.Common.{rules, ◌≡◌, ◌∙◌, ap, sym, ℕ, List, [], ◌∷◌, ◌++◌, ◌==◌, not, get_or}
use Rattle.std.specs.List.{list_any}
use Rattle.item_components.proofs.WithoutLemmas.{same-default, stays_in, stays_out}
use Rattle.item_components.proofs.others.without.Goals as goal
use Rattle.item_components.proofs.others.without.Goals.{then-not-contains+in_ok-push, else-not-contains}

pub loop-order-preserved : goal.loop-order-preserved
loop-order-preserved c =
    let orders = c.args.orders.now in
    let i = c.loop-order.order-index in
    let order : ℕ = get_or orders i 0 in
    let is : order ≡ get_or orders i order = same-default orders i 0 (get_or orders i 0) c.loop-order-test.true in
    elim c.if-not-contains.branch [
      | then-not-contains+in_ok-push w ↦
          stays_in (λ order. not (list_any (λ other. other == order) c.args.others.now)) orders i order c.loop-order-test.true is c.loop-order.them _ c.loop-order.invariant
          c.if-not-contains.them (ap not (sym c.contains.ensures.value ∙ w.if-not-contains.true)) (w.them-is ∙ w.in_ok-push.ensures.ok)
      | else-not-contains w ↦
          stays_out (λ order. not (list_any (λ other. other == order) c.args.others.now)) orders i order c.loop-order-test.true is c.loop-order.them _ c.loop-order.invariant
          c.if-not-contains.them (ap not (sym c.contains.ensures.value ∙ w.if-not-contains.false)) w.them-is
    ]
