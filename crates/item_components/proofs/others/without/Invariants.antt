use Rattle.std.proofs.Common.{◌≡◌, ◌++◌, drop}
use Rattle.item_components.specs.Listed.{without}
use Rattle.item_components.proofs.others.without.Given as goal

abbrev pub invariant-loop-order : goal.invariant-loop-order
invariant-loop-order l = l.them ++ without l.others (drop l.order-index l.orders) ≡ without l.others l.orders
