use Rattle.std.proofs.Common.{◌≡◌, ◌++◌, drop}
use Rattle.pairing_meaning.specs.Components.{orders_of}
use Rattle.item_components.proofs.orders.+orders.Given as goal

abbrev pub invariant-with_items-loop-item : goal.invariant-with_items-loop-item
invariant-with_items-loop-item l = l.orders ++ orders_of (drop l.item-index l.items) ≡ l.initial.orders ++ orders_of l.items
