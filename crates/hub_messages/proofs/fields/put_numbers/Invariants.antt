use Rattle.std.proofs.Common.{◌≡◌, ◌++◌, drop}
use Rattle.hub_messages.specs.Spelling.Fields.{numbers}
use Rattle.hub_messages.proofs.fields.put_numbers.Given as goal

abbrev pub invariant-loop-value : goal.invariant-loop-value
invariant-loop-value l = l.out.items ++ numbers (drop l.value-index l.values) ≡ l.initial.out.items ++ numbers l.values
