use Rattle.std.proofs.Common.{◌≡◌, take, drop, map}
use Rattle.handler_ids.specs.Kept.{without_value}
use Rattle.handler_ids.proofs.entry.let_go.Given as goal

-- so far each entry is without what is released, and the others are as they were
abbrev pub invariant-loop-entry : goal.invariant-loop-entry
invariant-loop-entry l = (take l.entry-index l.entries ≡ map (without_value l.released) (take l.entry-index l.initial.entries)) × (drop l.entry-index l.entries ≡ drop l.entry-index l.initial.entries)
