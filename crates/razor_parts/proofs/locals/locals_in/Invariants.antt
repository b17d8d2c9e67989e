use Rattle.std.proofs.Common.{◌≡◌, ◌+◌, drop}
use Rattle.cs_rules.specs.Names.{locals_in}
use Rattle.razor_parts.proofs.locals.locals_in.Given as goal

-- the locals so far are counted
abbrev pub invariant-loop-one : goal.invariant-loop-one
invariant-loop-one l = l.count + locals_in (drop l.one-index l.all) ≡ locals_in l.all
