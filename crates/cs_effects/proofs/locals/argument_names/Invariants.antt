use Rattle.std.proofs.Common.{◌≡◌, map, take}
use Rattle.cs_effects.proofs.locals.argument_names.Given as goal

-- the names so far
abbrev pub invariant-loop-one : goal.invariant-loop-one
invariant-loop-one l = l.names ≡ map (λ one. one.name.name) (take l.one-index l.arguments)
