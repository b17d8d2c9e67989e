use Rattle.std.proofs.Common.{◌≡◌, ◌++◌, drop}
use Rattle.std.specs.Prelude.{filter}
use Rattle.frame_parts.specs.Uses.{is_used}
use Rattle.frame_parts.proofs.captures.used.Given as goal

abbrev pub invariant-loop-one : goal.invariant-loop-one
invariant-loop-one l = filter (is_used l.user) l.scope.names ≡ l.all ++ filter (is_used l.user) (drop l.one-index l.scope.names)
