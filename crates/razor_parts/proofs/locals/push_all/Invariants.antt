use Rattle.std.proofs.Common.{◌≡◌, drop, take, length}
use Rattle.razor_rules.specs.Scopes.{with_locals}
use Rattle.razor_parts.proofs.locals.push_all.Given as goal

-- behind those so far
abbrev pub invariant-loop-one : goal.invariant-loop-one
invariant-loop-one l =
    record {
      behind : with_locals l.arguments l.fn.scope ≡ with_locals (drop l.one-index l.arguments) l.scope;
      kept : take (length l.fn.scope.names) l.scope.names ≡ l.fn.scope.names;
      rest : l.scope ≡ record l.fn.scope { names = l.scope.names };
    }
