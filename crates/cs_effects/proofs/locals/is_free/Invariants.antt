use Rattle.std.proofs.Common.{◌≡◌, drop}
use Rattle.std.specs.Prelude.{bytes_eq}
use Rattle.std.specs.List.{list_any}
use Rattle.cs_effects.proofs.locals.is_free.Given as goal

-- none so far has the name
abbrev pub invariant-loop-one : goal.invariant-loop-one
invariant-loop-one l = list_any (λ one. bytes_eq one l.name) l.locals ≡ list_any (λ one. bytes_eq one l.name) (drop l.one-index l.locals)
