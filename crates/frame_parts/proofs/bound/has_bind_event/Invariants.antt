use Rattle.std.proofs.Common.{◌≡◌, drop}
use Rattle.std.specs.List.{list_any}
use Rattle.razor_rules.specs.Elements.{is_bind_event}
use Rattle.frame_parts.proofs.bound.has_bind_event.Given as goal

abbrev pub invariant-loop-one : goal.invariant-loop-one
invariant-loop-one l = list_any (λ one. is_bind_event one.kind) l.attributes ≡ list_any (λ one. is_bind_event one.kind) (drop l.one-index l.attributes)
