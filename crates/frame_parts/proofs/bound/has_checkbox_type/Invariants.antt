use Rattle.std.proofs.Common.{◌≡◌, drop}
use Rattle.std.specs.Prelude.{◌&&◌, bytes_eq, codes}
use Rattle.std.specs.List.{list_any}
use Rattle.razor_rules.specs.Elements.{is_literal}
use Rattle.frame_parts.proofs.bound.has_checkbox_type.Given as goal

abbrev pub invariant-loop-one : goal.invariant-loop-one
invariant-loop-one l =
    list_any (λ one. bytes_eq one.name (codes "type") && is_literal (codes "checkbox") one.kind) l.attributes
    ≡ list_any (λ one. bytes_eq one.name (codes "type") && is_literal (codes "checkbox") one.kind) (drop l.one-index l.attributes)
