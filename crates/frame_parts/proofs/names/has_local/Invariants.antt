use Rattle.std.proofs.Common.{◌≡◌, drop}
use Rattle.std.specs.Prelude.{◌&&◌, bytes_eq}
use Rattle.std.specs.List.{list_any}
use Rattle.cs_rules.specs.Names.{is_local}
use Rattle.frame_parts.proofs.names.has_local.Given as goal

abbrev pub invariant-loop-one : goal.invariant-loop-one
invariant-loop-one l = list_any (λ one. is_local one.kind && bytes_eq one.name l.name) l.names ≡ list_any (λ one. is_local one.kind && bytes_eq one.name l.name) (drop l.one-index l.names)
