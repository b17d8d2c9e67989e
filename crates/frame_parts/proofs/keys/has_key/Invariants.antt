use Rattle.std.proofs.Common.{◌≡◌, drop}
use Rattle.std.specs.List.{list_any}
use Rattle.page_meaning.specs.Parts.{is_key}
use Rattle.frame_parts.proofs.keys.has_key.Given as goal

abbrev pub invariant-loop-one : goal.invariant-loop-one
invariant-loop-one l = list_any (λ one. is_key one.kind) l.attributes ≡ list_any (λ one. is_key one.kind) (drop l.one-index l.attributes)
