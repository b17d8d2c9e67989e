use Rattle.std.proofs.Common.{◌≡◌, ◌++◌, drop}
use Rattle.std.specs.List.{flat_map}
use Rattle.page_meaning.specs.Nodes.{constant_of}
use Rattle.frame_parts.proofs.forms.constants.Given as goal

abbrev pub invariant-loop-one : goal.invariant-loop-one
invariant-loop-one l = flat_map (λ one. constant_of one.kind) l.labels ≡ l.all ++ flat_map (λ one. constant_of one.kind) (drop l.one-index l.labels)
