use Rattle.std.proofs.Common.{◌≡◌, map, take}
use Rattle.cs_rules.specs.Written.{type_of}
use Rattle.cs_forms.proofs.written.part_types.Given as goal

-- the types of the parts so far
abbrev pub invariant-loop-part : goal.invariant-loop-part
invariant-loop-part l = l.types ≡ map (λ part. type_of part.cs_type) (take l.part-index l.parts)
