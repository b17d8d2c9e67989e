use Rattle.std.proofs.Common.{◌≡◌, take}
use Rattle.cs_forms.proofs.types.copy_types.Given as goal

-- the types so far are copied
abbrev pub invariant-loop-cs_type : goal.invariant-loop-cs_type
invariant-loop-cs_type l = l.copied ≡ take l.cs_type-index l.types
