use Rattle.std.proofs.Common.{◌≡◌, drop}
use Rattle.std.specs.List.{list_any}
use Rattle.cs_meaning.specs.Equality.{is_same}
use Rattle.frame_run.proofs.sections.is_among.Given as goal

-- none so far is the value
abbrev pub invariant-loop-constant : goal.invariant-loop-constant
invariant-loop-constant l = list_any (is_same l.value) l.constants ≡ list_any (is_same l.value) (drop l.constant-index l.constants)
