use Rattle.std.proofs.Common.{◌≡◌, map, drop}
use Rattle.cs_rules.specs.Judged.{each}
use Rattle.cs_forms.proofs.FrontLemmas.{with_front}
use Rattle.frame_program.specs.Operations as operations
use Rattle.frame_parts.specs.Attributes.{said_by}
use Rattle.frame_parts.proofs.attributes.all_said.Given as goal

abbrev pub invariant-loop-part : goal.invariant-loop-part
invariant-loop-part l = each (said_by l.scope) l.parts ≡ with_front (map operations.said_by l.all) (each (said_by l.scope) (drop l.part-index l.parts))
