use Rattle.std.proofs.Common.{◌≡◌, map, drop}
use Rattle.frame_program.specs.Operations.{dressed_by}
use Rattle.frame_parts.specs.Attributes.{dressed}
use Rattle.frame_parts.specs.Steps.{in_front}
use Rattle.frame_parts.specs.Views.{home_in, numbered}
use Rattle.frame_parts.proofs.attributes.dressed.Given as goal

abbrev pub invariant-loop-one : goal.invariant-loop-one
invariant-loop-one l =
    dressed (home_in l.site) l.scope l.element l.attributes l.attributes (numbered l.fn.making)
    ≡ in_front (map dressed_by l.parts) (dressed (home_in l.site) l.scope l.element l.attributes (drop l.one-index l.attributes) (numbered l.making))
