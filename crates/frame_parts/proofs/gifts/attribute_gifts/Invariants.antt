use Rattle.std.proofs.Common.{◌≡◌, map, drop}
use Rattle.frame_program.specs.Operations.{given_by}
use Rattle.frame_parts.specs.Tags.{attribute_gifts}
use Rattle.frame_parts.specs.Steps.{in_front}
use Rattle.frame_parts.specs.Views.{home_in, numbered, target_view}
use Rattle.frame_parts.proofs.gifts.attribute_gifts.Given as goal

abbrev pub invariant-loop-one : goal.invariant-loop-one
invariant-loop-one l =
    attribute_gifts (home_in l.site) l.scope (target_view l.target) l.attributes (numbered l.fn.making)
    ≡ in_front (map given_by l.parts) (attribute_gifts (home_in l.site) l.scope (target_view l.target) (drop l.one-index l.attributes) (numbered l.making))
