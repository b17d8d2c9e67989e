use Rattle.std.proofs.Common.{◌≡◌, drop}
use Rattle.page_meaning.specs.Tags.{given_in}
use Rattle.frame_parts.proofs.targets.given_in.Given as goal

abbrev pub invariant-loop-one : goal.invariant-loop-one
invariant-loop-one l = given_in l.attributes l.name ≡ given_in (drop l.one-index l.attributes) l.name
