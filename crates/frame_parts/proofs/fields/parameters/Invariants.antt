use Rattle.std.proofs.Common.{◌≡◌, drop}
use Rattle.frame_parts.specs.Components.{declared, parameter_in}
use Rattle.frame_parts.specs.Views.{home_in}
use Rattle.frame_parts.proofs.FrontLemmas.{judged_front}
use Rattle.frame_parts.proofs.fields.parameters.Given as goal

abbrev pub invariant-loop-one : goal.invariant-loop-one
invariant-loop-one l = declared (parameter_in (home_in l.site)) l.site.home.members.now ≡ judged_front l.all (declared (parameter_in (home_in l.site)) (drop l.one-index l.site.home.members.now))
