use Rattle.std.proofs.Common.{◌≡◌, drop}
use Rattle.frame_parts.specs.Components.{declared, field_in}
use Rattle.frame_parts.specs.Views.{home_in}
use Rattle.frame_parts.proofs.FrontLemmas.{judged_front}
use Rattle.frame_parts.proofs.fields.fields.Given as goal

abbrev pub invariant-loop-one : goal.invariant-loop-one
invariant-loop-one l = declared (field_in (home_in l.site)) l.site.home.members.now ≡ judged_front l.all (declared (field_in (home_in l.site)) (drop l.one-index l.site.home.members.now))
