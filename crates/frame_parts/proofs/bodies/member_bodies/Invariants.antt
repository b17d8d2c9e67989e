use Rattle.std.proofs.Common.{◌≡◌, drop}
use Rattle.frame_parts.specs.Methods.{member_bodies}
use Rattle.frame_parts.specs.Views.{home_in, numbered}
use Rattle.frame_parts.proofs.bodies.member_bodies.Given as goal

abbrev pub invariant-loop-one : goal.invariant-loop-one
invariant-loop-one l = member_bodies (home_in l.site) l.site.home.first l.site.home.members.now (numbered l.fn.making) ≡ member_bodies (home_in l.site) l.number (drop l.one-index l.site.home.members.now) (numbered l.making)
