use Rattle.std.proofs.Common.{◌≡◌, ◌++◌, length}
use Rattle.std.specs.Prelude.{◌&&◌, ◌||◌}
use Rattle.razor_rules.specs.Members.{numbered_effects}
use Rattle.razor_rules.specs.Restrictions.{with_effect}
use Rattle.razor_parts.proofs.bodies.bodies.Given as goal

-- the numbers so far, and those of the rest
abbrev pub invariant-loop-member : goal.invariant-loop-member
invariant-loop-member l =
    with_effect (λ one. (l.changing && one.changes) || one.invokes) (numbered_effects l.first l.members l.effects)
    ≡ l.numbers ++ with_effect (λ one. (l.changing && one.changes) || one.invokes) (numbered_effects l.number l.others l.rest)

abbrev pub decreases-loop-member : goal.decreases-loop-member
decreases-loop-member l = length l.others
