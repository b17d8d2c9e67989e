use Rattle.std.proofs.Common.{◌≡◌, ◌+◌, ◌*◌, max, map, drop}
use Rattle.std.specs.Prelude.{◌&&◌, ◌||◌}
use Rattle.cs_accepted.specs.Leaves.{in_order, any_section, leaves, section_leaves}
use Rattle.razor_parts.proofs.leaves.+leaves.Given as goal

-- what leaves those so far, and the rest
abbrev pub invariant-in_order-loop-one : goal.invariant-in_order-loop-one
invariant-in_order-loop-one l =
    record {
      breaks : (l.breaks || (in_order (map leaves (drop l.one-index l.body))).breaks) ≡ (in_order (map leaves l.body)).breaks;
      ends : (l.ends && (in_order (map leaves (drop l.one-index l.body))).ends) ≡ (in_order (map leaves l.body)).ends;
    }

abbrev pub invariant-any_section-loop-section : goal.invariant-any_section-loop-section
invariant-any_section-loop-section l =
    record {
      breaks : (l.breaks || (any_section (map section_leaves (drop l.section-index l.all))).breaks) ≡ (any_section (map section_leaves l.all)).breaks;
      ends : (l.ends || (any_section (map section_leaves (drop l.section-index l.all))).ends) ≡ (any_section (map section_leaves l.all)).ends;
      default : (l.default || (any_section (map section_leaves (drop l.section-index l.all))).default) ≡ (any_section (map section_leaves l.all)).default;
    }

-- how deep the trees are, and who calls whom at one depth
abbrev pub decreases-leaves_of : goal.decreases-leaves_of
decreases-leaves_of l = 8 * goal.size-leaves_of l + 1

abbrev pub decreases-in_order : goal.decreases-in_order
decreases-in_order l = 8 * goal.size-in_order l + 2

abbrev pub decreases-looped : goal.decreases-looped
decreases-looped l = 8 * goal.size-looped l + 2

abbrev pub decreases-section_leaves : goal.decreases-section_leaves
decreases-section_leaves l = 8 * goal.size-section_leaves l + 3

abbrev pub decreases-any_section : goal.decreases-any_section
decreases-any_section l = 8 * goal.size-any_section l + 4

abbrev pub decreases-switched : goal.decreases-switched
decreases-switched l = 8 * goal.size-switched l + 5

abbrev pub decreases-branches : goal.decreases-branches
decreases-branches l = 8 * max (goal.size-leaves_of (record { the-lifetimes = (l.the-lifetimes.0, tt {0}); one = l.yes })) (goal.size-branches l) + 6

abbrev pub decreases-for_loop : goal.decreases-for_loop
decreases-for_loop l = 8 * max (goal.size-for_loop l) (goal.size-leaves_of (record { the-lifetimes = (l.the-lifetimes.0, tt {0}); one = l.body })) + 6
