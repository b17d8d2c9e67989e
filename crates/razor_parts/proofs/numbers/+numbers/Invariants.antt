use Rattle.std.proofs.Common.{◌≡◌, ◌+◌, ◌*◌, max, map, take}
use Rattle.std.specs.Prelude.{sum}
use Rattle.razor_rules.specs.Numbers.{numbers_of, numbers_of_section}
use Rattle.razor_parts.proofs.numbers.+numbers.Given as goal

-- the numbers so far
abbrev pub invariant-of_nodes-loop-one : goal.invariant-of_nodes-loop-one
invariant-of_nodes-loop-one l = l.all ≡ sum (map numbers_of (take l.one-index l.nodes))

abbrev pub invariant-of_sections-loop-section : goal.invariant-of_sections-loop-section
invariant-of_sections-loop-section l = l.sum ≡ sum (map numbers_of_section (take l.section-index l.all))

-- how deep the trees are, and who calls whom at one depth
abbrev pub decreases-of_node : goal.decreases-of_node
decreases-of_node l = 8 * goal.size-of_node l + 1

abbrev pub decreases-of_nodes : goal.decreases-of_nodes
decreases-of_nodes l = 8 * goal.size-of_nodes l + 2

abbrev pub decreases-of_loop : goal.decreases-of_loop
decreases-of_loop l = 8 * goal.size-of_loop l + 2

abbrev pub decreases-of_branch : goal.decreases-of_branch
decreases-of_branch l = 8 * goal.size-of_branch l + 2

abbrev pub decreases-of_tag : goal.decreases-of_tag
decreases-of_tag l = 8 * goal.size-of_tag l + 3

abbrev pub decreases-of_section : goal.decreases-of_section
decreases-of_section l = 8 * goal.size-of_section l + 3

abbrev pub decreases-of_sections : goal.decreases-of_sections
decreases-of_sections l = 8 * goal.size-of_sections l + 4

abbrev pub decreases-of_branches : goal.decreases-of_branches
decreases-of_branches l = 8 * max (goal.size-of_node (record { the-lifetimes = (l.the-lifetimes.0, tt {0}); node = l.yes })) (goal.size-of_branch (record { the-lifetimes = (l.the-lifetimes.0, tt {0}); one = l.no })) + 6
