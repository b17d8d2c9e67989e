use Rattle.std.proofs.Common.{◌≡◌, ◌+◌, ◌*◌, max, map, drop}
use Rattle.std.specs.List.{list_any}
use Rattle.razor_rules.specs.Parts.{any_does}
use Rattle.razor_rules.specs.Templates.{part_of, part_of_section}
use Rattle.razor_parts.specs.Views.{home_of}
use Rattle.razor_parts.proofs.deeds.+deeds.Given as goal

-- none so far does it
abbrev pub invariant-any-loop-one : goal.invariant-any-loop-one
invariant-any-loop-one l = any_does (map (part_of (home_of l.home)) l.nodes) l.deed ≡ any_does (map (part_of (home_of l.home)) (drop l.one-index l.nodes)) l.deed

abbrev pub invariant-any_section-loop-one : goal.invariant-any_section-loop-one
invariant-any_section-loop-one l =
    list_any (λ one. one.does l.deed) (map (part_of_section (home_of l.home)) l.sections)
    ≡ list_any (λ one. one.does l.deed) (map (part_of_section (home_of l.home)) (drop l.one-index l.sections))

-- how deep the trees are, and who calls whom at one depth
abbrev pub decreases-node : goal.decreases-node
decreases-node l = 8 * goal.size-node l + 1

abbrev pub decreases-any : goal.decreases-any
decreases-any l = 8 * goal.size-any l + 2

abbrev pub decreases-branch : goal.decreases-branch
decreases-branch l = 8 * goal.size-branch l + 2

abbrev pub decreases-for_does : goal.decreases-for_does
decreases-for_does l = 8 * goal.size-for_does l + 2

abbrev pub decreases-loop_does : goal.decreases-loop_does
decreases-loop_does l = 8 * goal.size-loop_does l + 2

abbrev pub decreases-tag : goal.decreases-tag
decreases-tag l = 8 * goal.size-tag l + 3

abbrev pub decreases-section : goal.decreases-section
decreases-section l = 8 * goal.size-section l + 3

abbrev pub decreases-any_section : goal.decreases-any_section
decreases-any_section l = 8 * goal.size-any_section l + 4

abbrev pub decreases-sections_do : goal.decreases-sections_do
decreases-sections_do l = 8 * goal.size-sections_do l + 5

abbrev pub decreases-branches : goal.decreases-branches
decreases-branches l = 8 * max (goal.size-node (record { the-lifetimes = (l.the-lifetimes.0, (l.the-lifetimes.0, (l.the-lifetimes.0, (l.the-lifetimes.0, tt {0})))); home = l.home; deed = l.deed; one = l.yes })) (goal.size-branch (record { the-lifetimes = (l.the-lifetimes.0, (l.the-lifetimes.0, (l.the-lifetimes.0, (l.the-lifetimes.0, tt {0})))); home = l.home; deed = l.deed; one = l.no })) + 6
