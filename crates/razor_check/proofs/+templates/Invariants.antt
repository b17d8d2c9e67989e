use Rattle.std.proofs.Common.{◌≡◌, ◌+◌, ◌*◌, max, drop, map}
use Rattle.std.specs.List.{flat_map}
use Rattle.std.specs.Option.{option_copied}
use Rattle.razor_rules.specs.Findings.{also}
use Rattle.razor_rules.specs.Parts.{in_order}
use Rattle.razor_rules.specs.Tags.{counted, tags_rules}
use Rattle.razor_rules.specs.Templates.{part_of, part_of_section}
use Rattle.razor_parts.specs.Views.{home_of, tagged_view}
use Rattle.razor_check.specs.Going.{Kept}
use Rattle.razor_check.proofs.+templates.Given as goal

-- what was found so far, and what is found in the rest, behind what was declared
abbrev pub invariant-templates::nodes_rules-loop-one : goal.invariant-templates::nodes_rules-loop-one
invariant-templates::nodes_rules-loop-one l =
    record {
      at : l.at ≡ l.one-index;
      kept : Kept l.fn.g l.g;
      does : also l.fn.found.first (in_order (map (part_of (home_of l.home)) l.nodes) l.fn.g)
          ≡ also l.found.first (in_order (map (part_of (home_of l.home)) (drop l.one-index l.nodes)) l.g);
    }

abbrev pub invariant-templates::sections_rules-loop-section : goal.invariant-templates::sections_rules-loop-section
invariant-templates::sections_rules-loop-section l =
    record {
      same : l.g ≡ l.fn.g;
      does : also l.fn.found.first (flat_map (λ one. one.rules l.given l.fn.g) (map (part_of_section (home_of l.home)) l.sections))
          ≡ also l.found.first (flat_map (λ one. one.rules l.given l.fn.g) (map (part_of_section (home_of l.home)) (drop l.section-index l.sections)));
    }

abbrev pub invariant-components::tags_rules-loop-one : goal.invariant-components::tags_rules-loop-one
invariant-components::tags_rules-loop-one l =
    record {
      same : l.g ≡ l.fn.g;
      does : also l.fn.found.first (tags_rules (tagged_view l.home.records.now l.around) (counted (map (part_of (home_of l.home)) l.nodes)) l.fn.g (option_copied l.outer))
          ≡ also l.found.first (tags_rules (tagged_view l.home.records.now l.around) (counted (map (part_of (home_of l.home)) (drop l.one-index l.nodes))) l.fn.g (option_copied l.outer));
    }

-- how deep the trees are, and who calls whom at one depth
abbrev pub decreases-templates::node_rules : goal.decreases-templates::node_rules
decreases-templates::node_rules l = 8 * goal.size-templates::node_rules l + 1

abbrev pub decreases-templates::nodes_rules : goal.decreases-templates::nodes_rules
decreases-templates::nodes_rules l = 8 * goal.size-templates::nodes_rules l + 2

abbrev pub decreases-templates::turn : goal.decreases-templates::turn
decreases-templates::turn l = 8 * goal.size-templates::turn l + 2

abbrev pub decreases-components::inside : goal.decreases-components::inside
decreases-components::inside l = 8 * goal.size-components::inside l + 2

abbrev pub decreases-templates::branch : goal.decreases-templates::branch
decreases-templates::branch l = 8 * goal.size-templates::branch l + 2

abbrev pub decreases-components::as_fragment : goal.decreases-components::as_fragment
decreases-components::as_fragment l = 8 * goal.size-components::as_fragment l + 2

abbrev pub decreases-components::fragment_rules : goal.decreases-components::fragment_rules
decreases-components::fragment_rules l = 8 * goal.size-components::fragment_rules l + 4

abbrev pub decreases-components::by_tag : goal.decreases-components::by_tag
decreases-components::by_tag l = 8 * goal.size-components::by_tag l + 3

abbrev pub decreases-templates::section_rules : goal.decreases-templates::section_rules
decreases-templates::section_rules l = 8 * goal.size-templates::section_rules l + 3

abbrev pub decreases-templates::for_rules : goal.decreases-templates::for_rules
decreases-templates::for_rules l = 8 * goal.size-templates::for_rules l + 3

abbrev pub decreases-templates::for_each_rules : goal.decreases-templates::for_each_rules
decreases-templates::for_each_rules l = 8 * goal.size-templates::for_each_rules l + 3

abbrev pub decreases-templates::element : goal.decreases-templates::element
decreases-templates::element l = 8 * goal.size-templates::element l + 3

abbrev pub decreases-components::fragment_tag : goal.decreases-components::fragment_tag
decreases-components::fragment_tag l = 8 * goal.size-components::fragment_tag l + 5

abbrev pub decreases-components::loose_rules : goal.decreases-components::loose_rules
decreases-components::loose_rules l = 8 * goal.size-components::loose_rules l + 5

abbrev pub decreases-components::tags_rules : goal.decreases-components::tags_rules
decreases-components::tags_rules l = 8 * goal.size-components::tags_rules l + 4

abbrev pub decreases-templates::sections_rules : goal.decreases-templates::sections_rules
decreases-templates::sections_rules l = 8 * goal.size-templates::sections_rules l + 4

abbrev pub decreases-templates::switch_rules : goal.decreases-templates::switch_rules
decreases-templates::switch_rules l = 8 * goal.size-templates::switch_rules l + 5

abbrev pub decreases-components::shaped_rules : goal.decreases-components::shaped_rules
decreases-components::shaped_rules l = 8 * goal.size-components::shaped_rules l + 6

abbrev pub decreases-components::tag_rules : goal.decreases-components::tag_rules
decreases-components::tag_rules l = 8 * goal.size-components::tag_rules l + 7

abbrev pub decreases-components::component_rules : goal.decreases-components::component_rules
decreases-components::component_rules l = 8 * goal.size-components::component_rules l + 8

abbrev pub decreases-templates::while_rules : goal.decreases-templates::while_rules
decreases-templates::while_rules l = 8 * goal.size-templates::while_rules l + 3

abbrev pub decreases-templates::if_rules : goal.decreases-templates::if_rules
decreases-templates::if_rules l = 8 * max (goal.size-templates::node_rules (record { the-lifetimes = (l.the-lifetimes.0, (l.the-lifetimes.0, (l.the-lifetimes.0, (l.the-lifetimes.0, (l.the-lifetimes.0, tt {0}))))); home = l.home; g = l.g; one = l.yes; found = l.found })) (goal.size-templates::branch (record { the-lifetimes = (l.the-lifetimes.0, (l.the-lifetimes.0, (l.the-lifetimes.0, (l.the-lifetimes.0, (l.the-lifetimes.0, tt {0}))))); home = l.home; g = l.g; one = l.no; found = l.found })) + 6

abbrev pub decreases-components::argued_rules : goal.decreases-components::argued_rules
decreases-components::argued_rules l = 8 * goal.size-components::argued_rules l + 3
