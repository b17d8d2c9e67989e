use Rattle.std.proofs.Common.{◌≡◌, ◌+◌, ◌*◌, max, map, take, drop, length}
use Rattle.std.specs.Option.{option_copied}
use Rattle.frame_program.specs.Operations.{act_of, acts_of_section, given_by}
use Rattle.page_meaning.specs.Parts.{part_of}
use Rattle.razor_parts.specs.Views.{tagged_view}
use Rattle.frame_parts.specs.Nodes.{sections}
use Rattle.frame_parts.specs.Order.{in_order}
use Rattle.frame_parts.specs.Sections.{part_of_section}
use Rattle.frame_parts.specs.Steps.{in_front}
use Rattle.frame_parts.specs.Tags.{tag_gifts}
use Rattle.frame_parts.specs.Views.{home_in, numbered, target_view}
use Rattle.frame_compiler.proofs.+nodes.Given as goal

abbrev pub invariant-sequences::in_order-loop-one : goal.invariant-sequences::in_order-loop-one
invariant-sequences::in_order-loop-one l =
    record {
      kept : take (length l.fn.scope.names) l.scope.names ≡ l.fn.scope.names;
      rest : l.scope ≡ record l.fn.scope { names = l.scope.names };
      made : in_order (home_in l.site) (map part_of l.nodes) l.fn.scope (numbered l.fn.making)
          ≡ in_front (map act_of l.all) (in_order (home_in l.site) (map part_of (drop l.one-index l.nodes)) l.scope (numbered l.making));
    }

abbrev pub invariant-branches::sections-loop-one : goal.invariant-branches::sections-loop-one
invariant-branches::sections-loop-one l =
    record {
      same : l.scope ≡ l.fn.scope;
      made : sections (home_in l.site) l.fn.scope (map part_of_section l.sections) (numbered l.fn.making)
          ≡ in_front (map acts_of_section l.all) (sections (home_in l.site) l.fn.scope (map part_of_section (drop l.one-index l.sections)) (numbered l.making));
    }

abbrev pub invariant-tags::tag_gifts-loop-one : goal.invariant-tags::tag_gifts-loop-one
invariant-tags::tag_gifts-loop-one l =
    tag_gifts (tagged_view l.site.home.records.now l.around) (target_view l.target) (home_in l.site) l.scope (option_copied l.outer) (map part_of l.nodes) (numbered l.fn.making)
    ≡ in_front (map given_by l.parts)
    (tag_gifts (tagged_view l.site.home.records.now l.around) (target_view l.target) (home_in l.site) l.scope (option_copied l.outer) (map part_of (drop l.one-index l.nodes)) (numbered l.making))

abbrev pub decreases-nodes::node : goal.decreases-nodes::node
decreases-nodes::node l = 16 * goal.size-nodes::node l + 1

abbrev pub decreases-sequences::in_order : goal.decreases-sequences::in_order
decreases-sequences::in_order l = 16 * goal.size-sequences::in_order l + 2

abbrev pub decreases-sequences::enclosed : goal.decreases-sequences::enclosed
decreases-sequences::enclosed l = 16 * goal.size-sequences::enclosed l + 3

abbrev pub decreases-branches::or_nothing : goal.decreases-branches::or_nothing
decreases-branches::or_nothing l = 16 * goal.size-branches::or_nothing l + 2

abbrev pub decreases-sequences::block : goal.decreases-sequences::block
decreases-sequences::block l = 16 * goal.size-sequences::block l + 4

abbrev pub decreases-nodes::element : goal.decreases-nodes::element
decreases-nodes::element l = 16 * goal.size-nodes::element l + 4

abbrev pub decreases-branches::section : goal.decreases-branches::section
decreases-branches::section l = 16 * goal.size-branches::section l + 5

abbrev pub decreases-branches::sections : goal.decreases-branches::sections
decreases-branches::sections l = 16 * goal.size-branches::sections l + 6

abbrev pub decreases-branches::switch : goal.decreases-branches::switch
decreases-branches::switch l = 16 * goal.size-branches::switch l + 7

abbrev pub decreases-loops::while_loop : goal.decreases-loops::while_loop
decreases-loops::while_loop l = 16 * goal.size-loops::while_loop l + 3

abbrev pub decreases-loops::for_loop : goal.decreases-loops::for_loop
decreases-loops::for_loop l = 16 * goal.size-loops::for_loop l + 3

abbrev pub decreases-loops::for_each : goal.decreases-loops::for_each
decreases-loops::for_each l = 16 * goal.size-loops::for_each l + 3

abbrev pub decreases-fragments::template : goal.decreases-fragments::template
decreases-fragments::template l = 16 * goal.size-fragments::template l + 3

abbrev pub decreases-fragments::gift_of : goal.decreases-fragments::gift_of
decreases-fragments::gift_of l = 16 * goal.size-fragments::gift_of l + 4

abbrev pub decreases-fragments::one_gift : goal.decreases-fragments::one_gift
decreases-fragments::one_gift l = 16 * goal.size-fragments::one_gift l + 5

abbrev pub decreases-fragments::loose_gift : goal.decreases-fragments::loose_gift
decreases-fragments::loose_gift l = 16 * goal.size-fragments::loose_gift l + 6

abbrev pub decreases-tags::tag_gift : goal.decreases-tags::tag_gift
decreases-tags::tag_gift l = 16 * goal.size-tags::tag_gift l + 2

abbrev pub decreases-tags::part_gift : goal.decreases-tags::part_gift
decreases-tags::part_gift l = 16 * goal.size-tags::part_gift l + 3

abbrev pub decreases-tags::tag_gifts : goal.decreases-tags::tag_gifts
decreases-tags::tag_gifts l = 16 * goal.size-tags::tag_gifts l + 4

abbrev pub decreases-tags::gifts_inside : goal.decreases-tags::gifts_inside
decreases-tags::gifts_inside l = 16 * goal.size-tags::gifts_inside l + 7

abbrev pub decreases-tags::all_gifts : goal.decreases-tags::all_gifts
decreases-tags::all_gifts l = 16 * goal.size-tags::all_gifts l + 8

abbrev pub decreases-tags::component : goal.decreases-tags::component
decreases-tags::component l = 16 * goal.size-tags::component l + 9

abbrev pub decreases-branches::branch : goal.decreases-branches::branch
decreases-branches::branch l = 16 * max (goal.size-nodes::node (record { the-lifetimes = (l.the-lifetimes.0, (l.the-lifetimes.0, (l.the-lifetimes.0, (l.the-lifetimes.0, (l.the-lifetimes.0, tt {0}))))); site = l.site; one = l.yes; scope = l.scope; making = l.making })) (goal.size-branches::or_nothing (record { the-lifetimes = (l.the-lifetimes.0, (l.the-lifetimes.0, (l.the-lifetimes.0, (l.the-lifetimes.0, (l.the-lifetimes.0, tt {0}))))); site = l.site; one = l.no; scope = l.scope; making = l.making })) + 8

abbrev pub decreases-branches::labelled : goal.decreases-branches::labelled
decreases-branches::labelled l = 16 * goal.size-branches::labelled l + 4
