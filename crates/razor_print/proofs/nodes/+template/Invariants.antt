use Rattle.std.proofs.Common.{◌≡◌, ◌+◌, ◌*◌, ◌++◌, max, map, take}
use Rattle.std.specs.List.{flat_map}
use Rattle.razor_print.specs.declared.before.Before.TheVariants as b
use Rattle.razor_print.specs.Parts.{parts_text}
use Rattle.razor_print.specs.Nodes.{node, section_parts, content_from}
use Rattle.razor_print.specs.Components.{behind_all}
use Rattle.razor_print.proofs.nodes.+template.Given as goal

abbrev pub invariant-push_content-loop-node : goal.invariant-push_content-loop-node
invariant-push_content-loop-node l = record {
  written : l.out ≡ l.initial.out ++ parts_text (content_from b.Other (map node (take l.node-index l.nodes)));
  left : l.before ≡ behind_all b.Other (map node (take l.node-index l.nodes));
}

abbrev pub invariant-push_lines-loop-item : goal.invariant-push_lines-loop-item
invariant-push_lines-loop-item l = l.out ≡ l.initial.out ++ flat_map (λ x. parts_text (node x).code) (take l.item-index l.items)

abbrev pub invariant-push_sections-loop-section : goal.invariant-push_sections-loop-section
invariant-push_sections-loop-section l = l.out ≡ l.initial.out ++ flat_map (λ x. parts_text (section_parts x)) (take l.section-index l.sections)

-- how deep the trees are, and who calls whom at one depth
abbrev pub decreases-push_in_code : goal.decreases-push_in_code
decreases-push_in_code l = 16 * goal.size-push_in_code l + 0

abbrev pub decreases-push_at_code : goal.decreases-push_at_code
decreases-push_at_code l = 16 * goal.size-push_at_code l + 1

abbrev pub decreases-push_in_content : goal.decreases-push_in_content
decreases-push_in_content l = 16 * goal.size-push_in_content l + 2

abbrev pub decreases-push_item : goal.decreases-push_item
decreases-push_item l = 16 * goal.size-push_item l + 3

abbrev pub decreases-push_content : goal.decreases-push_content
decreases-push_content l = 16 * goal.size-push_content l + 4

abbrev pub decreases-push_lines : goal.decreases-push_lines
decreases-push_lines l = 16 * goal.size-push_lines l + 4

abbrev pub decreases-push_group : goal.decreases-push_group
decreases-push_group l = 16 * goal.size-push_group l + 5

abbrev pub decreases-push_block : goal.decreases-push_block
decreases-push_block l = 16 * goal.size-push_block l + 5

abbrev pub decreases-push_otherwise : goal.decreases-push_otherwise
decreases-push_otherwise l = 16 * goal.size-push_otherwise l + 3

abbrev pub decreases-push_section : goal.decreases-push_section
decreases-push_section l = 16 * goal.size-push_section l + 5

abbrev pub decreases-push_sections : goal.decreases-push_sections
decreases-push_sections l = 16 * goal.size-push_sections l + 6

abbrev pub decreases-push_inside : goal.decreases-push_inside
decreases-push_inside l = 16 * (goal.size-push_content (record { the-lifetimes = (l.the-lifetimes.0, (l.the-lifetimes.0, tt {0})); alloc = l.alloc; out = l.out; nodes = l.children })) + 5

abbrev pub decreases-push_tag : goal.decreases-push_tag
decreases-push_tag l = 16 * (goal.size-push_content (record { the-lifetimes = (l.the-lifetimes.0, (l.the-lifetimes.0, tt {0})); alloc = l.alloc; out = l.out; nodes = l.children })) + 6

abbrev pub decreases-push_if : goal.decreases-push_if
decreases-push_if l = 16 * (max (goal.size-push_in_code (record { the-lifetimes = (l.the-lifetimes.0, (l.the-lifetimes.0, tt {0})); alloc = l.alloc; out = l.out; node = l.yes })) (goal.size-push_otherwise (record { the-lifetimes = (l.the-lifetimes.0, (l.the-lifetimes.0, tt {0})); alloc = l.alloc; out = l.out; no = l.no }))) + 8

abbrev pub decreases-push_switch : goal.decreases-push_switch
decreases-push_switch l = 16 * (goal.size-push_sections (record { the-lifetimes = (l.the-lifetimes.0, (l.the-lifetimes.0, tt {0})); alloc = l.alloc; out = l.out; sections = l.sections })) + 8

abbrev pub decreases-push_for : goal.decreases-push_for
decreases-push_for l = 16 * (goal.size-push_in_code (record { the-lifetimes = (l.the-lifetimes.0, (l.the-lifetimes.0, tt {0})); alloc = l.alloc; out = l.out; node = l.body })) + 8

abbrev pub decreases-push_foreach : goal.decreases-push_foreach
decreases-push_foreach l = 16 * (goal.size-push_in_code (record { the-lifetimes = (l.the-lifetimes.0, (l.the-lifetimes.0, tt {0})); alloc = l.alloc; out = l.out; node = l.body })) + 8

abbrev pub decreases-push_while : goal.decreases-push_while
decreases-push_while l = 16 * (goal.size-push_in_code (record { the-lifetimes = (l.the-lifetimes.0, (l.the-lifetimes.0, tt {0})); alloc = l.alloc; out = l.out; node = l.body })) + 8
