use Rattle.std.proofs.Common.{◌≡◌, map, drop}
use Rattle.standing_alone.specs.Tags.{any_of, has_tag, section_has_tag}
use Rattle.standing_alone.proofs.tags.+tags.Given as goal

-- none of those so far has one
abbrev pub invariant-any_section-loop-section : goal.invariant-any_section-loop-section
invariant-any_section-loop-section l = any_of (map section_has_tag (drop l.section-index l.sections)) ≡ any_of (map section_has_tag l.sections)

abbrev pub invariant-any_tag-loop-node : goal.invariant-any_tag-loop-node
invariant-any_tag-loop-node l = any_of (map has_tag (drop l.node-index l.nodes)) ≡ any_of (map has_tag l.nodes)
