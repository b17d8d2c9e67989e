-- The equations of templates: what a node makes by what its parts make.
use Rattle.std.proofs.Common.{◌≡◌}
use Rattle.razor_ast.specs.declared.node.TNode.{TNode, TNode-F, roll-TNode}
use Rattle.razor_ast.specs.declared.node.TSection.{TSection}
use Rattle.razor_ast.specs.declared.node.TNode.TheFolds.{fold-roll-TNode, fold-TSection, map-TNode}
use Rattle.page_meaning.specs.Nodes.{section_of}
use Rattle.page_meaning.specs.Parts.{Part, Part_of_switch, part, part_of, any_does, in_order}

-- a section of a `switch`
pub section_part : TSection → Part_of_switch
section_part = fold-TSection Part Part_of_switch part (λ section. record { does = any_does section.items; section = section_of section.labels (in_order section.items) })

pub part_law : (x : TNode-F TNode TSection) → part_of (roll-TNode x) ≡ part (map-TNode TNode TSection Part Part_of_switch part_of section_part x)
unfolding part_of section_part
part_law x =
    fold-roll-TNode Part Part_of_switch part (λ section. record { does = any_does section.items; section = section_of section.labels (in_order section.items) }) x
