-- Sections of a `switch`.
use Rattle.razor_ast.specs.declared.node.TNode.TheFolds.{fold-TSection}
use Rattle.razor_ast.specs.declared.node.TSection.{TSection}
use Rattle.page_meaning.specs.Nodes.{section_of}
use Rattle.page_meaning.specs.Parts.{Part, Part_of_switch, part, any_does, in_order}

-- a section of a `switch`, by its parts
unfoldable pub part_of_section : TSection → Part_of_switch
part_of_section = fold-TSection Part Part_of_switch part (λ section. record { does = any_does section.items; section = section_of section.labels (in_order section.items) })
