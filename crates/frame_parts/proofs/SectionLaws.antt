-- Sections of a `switch`.
use Rattle.std.proofs.Common.{◌≡◌, List, map, ap, ◌∙◌}
use Rattle.cs_ast.specs.declared.scope.Scope.{Scope}
use Rattle.cs_ast.specs.declared.value.Value.{Value}
use Rattle.cs_meaning.specs.Sections.{Section, section}
use Rattle.drawing_meaning.specs.Acts.{Act}
use Rattle.frame_program.specs.Operations.{act_of, acts_of_section}
use Rattle.frame_program.specs.declared.operation.OperationSection.{OperationSection, out-OperationSection}
use Rattle.frame_program.proofs.OperationLaws as operations
use Rattle.razor_ast.specs.declared.node.TSection.{TSection, out-TSection}
use Rattle.razor_rules.specs.Scopes.{Home}
use Rattle.page_meaning.specs.Nodes.{section_acts as page_acts}
use Rattle.page_meaning.specs.Parts.{Part_of_switch, part_of}
use Rattle.frame_parts.specs.Nodes as spec
use Rattle.frame_parts.specs.Sections.{part_of_section}
use Rattle.frame_parts.specs.Steps.{Numbered, step}
use Rattle.frame_parts.proofs.NodeLaws.{section_step}
use Rattle.frame_parts.proofs.PartLaws.{section_parts}

pub section_law : (home : Home) (s : Scope) (one : TSection) (before : Numbered) →
    spec.section_of_part home s (part_of_section one) before ≡ spec.section home s (out-TSection one).labels (map part_of (out-TSection one).items) before
section_law home s one before =
    ap (λ (it : Part_of_switch). step (page_acts home s it.section) before) (section_parts one) ∙ section_step home s (out-TSection one).labels (map part_of (out-TSection one).items) before
