-- What a `switch` selects does not depend on what its operations do.
use Rattle.std.proofs.Common.{◌≡◌, List, [], ◌∷◌, map, refl, sym, ap, ◌∙◌}
use Rattle.std.specs.Prelude.{option_map}
use Rattle.cs_ast.specs.declared.value.Value.{Value}
use Rattle.cs_meaning.specs.Sections.{Section, section, selected}
use Rattle.cs_meaning.proofs.PartLemmas.{selected_over}
use Rattle.drawing_meaning.specs.Acts.{Act}
use Rattle.frame_program.specs.declared.operation.Operation.{Operation}
use Rattle.frame_program.specs.declared.operation.OperationSection.{OperationSection}
use Rattle.frame_program.specs.Operations.{act_of, acts_of_section}
use Rattle.frame_program.proofs.OperationLaws.{section_law}
use Rattle.frame_run.specs.Sections.{labels}

-- a section with what its operations do
abbrev acted : Section (List Operation) → Section (List Act)
acted it = section it.constants it.otherwise (map act_of it.statements)

all_acted : (sections : List OperationSection) → map acts_of_section sections ≡ map acted (map labels sections)
all_acted [] = refl
all_acted (one ∷ others) =
    ap (λ (it : Section (List Act)). it ∷ map acts_of_section others) (section_law one)
    ∙ ap (λ (l : List (Section (List Act))). acted (labels one) ∷ l) (all_acted others)

pub selected_acts : (x : Value) (sections : List OperationSection) → selected x (map acts_of_section sections) ≡ option_map (map act_of) (selected x (map labels sections))
selected_acts x sections = ap (selected x) (all_acted sections) ∙ selected_over (map act_of) x (map labels sections)
