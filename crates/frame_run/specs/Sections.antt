-- Sections of operations, opened.
use Rattle.std.specs.Prelude.{List}
use Rattle.cs_meaning.specs.Sections.{Section, section}
use Rattle.frame_program.specs.declared.operation.Operation.{Operation}
use Rattle.frame_program.specs.declared.operation.OperationSection.{OperationSection, out-OperationSection}

-- what a section says
abbrev pub labels : OperationSection → Section (List Operation)
labels one = section (out-OperationSection one).constants (out-OperationSection one).otherwise (out-OperationSection one).operations
