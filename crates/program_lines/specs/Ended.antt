-- The line about the fault that ends a rendering.
use Rattle.std.specs.Prelude.{ℕ, List, ◌++◌, codes}
use Rattle.cs_meaning.specs.declared.fault.Fault.{Fault}
use Rattle.cs_meaning.specs.declared.fault.Fault.TheVariants as code
use Rattle.drawing_meaning.specs.declared.fault.PageFault.{PageFault}
use Rattle.drawing_meaning.specs.declared.fault.PageFault.TheVariants as fault

-- want of memory ends no rendering: no line is written of it
abbrev pub code_fault_name : Fault → List ℕ
code_fault_name code.DivideByZero = codes "DivideByZero"
code_fault_name code.Overflow = codes "Overflow"
code_fault_name code.NullUse = codes "NullUse"
code_fault_name code.IndexOutOfRange = codes "IndexOutOfRange"
code_fault_name code.FuelSpent = codes "FuelSpent"
code_fault_name code.CallDepth = codes "CallDepth"
code_fault_name code.ValueTooLarge = codes "ValueTooLarge"
code_fault_name code.Oom = codes "Memory"

abbrev pub fault_name : PageFault → List ℕ
fault_name (fault.Code met) = code_fault_name met
fault_name fault.DuplicateKey = codes "DuplicateKey"
fault_name fault.PageTooLarge = codes "PageTooLarge"

abbrev pub ended_line : PageFault → List ℕ
ended_line met = codes "ended " ++ fault_name met
