-- What a program comes to under the rules.
use Rattle.std.specs.Prelude.{◌≡◌, List, Option, Some, None, Result, Ok, Err}
use Rattle.razor_ast.specs.declared.component.Component.{Component}
use Rattle.razor_rules.specs.Findings.{broken}
use Rattle.razor_rules.specs.Programs.{BreaksFirst}
use Rattle.razor_check.specs.declared.fault.ProgramFault.{ProgramFault}
use Rattle.razor_check.specs.declared.fault.ProgramFault.TheVariants as fault
use Rattle.razor_check.specs.declared.programs.Program.{Program}

-- a refusal is the first broken rule with its file and place; memory may run out anywhere
abbrev pub Refuses : List Component → ProgramFault → Type 0
Refuses components (fault.Broken file rule place) = BreaksFirst components (Some (record { file = file; first = broken rule place }))
Refuses components fault.Oom = Unit {0}

-- no rule is broken, or the first one is refused
abbrev pub Judges : List Component → Result (Unit {0}) ProgramFault → Type 0
Judges components (Ok x) = BreaksFirst components None
Judges components (Err e) = Refuses components e

-- the program of these components, which break no rule, or else the first broken rule
abbrev pub Answers : List Component → Result Program ProgramFault → Type 0
Answers components (Ok program) = (program.components ≡ components) × BreaksFirst components None
Answers components (Err e) = Refuses components e
