-- Why components are not compiled.
use Rattle.std.specs.Prelude.{◌≡◌, List, Some}
use Rattle.razor_ast.specs.declared.component.Component.{Component}
use Rattle.frame_compiler.specs.Compiles.{first_broken}
use Rattle.frame_compiler.specs.declared.fault.CompileFault.{CompileFault}
use Rattle.frame_compiler.specs.declared.fault.CompileFault.TheVariants as fault

-- the first broken rule with the position of its file; memory may run out anywhere
abbrev pub Refuses : List Component → CompileFault → Type 0
Refuses components (fault.Broken file rule place) = first_broken components 0 components ≡ Some (record { file = file; rule = rule; place = place })
Refuses components fault.Oom = Unit {0}
