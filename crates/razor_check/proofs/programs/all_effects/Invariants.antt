use Rattle.std.proofs.Common.{take}
use Rattle.std.specs.List.{AllZip}
use Rattle.cs_effects.specs.Effects.{Told}
use Rattle.razor_check.proofs.programs.all_effects.Given as goal

-- those so far are told
abbrev pub invariant-loop-component : goal.invariant-loop-component
invariant-loop-component l = AllZip (λ component told. Told component.members component.members told) (take l.component-index l.components) l.all
