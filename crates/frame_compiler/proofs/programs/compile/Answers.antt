use Rattle.std.proofs.Common.{◌∙◌, ap, sym}
use Rattle.frame_compiler.specs.Programs.{components_from}
use Rattle.frame_parts.specs.Steps.{Numbered}
use Rattle.frame_compiler.proofs.ProgramLaws.{whole_program}
use Rattle.frame_compiler.proofs.programs.compile.Goals as goal

pub returns-clause-compiles : goal.returns-clause-compiles
returns-clause-compiles c =
    whole_program c.args.components.now
    (record { components = c.in_ok-all.all; bodies = c.all_components.new.making.bodies; fragments = c.all_components.new.making.fragments })
    (ap (λ (n : Numbered). components_from c.args.components.now 0 c.args.components.now n) (sym c.nothing-making.ensures) ∙ c.in_ok-all.ensures.compiled)
