use Rattle.std.proofs.Common.{◌∙◌, ap, sym, refl}
use Rattle.std.specs.Prelude.{Option}
use Rattle.cs_ast.specs.declared.code.Code.{Code}
use Rattle.cs_ast.specs.declared.value.Value.{Value}
use Rattle.cs_meaning.specs.Outcome.{gives}
use Rattle.first_rendering.specs.First.{alone, initial_value}
use Rattle.first_rendering.proofs.initial.initial_value.Goals as goal

pub returns-in-None-clause-means : goal.returns-in-None-clause-means
returns-in-None-clause-means c =
    let left = c.args.fuel.now.left in (
      alone left,
      ap (λ (code : Option Code). initial_value c.args.field.now.cs_type code left) c.in-None.is ∙ ap (λ (x : Value). gives x (alone left)) (sym c.default_of.ensures),
      refl,
    )
