use Rattle.std.proofs.Common.{sym, subst}
use Rattle.cs_ast.specs.declared.code.Code.{Code}
use Rattle.cs_ast.specs.declared.code.Code.TheVariants as v
use Rattle.cs_meaning.specs.FirstForms.{IsStatement, stepped}
use Rattle.cs_eval_tests.proofs.first_forms.stepped.Goals as goal

pub returns : goal.returns
returns c =
    subst (λ (x : Code). IsStatement 2 (v.Perform x)) (sym c.in_ok-new.ensures) (stepped c.args.at c.args.op c.requires)
