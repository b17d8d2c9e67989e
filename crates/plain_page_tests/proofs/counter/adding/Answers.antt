use Rattle.std.proofs.Common.{sym, subst, arith}
use Rattle.cs_ast.specs.declared.code.Code.{Code}
use Rattle.cs_ast.specs.declared.code.Code.TheVariants as v
use Rattle.cs_ast.specs.declared.operators.StepOp.TheVariants as op
use Rattle.cs_meaning.specs.FirstForms.{IsStatement, stepped}
use Rattle.plain_page_tests.proofs.counter.adding.Goals as goal

pub returns : goal.returns
returns c =
    subst (λ (x : Code). IsStatement 1 (v.Perform x)) (sym c.in_ok-step.ensures) (stepped 0 op.Increment (omega arith))
