use Rattle.std.proofs.Common.{◌≡◌, List, [], ◌∷◌, rules, sym, subst}
use Rattle.cs_ast.specs.declared.code.Code.{Code}
use Rattle.cs_ast.specs.declared.code.Code.TheVariants as v
use Rattle.cs_meaning.specs.FirstForms.{IsStatement, block, none, more}
use Rattle.cs_eval_tests.proofs.first_forms.block.Goals as goal

pub returns : goal.returns
returns c =
    let pushed : c.push-2.new.self ≡ c.args.first ∷ c.args.second ∷ [] = search rules in
    subst (λ (xs : List Code). IsStatement 2 (v.Block xs)) (sym pushed) (block _ (more _ _ c.requires.first (more _ _ c.requires.second none)))
