use Rattle.std.proofs.Common.{◌≡◌, ◌∙◌, ap, subst, sym, List}
use Rattle.std.proofs.lemmas.Result.{IfOk-weaker}
use Rattle.frame_core.specs.declared.edit.Edit.{Edit}
use Rattle.edit_meaning.specs.Counted.{counts_in}
use Rattle.pairing_meaning.specs.Turning.{Turns}
use Rattle.sibling_edits.specs.Matched.{carried}
use Rattle.sibling_edits.specs.Plan.{planned}
use Rattle.sibling_edits.proofs.PlanLemmas.{plan-turns}
use Rattle.sibling_edits.proofs.TallyLemmas.{plan-counts}
use Rattle.sibling_edits.proofs.arranging.arrange.Goals as goal

pub returns-clause-turns : goal.returns-clause-turns
returns-clause-turns c =
    IfOk-weaker c.all_edits.result (λ edits. edits ≡ planned c.args.from.now c.args.to.now c.args.nodes) _
    (λ edits is batch old long. subst (λ (them : List Edit). Turns batch them old (carried batch c.args.from.now c.args.nodes old)) (sym is)
    (plan-turns batch c.args.from.now c.args.to.now c.args.nodes old c.requires.matched c.requires.alike long))
    c.all_edits.ensures

pub returns-clause-counts : goal.returns-clause-counts
returns-clause-counts c =
    IfOk-weaker c.all_edits.result (λ edits. edits ≡ planned c.args.from.now c.args.to.now c.args.nodes) _
    (λ edits is. ap counts_in is ∙ plan-counts c.args.from.now c.args.to.now c.args.nodes c.requires.alike)
    c.all_edits.ensures
