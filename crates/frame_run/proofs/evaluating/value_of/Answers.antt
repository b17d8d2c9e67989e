use Rattle.cs_meaning.specs.Meaning.{body_meaning}
use Rattle.frame_run.specs.Agrees.{stage_in, reached}
use Rattle.frame_run.proofs.evaluating.value_of.Goals as goal

pub returns-clause-means : goal.returns-clause-means
returns-clause-means g c =
    let stage = stage_in c.args.around.now (g.O.Owners.parameters c.args.owners.now) in
    let before = reached c.args.progress.now (g.O.Owners.fields c.args.owners.now) in
    c.given.ensures c.try_eval-outcome.new.locals.values.items c.try_eval-outcome.new.fuel.left (body_meaning stage.around c.args.code.now before.state) before c.try_eval-outcome.ensures.means
