use Rattle.std.proofs.Common.{rules}
use Rattle.cs_eval.proofs.variables.put.Goals as goal

pub returns-in-Local-clause-means : goal.returns-in-Local-clause-means
returns-in-Local-clause-means g c = search (rules, c.put_local.ensures.means (g.S.Store.fields c.args.store.now) c.args.around.now.who)
