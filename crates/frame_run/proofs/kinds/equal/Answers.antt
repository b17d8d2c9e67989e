use Rattle.cs_meaning.proofs.EqualityLemmas.{same_answer}
use Rattle.frame_run.proofs.kinds.equal.Goals as goal

pub returns : goal.returns
returns c = same_answer c.same.result c.args.x.now c.args.y.now c.same.ensures
