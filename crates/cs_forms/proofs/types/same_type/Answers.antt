use Rattle.cs_rules.proofs.SameType.{same_decided}
use Rattle.cs_forms.proofs.types.same_type.Goals as goal

pub returns : goal.returns
returns c = same_decided c.args.a.now c.args.b.now c.equal.result c.equal.ensures
