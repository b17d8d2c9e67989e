use Rattle.cs_typing.proofs.InstanceLemmas.{value_still}
use Rattle.cs_typing.proofs.laws.values_keep_their_types_among_more_instances.Goals as goal

pub returns : goal.returns
returns c = value_still
