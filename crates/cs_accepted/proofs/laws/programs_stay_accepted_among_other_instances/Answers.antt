use Rattle.cs_accepted.proofs.InstanceProgram.{program_still}
use Rattle.cs_accepted.proofs.laws.programs_stay_accepted_among_other_instances.Goals as goal

pub returns : goal.returns
returns c = program_still
