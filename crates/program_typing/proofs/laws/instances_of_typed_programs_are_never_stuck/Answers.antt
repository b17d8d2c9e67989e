use Rattle.program_typing.proofs.Instances.{never_stuck}
use Rattle.program_typing.proofs.laws.instances_of_typed_programs_are_never_stuck.Goals as goal

pub returns : goal.returns
returns c = never_stuck
