use Rattle.cs_print.proofs.members.push_cascading.Goals as goal

pub returns-in-None : goal.returns-in-None
returns-in-None c = rw c.in-None.is c.push_mark.ensures
