use Rattle.std.proofs.Common.{refl}
use Rattle.blazor_top.specs.Run.{whole, stopped, no_memory}
use Rattle.blazor_top.proofs.top.refuse.Goals as goal

pub returns-in-All-clause-ends : goal.returns-in-All-clause-ends
returns-in-All-clause-ends g c = whole (c.in-All.ensures.all refl)

pub returns-in-Fault-clause-ends : goal.returns-in-Fault-clause-ends
returns-in-Fault-clause-ends g c = stopped (c.in-Fault.ensures.front (λ e. cc)) (c.in-Fault.ensures.fault refl)

pub returns-in-Oom-clause-ends : goal.returns-in-Oom-clause-ends
returns-in-Oom-clause-ends g c = no_memory (c.in-Oom.ensures.front (λ e. cc))
