use Rattle.blazor_top.proofs.StopLemmas.{handed_on, stopped_at}
use Rattle.blazor_top.proofs.reading.visit.Goals as goal

pub returns-in_err-read_component-clause-stopped : goal.returns-in_err-read_component-clause-stopped
returns-in_err-read_component-clause-stopped g c =
    handed_on c.from_residual.result c.in_err-read_component.field-0.0 _ _ c.from_residual.ensures.1
    (stopped_at (g.F.Files.held c.args.files.now) (g.F.Files.held c.loop-name.files) (g.F.Files.fault_count c.args.files.now) (g.F.Files.fault_count c.loop-name.files)
    (g.F.Files.fault_count c.read_component.new.files) c.args.names.now c.loop-name.name-index c.name-item.result c.loop-name.invariant.0 c.loop-name.invariant.1
    c.loop-name.invariant.2 c.loop-name-test.true c.name-item.is)
    c.in_err-read_component.ensures.stopped
