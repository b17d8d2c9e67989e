use Rattle.std.specs.Prelude.{◌∷◌, map}
use Rattle.blazor_top.specs.Reading.{schedule_file, component_file}
use Rattle.blazor_top.proofs.StopLemmas.{handed_on, stopped-here, stopped-behind, stopped_later}
use Rattle.blazor_top.proofs.reading.read_sources.Goals as goal

pub returns-in_err-schedule-clause-stopped : goal.returns-in_err-schedule-clause-stopped
returns-in_err-schedule-clause-stopped g c =
    handed_on c.from_residual.result c.in_err-schedule.field-0.0 _ _ c.from_residual.ensures.1
    (λ got line stops. stopped-here _ _ (schedule_file c.args.schedule.now) (component_file c.args.root.now ∷ map component_file c.args.others.now) got line stops)
    c.in_err-schedule.ensures.stopped

pub returns-in_err-root-clause-stopped : goal.returns-in_err-root-clause-stopped
returns-in_err-root-clause-stopped g c =
    let old = g.F.Files.held c.args.files.now in
    let middle = g.F.Files.held c.read_file.new.files in
    let files = component_file c.args.root.now ∷ map component_file c.args.others.now in
    handed_on c.from_residual-in_err-root.result c.in_err-root.field-0.0 _ _ c.from_residual-in_err-root.ensures.1
    (λ got line stops. stopped-behind old _ (schedule_file c.args.schedule.now) files got line (c.in_ok-schedule.schedule.items, c.in_ok-schedule.ensures.bytes)
    (stopped_later old middle _ _ _ files got line c.read_file.ensures.same c.read_file.ensures.later
    (stopped-here middle _ (component_file c.args.root.now) (map component_file c.args.others.now) got line stops)))
    c.in_err-root.ensures.stopped

pub returns-in_err-visit-clause-stopped : goal.returns-in_err-visit-clause-stopped
returns-in_err-visit-clause-stopped g c =
    let old = g.F.Files.held c.args.files.now in
    let middle = g.F.Files.held c.read_file.new.files in
    let last = g.F.Files.held c.read_component.new.files in
    let files = map component_file c.args.others.now in
    handed_on c.from_residual-in_err-visit.result c.in_err-visit.field-0.0 _ _ c.from_residual-in_err-visit.ensures.1
    (λ got line stops. stopped-behind old _ (schedule_file c.args.schedule.now) (component_file c.args.root.now ∷ files) got line
    (c.in_ok-schedule.schedule.items, c.in_ok-schedule.ensures.bytes)
    (stopped_later old middle _ _ _ (component_file c.args.root.now ∷ files) got line c.read_file.ensures.same c.read_file.ensures.later
    (stopped-behind middle _ (component_file c.args.root.now) files got line (c.in_ok-root.root.items, c.in_ok-root.ensures.bytes)
    (stopped_later middle last _ _ _ files got line c.read_component.ensures.same c.read_component.ensures.later
    (rw c.as_slice.ensures at stops)))))
    c.in_err-visit.ensures.stopped
