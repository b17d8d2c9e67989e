use Rattle.std.proofs.Common.{[], take, refl, sym, subst, ◌∙◌, List, arith}
use Rattle.component_files.specs.declared.files.SourceFile.{SourceFile}
use Rattle.blazor_top.specs.Checking.{AreHeld, no_more}
use Rattle.blazor_top.proofs.CheckingLemmas.{all_held, held_next}
use Rattle.blazor_top.proofs.StopLemmas.{handed_on, stopped_at}
use Rattle.blazor_top.proofs.reading.read_program.Goals as goal

pub loop-name-init : goal.loop-name-init
loop-name-init g c =
    (refl, omega arith, subst (λ (files : List SourceFile). AreHeld (g.F.Files.held c.args.files.now) [] files) (sym c.new-sources.ensures.items) no_more)

pub returns-in_err-bytes-clause-stopped : goal.returns-in_err-bytes-clause-stopped
returns-in_err-bytes-clause-stopped g c =
    handed_on c.from_residual.result c.in_err-bytes.field-0.0 _ _ c.from_residual.ensures.1
    (stopped_at (g.F.Files.held c.args.files.now) (g.F.Files.held c.loop-name.files) (g.F.Files.fault_count c.args.files.now) (g.F.Files.fault_count c.loop-name.files)
    (g.F.Files.fault_count c.read_component.new.files) c.args.names.now c.loop-name.name-index c.name-item.result c.loop-name.invariant.0 c.loop-name.invariant.1
    (all_held (g.F.Files.held c.args.files.now) (take c.loop-name.name-index c.args.names.now) c.loop-name.sources.items c.loop-name.invariant.2) c.loop-name-test.true c.name-item.is)
    c.in_err-bytes.ensures.stopped

pub loop-name-preserved : goal.loop-name-preserved
loop-name-preserved g c =
    let earlier = c.loop-name.invariant.1 in
    let later = c.read_component.ensures.later in (
      c.read_component.ensures.same ∙ c.loop-name.invariant.0,
      omega (arith, earlier, later),
      held_next (g.F.Files.held c.args.files.now) (g.F.Files.held c.loop-name.files) c.args.names.now c.loop-name.name-index c.name-item.result c.loop-name.sources.items c.push_source.new.sources.items
          c.in_ok-bytes.bytes.items c.loop-name-test.true c.name-item.is c.loop-name.invariant.0 c.loop-name.invariant.2 c.in_ok-bytes.ensures.bytes c.in_ok-push_source.ensures,
    )
