use Rattle.blazor_top.specs.Stopping.{at_file}
use Rattle.blazor_top.specs.declared.command.Command.TheVariants.{Replay}
use Rattle.blazor_top.proofs.ReplyLemmas.{replay_refused}
use Rattle.blazor_top.proofs.StopLemmas.{handed_on, on_result-map}
use Rattle.blazor_top.proofs.output.transcribe.Goals as goal

pub returns-in_err-sources-clause-refused : goal.returns-in_err-sources-clause-refused
returns-in_err-sources-clause-refused g c =
    handed_on c.from_residual.result c.in_err-sources.field-0.0 _ _ c.from_residual.ensures.1
    (λ got line stops. at_file (Replay c.args.schedule.now c.args.root.now c.args.others.now) got line stops)
    c.in_err-sources.ensures.stopped

pub returns-clause-refused : goal.returns-clause-refused
returns-clause-refused g c =
    on_result-map c.play.result _ _
    (replay_refused (g.F.Files.held c.args.files.now) _ c.args.schedule.now c.args.root.now c.in_ok-sources.sources.schedule.items c.in_ok-sources.sources.root.items c.args.others.now
    c.in_ok-sources.ensures.schedule c.in_ok-sources.ensures.root c.in_ok-sources.ensures.there)
    c.play.ensures.refused
