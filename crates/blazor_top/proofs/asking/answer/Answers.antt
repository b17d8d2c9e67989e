use Rattle.blazor_top.specs.Stopping.{Declines, RefusesFor}
use Rattle.blazor_top.proofs.AskingLemmas.{declines}
use Rattle.blazor_top.proofs.StopLemmas.{handed_on}
use Rattle.blazor_top.proofs.asking.answer.Goals as goal

pub returns-in_err-program-clause-refused : goal.returns-in_err-program-clause-refused
returns-in_err-program-clause-refused c =
    handed_on c.from_residual.result c.in_err-program.field-0.0 (RefusesFor c.args.files.now) (Declines c.args.question c.args.files.now) c.from_residual.ensures.1
    (declines c.args.question c.args.files.now) c.in_err-program.ensures.refused
