use Rattle.std.proofs.Common.{◌<◌, ℕ, List, length, sym, subst}
use Rattle.component_files.specs.declared.files.SourceFile.{SourceFile}
use Rattle.blazor_top.specs.Stopping.{at_file}
use Rattle.blazor_top.proofs.CheckingLemmas.{held_length}
use Rattle.blazor_top.specs.declared.command.Command.TheVariants.{Ask}
use Rattle.blazor_top.proofs.ReplyLemmas.{ask_refused}
use Rattle.blazor_top.proofs.StopLemmas.{handed_on, on_result-map}
use Rattle.blazor_top.proofs.output.ask.Goals as goal

pub returns-in_err-sources-clause-refused : goal.returns-in_err-sources-clause-refused
returns-in_err-sources-clause-refused g c =
    handed_on c.from_residual.result c.in_err-sources.field-0.0 _ _ c.from_residual.ensures.1
    (λ got line stops. at_file (Ask c.args.question c.args.names.now) got line stops)
    c.in_err-sources.ensures.stopped

pub answer-requires : goal.answer-requires
answer-requires g c =
    subst (λ (fs : List SourceFile). 0 < length fs) (sym c.deref.ensures.value)
    (subst (λ (n : ℕ). 0 < n) (held_length (g.F.Files.held c.args.files.now) c.args.names.now c.in_ok-sources.sources.items c.in_ok-sources.ensures.held) c.requires)

pub returns-clause-refused : goal.returns-clause-refused
returns-clause-refused g c =
    on_result-map c.answer.result _ _ (λ got line why. ask_refused (g.F.Files.held c.args.files.now) _ c.args.question c.args.names.now c.in_ok-sources.sources.items c.in_ok-sources.ensures.held got line
    (rw c.deref.ensures.value at why)) c.answer.ensures.refused
