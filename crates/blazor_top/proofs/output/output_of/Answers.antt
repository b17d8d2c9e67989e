use Rattle.std.proofs.Common.{rules, ◌≡◌, ◌<◌, ℕ, List, length, Some, sym, subst}
use Rattle.blazor_top.proofs.CommandLemmas.{command_names}
use Rattle.blazor_top.specs.Command.{command_of}
use Rattle.blazor_top.specs.declared.command.Command.TheVariants.{Ask, Replay}
use Rattle.blazor_top.proofs.ReplyLemmas.{refused}
use Rattle.blazor_top.proofs.StopLemmas.{on_result-map}
use Rattle.blazor_top.proofs.output.output_of.Goals as goal

pub ask-requires : goal.ask-requires
ask-requires g c =
    let asked : command_of c.args.words.now ≡ Some (Ask c.in-Some-Ask.question c.in-Some-Ask.names) = search rules in
    subst (λ (ns : List (List ℕ)). 0 < length ns) (sym c.as_slice.ensures) (command_names c.args.words.now c.in-Some-Ask.question c.in-Some-Ask.names asked)

pub returns-in-Some-Ask-clause-refused : goal.returns-in-Some-Ask-clause-refused
returns-in-Some-Ask-clause-refused g c =
    let asked : command_of c.args.words.now ≡ Some (Ask c.in-Some-Ask.question c.in-Some-Ask.names) = search rules in
    on_result-map c.ask.result _ _ (λ got line why. refused c.args.words.now (g.F.Files.held c.args.files.now) _ (Ask c.in-Some-Ask.question c.in-Some-Ask.names) got line asked
    (rw c.as_slice.ensures at why)) c.ask.ensures.refused

pub returns-in-Some-Replay-clause-refused : goal.returns-in-Some-Replay-clause-refused
returns-in-Some-Replay-clause-refused g c =
    let command = Replay c.in-Some-Replay.schedule c.in-Some-Replay.root c.in-Some-Replay.others in
    let asked : command_of c.args.words.now ≡ Some (Replay c.in-Some-Replay.schedule c.in-Some-Replay.root c.in-Some-Replay.others) = search rules in
    on_result-map c.transcribe.result _ _ (λ got line why. refused c.args.words.now (g.F.Files.held c.args.files.now) _ command got line asked why) c.transcribe.ensures.refused
