use Rattle.std.proofs.Common.{◌≡◌}
use Rattle.std.specs.Prelude.{Option, option_map}
use Rattle.std.proofs.lemmas.Result.{IfOk-weaker}
use Rattle.razor_rules.specs.Programs as programs
use Rattle.razor_check.specs.declared.programs.Finding.{Finding}
use Rattle.razor_check.specs.Files.{facts, finding}
use Rattle.razor_check.proofs.FileLaws.{told}
use Rattle.razor_check.proofs.programs.first_broken.Goals as goal

pub returns : goal.returns
returns c =
    let components = c.args.components.now in
    let known = c.in_ok-facts.facts in
    IfOk-weaker c.first_finding.result (λ (it : Option Finding). option_map finding it ≡ programs.first_broken components (facts known))
    (λ (it : Option Finding). programs.BreaksFirst components (option_map finding it)) (λ it is. told components known (option_map finding it) c.in_ok-facts.ensures is) c.first_finding.ensures
