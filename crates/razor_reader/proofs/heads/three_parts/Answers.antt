use Rattle.std.proofs.Common.{◌≡◌, sym, rules}
use Rattle.std.specs.Prelude.{Some}
use Rattle.razor_reader.specs.Reading.{Fails}
use Rattle.razor_reader.specs.HeadReading.{last_of, three_parts}
use Rattle.razor_reader.proofs.HeadLoops.{last_is, third_is, third_fails}
use Rattle.razor_reader.proofs.heads.three_parts.Goals as goal

pub returns-in_err-step : goal.returns-in_err-step
returns-in_err-step c =
    let last : last_of c.args.second.now ≡ Some c.in-Some.semicolon.now = last_is c.args.second.now c.in-Some.semicolon.now (sym c.in-Some.ensures.value) in
    let fails : Fails c.in_err-step.field-0.0 (three_parts c.args.first.now c.args.second.now c.args.third.now) =
    third_fails c.args.first.now c.args.second.now c.args.third.now c.in-Some.semicolon.now c.in_ok-start.start c.in_ok-condition.condition c.in_err-step.field-0.0 last c.in_ok-start.ensures c.in_ok-condition.ensures c.in_err-step.ensures in
    search rules

pub returns : goal.returns
returns c =
    let last : last_of c.args.second.now ≡ Some c.in-Some.semicolon.now = last_is c.args.second.now c.in-Some.semicolon.now (sym c.in-Some.ensures.value) in
    third_is c.args.first.now c.args.second.now c.args.third.now c.in-Some.semicolon.now c.in_ok-start.start c.in_ok-condition.condition c.in_ok-step.step last c.in_ok-start.ensures c.in_ok-condition.ensures c.in_ok-step.ensures
