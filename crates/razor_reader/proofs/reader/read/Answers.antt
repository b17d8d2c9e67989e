use Rattle.std.proofs.Common.{◌≤◌, length, Err, ap, arith, rules}
use Rattle.std.specs.Prelude.{encode_utf8_all}
use Rattle.razor_reader.specs.Answers.{Answers}
use Rattle.razor_reader.specs.PieceAnswers.{Kept}
use Rattle.razor_reader.proofs.ReadAnswers.{Explained, spelled_there, spelled_fault}
use Rattle.razor_reader.proofs.reader.read.Goals as goal

pub returns-in_err-parts-clause-answer : goal.returns-in_err-parts-clause-answer
returns-in_err-parts-clause-answer c =
    let name = c.args.name.now in
    let text = c.args.text.now in
    let short : length (encode_utf8_all c.args.text.now) ≤ 1048576 = omega (arith, ap length c.as_str.ensures.bytes) in
    let kept : Kept c.in_ok-text.text c.deref.result.now = search rules in
    let why : Explained name text c.in_err-parts.field-0.0 =
    spelled_fault name text c.in_ok-text.text c.deref.result.now c.in_err-parts.field-0.0 short c.in_ok-text.ensures kept c.in_err-parts.ensures in
    let answer : Answers c.args.name.now c.args.text.now (Err c.in_err-parts.field-0.0) = why.0 in
    search rules

pub returns-clause-answer : goal.returns-clause-answer
returns-clause-answer c =
    let short : length (encode_utf8_all c.args.text.now) ≤ 1048576 = omega (arith, ap length c.as_str.ensures.bytes) in
    let kept : Kept c.in_ok-text.text c.deref.result.now = search rules in
    spelled_there c.args.name.now c.args.text.now c.in_ok-text.text c.deref.result.now c.in_ok-parts.parts c.in_ok-component.field-0 short c.in_ok-text.ensures kept c.in_ok-parts.ensures c.in_ok-component.ensures
