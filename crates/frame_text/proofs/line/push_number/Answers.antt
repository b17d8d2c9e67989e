use Rattle.std.proofs.Common.{rules, ap, ◌∙◌, ◌≡◌, ◌++◌, subst}
use Rattle.std.specs.Fmt.{decimal}
use Rattle.std.specs.Result.{OnOk}
use Rattle.std.specs.Str.{chars}
use Rattle.std.proofs.lemmas.Fmt.{IsAscii-decimal}
use Rattle.std.proofs.lemmas.Str.{chars-IsAscii}
use Rattle.frame_text.proofs.line.push_number.Goals as goal

pub returns : goal.returns
returns c =
    let fits = c.ranges.number.fits in
    let digits : c.as_str.result.now ≡ decimal c.args.number = search rules in
    let read : chars c.as_str.result.now ≡ decimal c.args.number = ap chars digits ∙ chars-IsAscii (decimal c.args.number) (IsAscii-decimal c.args.number fits) in
    subst (λ x. OnOk c.push_str.result (c.push_str.new.self ≡ c.args.line.now ++ x)) read c.push_str.ensures.ok
