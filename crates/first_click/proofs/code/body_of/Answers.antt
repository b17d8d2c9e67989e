use Rattle.std.proofs.Common.{◌∙◌, sym}
use Rattle.first_click.proofs.Reading.ClosingLemmas.{in_braces}
use Rattle.first_click.proofs.code.body_of.Goals as goal

pub returns-then-are_braces : goal.returns-then-are_braces
returns-then-are_braces c =
    in_braces c.first-item.result c.last-item.result c.args.tokens.now c.in-len2-up.len_at_least c.first-item.is c.last-item.is (sym c.are_braces.ensures ∙ c.if-are_braces.true)
