use Rattle.std.proofs.Common.{sym, ap, ◌∙◌}
use Rattle.cs_parse.specs.Reading.{is_sign}
use Rattle.cs_parse.proofs.Same.{same_sign}
use Rattle.cs_parse.proofs.tokens.is_sign.Goals as goal

pub returns-in-Sign : goal.returns-in-Sign
returns-in-Sign c = same_sign c.in-Sign.found c.args.sign c.same_sign.result c.same_sign.ensures ∙ sym (ap (is_sign c.args.sign) c.in-Sign.is)
