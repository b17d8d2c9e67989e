use Rattle.std.proofs.Common.{ap, ◌∙◌, arith}
use Rattle.std.specs.Str.{chars}
use Rattle.std.proofs.lemmas.Str.{chars-IsAscii}
use Rattle.std.proofs.lemmas.Fmt.{IsAscii-decimal}
use Rattle.std.proofs.lemmas.Int.{ints}
use Rattle.cs_print.proofs.tokens.show_u32.Goals as goal

pub returns : goal.returns
returns c = c.from.ensures ∙ ap chars c.in_ok-digits.ensures.ok ∙ chars-IsAscii _ (IsAscii-decimal c.args.number (omega (arith, ints)))
