use Rattle.std.proofs.Common.{ap, ◌∙◌, arith}
use Rattle.std.specs.Str.{chars}
use Rattle.std.specs.Fmt.{signed_decimal}
use Rattle.std.specs.Int.{w32}
use Rattle.std.proofs.lemmas.Str.{chars-IsAscii}
use Rattle.std.proofs.lemmas.Fmt.{IsAscii-signed}
use Rattle.std.proofs.lemmas.Int.{ints, to_z-of_z}
use Rattle.text_core.specs.Decimal.{i32_of}
use Rattle.text_core.proofs.DecimalLemmas.{i32_of-signed_decimal}
use Rattle.text_core.proofs.decimal.show_i32.Goals as goal

pub returns-clause-shown : goal.returns-clause-shown
returns-clause-shown c =
    c.from.ensures
    ∙ ap chars (c.in_ok-digits.ensures.ok ∙ ap signed_decimal (to_z-of_z w32 c.args.value c.ranges.value))
    ∙ chars-IsAscii _ (IsAscii-signed c.args.value (omega (arith, ints)))

pub returns-clause-reads_back : goal.returns-clause-reads_back
returns-clause-reads_back c =
    ap i32_of
    (c.from.ensures
    ∙ ap chars (c.in_ok-digits.ensures.ok ∙ ap signed_decimal (to_z-of_z w32 c.args.value c.ranges.value))
    ∙ chars-IsAscii _ (IsAscii-signed c.args.value (omega (arith, ints))))
    ∙ i32_of-signed_decimal c.args.value (omega (arith, ints))
