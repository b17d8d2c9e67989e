use Rattle.std.proofs.Common.{◌≡◌, ◌≤◌, ap, ◌∙◌, length, arith, subst, sym}
use Rattle.std.specs.Prelude.{IsUtf8, chars}
use Rattle.component_files.specs.Files.{no_text}
use Rattle.component_files.proofs.ReadLemmas.{answered}
use Rattle.component_files.proofs.file.read_file.Goals as goal

pub returns-in_default : goal.returns-in_default
returns-in_default c =
    let short : length c.args.bytes.now ≤ 1048576 = omega (arith, c.if-bytes-gt-BYTES.false) in
    no_text short c.in_default.ensures.cases.0

pub returns : goal.returns
returns c =
    let short : length c.args.bytes.now ≤ 1048576 = omega (arith, c.if-bytes-gt-BYTES.false) in
    let same : c.in_ok-from_str.field-0 ≡ chars c.args.bytes.now = c.in_ok-from_str.ensures ∙ ap chars c.in-Ok.ensures.cases.0 in
    answered c.args.name.now c.args.bytes.now c.in_ok-from_str.field-0 c.read-2.result c.in-Ok.ensures.cases.1 same short c.read-2.ensures.answer c.read-2.ensures.place
