use Rattle.std.proofs.Common.{◌+◌, ◌∙◌, sym, ap}
use Rattle.std.proofs.lemmas.List.Quantifiers.{position-Some}
use Rattle.std.proofs.lemmas.List.{take_rest}
use Rattle.first_click.specs.FileName.{is_slash, base_name}
use Rattle.first_click.proofs.Reading.FileNameLemmas.{base_name-cut, base_name-plain}
use Rattle.first_click.proofs.file_name.base_name.Goals as goal

pub loop-slash-preserved : goal.loop-slash-preserved
loop-slash-preserved c =
    let found = position-Some is_slash c.loop-slash.base.now c.in-Some.slash 0 (sym c.in-Some.ensures.first) in
    ap base_name (take_rest c.loop-slash.base.now (c.in-Some.slash + 1)) ∙ sym (base_name-cut c.loop-slash.base.now c.in-Some.slash found.0 found.1) ∙ c.loop-slash.invariant

pub returns : goal.returns
returns c = sym (base_name-plain c.loop-slash.base.now (sym c.in_default.ensures.first)) ∙ c.loop-slash.invariant
