use Rattle.std.proofs.Common.{◌+◌, ◌∙◌, sym, ap}
use Rattle.std.proofs.lemmas.List.Quantifiers.{position-Some}
use Rattle.razor_ast.specs.FileTexts.{behind_slash}
use Rattle.razor_reader.specs.FileReading.{is_slash}
use Rattle.razor_reader.proofs.FileNameLemmas.{behind_cut, behind_plain}
use Rattle.razor_reader.proofs.file_text.behind_slash.Goals as goal

pub loop-slash-preserved : goal.loop-slash-preserved
loop-slash-preserved c =
    let found = position-Some is_slash c.loop-slash.base.now c.in-Some.slash 0 (sym c.in-Some.ensures.first) in
    ap behind_slash c.past-base.ensures ∙ sym (behind_cut c.loop-slash.base.now c.in-Some.slash found.0 found.1) ∙ c.loop-slash.invariant

pub returns : goal.returns
returns c = sym (behind_plain c.loop-slash.base.now (sym c.in_default.ensures.first)) ∙ c.loop-slash.invariant
