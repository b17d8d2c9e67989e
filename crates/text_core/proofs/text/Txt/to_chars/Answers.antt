use Rattle.std.proofs.Common.{◌≡◌, ◌∙◌, rules}
use Rattle.std.specs.Str.{chars}
use Rattle.std.proofs.lemmas.Str.{chars_from_encodes}
use Rattle.text_core.proofs.text.Txt.to_chars.Goals as goal

pub returns : goal.returns
returns c =
    let all : c.in_ok-collect.field-0.items ≡ chars c.as_str.result.now = search (rules, chars_from_encodes) in
    all ∙ c.as_str.ensures.characters
