use Rattle.std.proofs.Common.{◌≡◌, ◌∙◌, ap, length, rules}
use Rattle.std.specs.Str.{chars}
use Rattle.std.proofs.lemmas.Str.{chars_from_encodes}
use Rattle.cs_eval.proofs.library.characters.Goals as goal

pub returns : goal.returns
returns c =
    let all : c.count.result ≡ length (chars c.as_str.result.now) = search (rules, chars_from_encodes) in
    all ∙ ap length c.as_str.ensures.characters
