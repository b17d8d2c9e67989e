use Rattle.std.proofs.Common.{◌≡◌, ℕ, ◌∙◌, ap, List, count_by, rules}
use Rattle.std.specs.Prelude.{nat_le}
use Rattle.std.specs.Str.{chars}
use Rattle.std.proofs.lemmas.Str.{chars_from_encodes}
use Rattle.cs_eval.proofs.library.wide_characters.Goals as goal

pub returns : goal.returns
returns c =
    let all : c.count.result ≡ count_by (λ character. nat_le 65536 character) (chars c.as_str.result.now) = search (rules, chars_from_encodes) in
    all ∙ ap (λ (l : List ℕ). count_by (λ character. nat_le 65536 character) l) c.as_str.ensures.characters
