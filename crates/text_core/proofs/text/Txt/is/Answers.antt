use Rattle.std.proofs.Common.{◌∙◌, ap}
use Rattle.std.specs.Str.{chars, bytes_eq}
use Rattle.std.specs.String.{string_bytes}
use Rattle.std.proofs.lemmas.Str.{IsUtf8-string_bytes}
use Rattle.text_core.proofs.TextLemmas.{bytes_eq-chars, chars-is_ascii}
use Rattle.text_core.proofs.text.Txt.is.Goals as goal

pub returns-clause-same : goal.returns-clause-same
returns-clause-same c =
    rw (← c.self.view_is)
    (c.eq.ensures
    ∙ ap (λ t. bytes_eq t c.args.word.now) c.as_str.ensures.value
    ∙ bytes_eq-chars (string_bytes c.self.inside.text) c.args.word.now (IsUtf8-string_bytes c.self.inside.text) c.utf8.word)

pub returns-clause-ascii : goal.returns-clause-ascii
returns-clause-ascii c = λ is.
    rw (← c.self.view_is)
    (c.eq.ensures
    ∙ ap (λ t. bytes_eq t c.args.word.now) c.as_str.ensures.value
    ∙ bytes_eq-chars (string_bytes c.self.inside.text) c.args.word.now (IsUtf8-string_bytes c.self.inside.text) c.utf8.word
    ∙ ap (λ t. bytes_eq (chars (string_bytes c.self.inside.text)) t) (chars-is_ascii c.args.word.now is))
