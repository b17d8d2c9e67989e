use Rattle.std.proofs.Common.{◌++◌, ap, ◌∙◌}
use Rattle.std.specs.Str.{chars}
use Rattle.std.specs.String.{string_bytes}
use Rattle.std.proofs.lemmas.Str.{chars-append, IsUtf8-string_bytes}
use Rattle.text_core.proofs.TextLemmas.{chars-is_ascii}
use Rattle.text_core.proofs.text.Txt.push_str.Goals as goal

pub returns-clause-ok : goal.returns-clause-ok
returns-clause-ok c =
    rw (c.in_ok-push_str.ensures.bytes, ← c.self.view_is) (chars-append _ _ (IsUtf8-string_bytes c.self.inside.text))

pub returns-clause-ascii : goal.returns-clause-ascii
returns-clause-ascii c = λ is.
    rw (c.in_ok-push_str.ensures.bytes, ← c.self.view_is)
    (chars-append _ _ (IsUtf8-string_bytes c.self.inside.text)
    ∙ ap (λ t. chars (string_bytes c.self.inside.text) ++ t) (chars-is_ascii c.args.more.now is))
