use Rattle.std.proofs.Common.{◌∙◌}
use Rattle.std.proofs.lemmas.Str.{IsUtf8-string_bytes}
use Rattle.text_core.proofs.TextLemmas.{bytes_eq-chars}
use Rattle.text_core.proofs.text.TxtPartialEq.eq.Goals as goal

pub returns : goal.returns
returns c =
    rw (← c.self.view_is, ← c.other.view_is)
    (c.eq.ensures ∙ bytes_eq-chars _ _ (IsUtf8-string_bytes c.self.inside.text) (IsUtf8-string_bytes c.other.inside.text))
