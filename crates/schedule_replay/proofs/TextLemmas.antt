-- Numbers and texts in a line.
use Rattle.std.proofs.Common.{◌≡◌, ◌^◌, ◌<◌, ℕ, List, [], ◌∷◌, ◌++◌, ap, ◌∙◌, sym}
use Rattle.std.specs.Fmt.{decimal}
use Rattle.std.specs.Str.{chars}
use Rattle.std.proofs.lemmas.Fmt.{IsAscii-decimal}
use Rattle.std.proofs.lemmas.Str.{chars-IsAscii}
use Rattle.std.proofs.lemmas.List.Concat.{flat_map-append}
use Rattle.schedule_replay.specs.Texts.{escaped, escaped_character}
use mathlib.Core.List.{append-nil}

pub escaped-push : (cs : List ℕ) (c : ℕ) → escaped (cs ++ c ∷ []) ≡ escaped cs ++ escaped_character c
escaped-push cs c = flat_map-append escaped_character cs (c ∷ []) ∙ ap (λ more. escaped cs ++ more) (append-nil (escaped_character c))

-- digits are ASCII
pub chars-decimal : (n : ℕ) → n < 2 ^ 64 → chars (decimal n) ≡ decimal n
chars-decimal n fits = chars-IsAscii (decimal n) (IsAscii-decimal n fits)
