-- What is escaped so far, with one more character.
use Rattle.std.proofs.Common.{◌≡◌, ℕ, List, [], ◌∷◌, ◌++◌, ap, ◌∙◌}
use Rattle.std.proofs.lemmas.List.Concat.{flat_map-append}
use Rattle.page_core.specs.declared.escape.Context.{Context}
use Rattle.page_core.specs.Escapes.{escaped, escaped_character}
use mathlib.Core.List.{append-nil}

pub escaped-push : (context : Context) (cs : List ℕ) (c : ℕ) → escaped context (cs ++ c ∷ []) ≡ escaped context cs ++ escaped_character context c
escaped-push context cs c =
    flat_map-append (escaped_character context) cs (c ∷ []) ∙ ap (λ more. escaped context cs ++ more) (append-nil (escaped_character context c))
