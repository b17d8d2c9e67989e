-- Lists turned round.
use Rattle.std.proofs.Common.{◌≡◌, ◌∙◌, sym, ap, List, [], ◌∷◌, ◌++◌, reverse}
use Rattle.std.proofs.lemmas.List.{append_assoc, reverse-append}

-- one more taken from the end
pub taken_last : {X : Type 0} (front : List X) (last : X) (tail : List X) → (front ++ last ∷ []) ++ reverse tail ≡ front ++ reverse (tail ++ last ∷ [])
taken_last front last tail = append_assoc front (last ∷ []) (reverse tail) ∙ ap (λ it. front ++ it) (sym (reverse-append tail (last ∷ [])))

-- the last comes first
pub last_first : {X : Type 0} (front : List X) (last : X) → reverse (front ++ last ∷ []) ≡ last ∷ reverse front
last_first front last = reverse-append front (last ∷ [])
