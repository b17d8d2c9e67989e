-- A place in a list.
use Rattle.std.proofs.Common.{◌≡◌, ℕ, suc, ◌<◌, List, ◌∷◌, ◌++◌, length, take, drop, get_or, sym, ap, ◌∙◌}
use Rattle.std.proofs.Math.Seq.{drop-cons}
use Rattle.std.proofs.lemmas.List.{take-append-drop}

-- a list is what stands before a place, what stands there, and what stands behind it
pub at_place : (lines : List (List ℕ)) (i : ℕ) (line : List ℕ) → i < length lines → line ≡ get_or lines i line → lines ≡ take i lines ++ (line ∷ drop (suc i) lines)
at_place lines i line within is =
    let here : drop i lines ≡ line ∷ drop (suc i) lines = drop-cons lines i line within ∙ ap (λ (x : List ℕ). x ∷ drop (suc i) lines) (sym is) in
    sym (take-append-drop i lines) ∙ ap (λ (x : List (List ℕ)). take i lines ++ x) here
