-- Turns of the loop that reads labels.
use Rattle.std.proofs.Common.{◌≡◌, ℕ, zero, suc, ◌-◌, ◌<◌, List, [], ◌∷◌, ◌++◌, length, refl, ap, ◌∙◌, arith}
use Rattle.std.specs.Prelude.{true, false, if◌then◌else◌, Some, None}
use Rattle.cs_ast.specs.declared.expression.Label.{Label}
use Rattle.razor_token.specs.declared.piece.Piece.{Piece}
use Rattle.razor_reader.specs.Reading.{◌>>=◌}
use Rattle.razor_reader.specs.HeadReading.{has_label, label_first, labels_in, labels_first}
use Rattle.razor_reader.proofs.ListLoops.{less, with_front, nothing_front, front_front}

-- labels
labels_law : (n : ℕ) (ps : List Piece) → 0 < n → labels_in n ps ≡ (label_first ps >>= λ x. if has_label x.1 then (labels_in (n - 1) x.1 >>= λ y. Some (x.0 ∷ y.0, y.1)) else Some (x.0 ∷ [], x.1))
unfolding labels_in
labels_law zero ps h = absurd (omega arith)
labels_law (suc n) ps h = ap (λ i. label_first ps >>= λ x. if has_label x.1 then (labels_in i x.1 >>= λ y. Some (x.0 ∷ y.0, y.1)) else Some (x.0 ∷ [], x.1)) (less n)

pub labels_start : (ps : List Piece) → labels_first ps ≡ with_front [] (labels_in (length ps) ps)
unfolding labels_first
labels_start ps = nothing_front (labels_in (length ps) ps)

pub labels_none : (n : ℕ) (ps : List Piece) (found : List Label) → n ≡ 0 → with_front found (labels_in n ps) ≡ None
unfolding labels_in
labels_none zero ps found h = refl
labels_none (suc n) ps found h = absurd (omega arith)

pub labels_fail : (n : ℕ) (ps : List Piece) (found : List Label) → 0 < n → label_first ps ≡ None → with_front found (labels_in n ps) ≡ None
labels_fail n ps found h e = ap (with_front found) (labels_law n ps h ∙ ap (λ o. o >>= λ x. if has_label x.1 then (labels_in (n - 1) x.1 >>= λ y. Some (x.0 ∷ y.0, y.1)) else Some (x.0 ∷ [], x.1)) e)

pub labels_turn : (n : ℕ) (ps us : List Piece) (found : List Label) (l : Label) → 0 < n → label_first ps ≡ Some (l, us) → has_label us ≡ true →
    with_front found (labels_in n ps) ≡ with_front (found ++ l ∷ []) (labels_in (n - 1) us)
labels_turn n ps us found l h e i =
    ap (with_front found) (labels_law n ps h ∙ ap (λ o. o >>= λ x. if has_label x.1 then (labels_in (n - 1) x.1 >>= λ y. Some (x.0 ∷ y.0, y.1)) else Some (x.0 ∷ [], x.1)) e
    ∙ ap (λ d. if d then (labels_in (n - 1) us >>= λ y. Some (l ∷ y.0, y.1)) else Some (l ∷ [], us)) i)
    ∙ front_front found l (labels_in (n - 1) us)

pub labels_end : (n : ℕ) (ps us : List Piece) (found : List Label) (l : Label) → 0 < n → label_first ps ≡ Some (l, us) → has_label us ≡ false → with_front found (labels_in n ps) ≡ Some (found ++ l ∷ [], us)
labels_end n ps us found l h e i =
    ap (with_front found) (labels_law n ps h ∙ ap (λ o. o >>= λ x. if has_label x.1 then (labels_in (n - 1) x.1 >>= λ y. Some (x.0 ∷ y.0, y.1)) else Some (x.0 ∷ [], x.1)) e
    ∙ ap (λ d. if d then (labels_in (n - 1) us >>= λ y. Some (l ∷ y.0, y.1)) else Some (l ∷ [], us)) i)
