-- Turns of the loops that read values and attributes.
use Rattle.std.proofs.Common.{◌≡◌, ℕ, zero, suc, ◌+◌, ◌-◌, ◌<◌, List, [], ◌∷◌, ◌++◌, length, refl, ap, ◌∙◌, arith}
use Rattle.std.specs.Prelude.{Bool, Option, Some, None}
use Rattle.razor_token.specs.declared.piece.Piece.{Piece}
use Rattle.razor_ast.specs.declared.attribute.Attribute.{Attribute}
use Rattle.razor_ast.specs.declared.attribute.ValuePart.{ValuePart}
use Rattle.razor_reader.specs.declared.mark.Mark.TheVariants as m
use Rattle.razor_reader.specs.Reading.{Read, Numbered, ◌>>=◌, after}
use Rattle.razor_reader.specs.AttributeReading.{part_first, parts_in, parts_first, to_attribute, attribute_first, attributes_in, some_attributes}
use Rattle.razor_reader.proofs.ListLoops.{less, no_more, with_front, with_numbered, nothing_front, nothing_numbered, front_front, numbered_front}

-- parts of a value
parts_by : ℕ → List Piece → Option (List Piece) → Read (List ValuePart)
parts_by n ps o = elim o [ Some rest ↦ Some ([], rest) | None ↦ part_first ps >>= λ x. (parts_in n x.1 >>= λ y. Some (x.0 ∷ y.0, y.1)) ]

parts_law : (n : ℕ) (ps : List Piece) → 0 < n → parts_in n ps ≡ parts_by (n - 1) ps (after m.ValueEnd ps)
unfolding parts_in parts_by
parts_law zero ps h = absurd (omega arith)
parts_law (suc n) ps h = ap (λ i. parts_by i ps (after m.ValueEnd ps)) (less n)

pub parts_start : (ps : List Piece) → parts_first ps ≡ with_front [] (parts_in (length ps) ps)
unfolding parts_first
parts_start ps = nothing_front (parts_in (length ps) ps)

pub parts_none : (n : ℕ) (ps : List Piece) (found : List ValuePart) → n ≡ 0 → with_front found (parts_in n ps) ≡ None
unfolding parts_in
parts_none zero ps found h = refl
parts_none (suc n) ps found h = absurd (omega arith)

pub parts_end : (n : ℕ) (ps rest : List Piece) (found : List ValuePart) → 0 < n → after m.ValueEnd ps ≡ Some rest → with_front found (parts_in n ps) ≡ Some (found, rest)
unfolding parts_by
parts_end n ps rest found h e = ap (with_front found) (parts_law n ps h ∙ ap (parts_by (n - 1) ps) e) ∙ ap (λ l. Some (l, rest)) (no_more found)

pub parts_fail : (n : ℕ) (ps : List Piece) (found : List ValuePart) → 0 < n → after m.ValueEnd ps ≡ None → part_first ps ≡ None → with_front found (parts_in n ps) ≡ None
unfolding parts_by
parts_fail n ps found h e i = ap (with_front found) (parts_law n ps h ∙ ap (parts_by (n - 1) ps) e ∙ ap (λ o. o >>= λ x. (parts_in (n - 1) x.1 >>= λ y. Some (x.0 ∷ y.0, y.1))) i)

pub parts_turn : (n : ℕ) (ps us : List Piece) (found : List ValuePart) (part : ValuePart) → 0 < n → after m.ValueEnd ps ≡ None → part_first ps ≡ Some (part, us) →
    with_front found (parts_in n ps) ≡ with_front (found ++ part ∷ []) (parts_in (n - 1) us)
unfolding parts_by
parts_turn n ps us found part h e i =
    ap (with_front found) (parts_law n ps h ∙ ap (parts_by (n - 1) ps) e ∙ ap (λ o. o >>= λ x. (parts_in (n - 1) x.1 >>= λ y. Some (x.0 ∷ y.0, y.1))) i)
    ∙ front_front found part (parts_in (n - 1) us)

-- attributes
module _ (all : List Piece) (component : Bool) where
  attributes_by : ℕ → ℕ → List Piece → Option (List Piece) → Numbered (List Attribute)
  attributes_by left n ps o = elim o [
    | None ↦ Some ([], n, ps)
    | Some name ↦ attribute_first all component n name >>= λ x. (attributes_in all component left x.1 x.2 >>= λ y. Some (x.0 ∷ y.0, y.1, y.2))
  ]

  attributes_law : (left n : ℕ) (ps : List Piece) → 0 < left → attributes_in all component left n ps ≡ attributes_by (left - 1) n ps (to_attribute ps)
  unfolding attributes_in attributes_by
  attributes_law zero n ps h = absurd (omega arith)
  attributes_law (suc left) n ps h = ap (λ i. attributes_by i n ps (to_attribute ps)) (less left)

  pub attributes_start : (n : ℕ) (ps : List Piece) → some_attributes all component n ps ≡ with_numbered [] (attributes_in all component (length ps + 1) n ps)
  unfolding some_attributes
  attributes_start n ps = nothing_numbered (attributes_in all component (length ps + 1) n ps)

  pub attributes_none : (left n : ℕ) (ps : List Piece) (found : List Attribute) → left ≡ 0 → with_numbered found (attributes_in all component left n ps) ≡ None
  unfolding attributes_in
  attributes_none zero n ps found h = refl
  attributes_none (suc left) n ps found h = absurd (omega arith)

  pub attributes_end : (left n : ℕ) (ps : List Piece) (found : List Attribute) → 0 < left → to_attribute ps ≡ None → with_numbered found (attributes_in all component left n ps) ≡ Some (found, n, ps)
  unfolding attributes_by
  attributes_end left n ps found h e = ap (with_numbered found) (attributes_law left n ps h ∙ ap (attributes_by (left - 1) n ps) e) ∙ ap (λ l. Some (l, n, ps)) (no_more found)

  pub attributes_fail : (left n : ℕ) (ps name : List Piece) (found : List Attribute) → 0 < left → to_attribute ps ≡ Some name → attribute_first all component n name ≡ None →
      with_numbered found (attributes_in all component left n ps) ≡ None
  unfolding attributes_by
  attributes_fail left n ps name found h e i =
      ap (with_numbered found) (attributes_law left n ps h ∙ ap (attributes_by (left - 1) n ps) e ∙ ap (λ o. o >>= λ x. (attributes_in all component (left - 1) x.1 x.2 >>= λ y. Some (x.0 ∷ y.0, y.1, y.2))) i)

  pub attributes_turn : (left n i : ℕ) (ps name us : List Piece) (found : List Attribute) (a : Attribute) → 0 < left → to_attribute ps ≡ Some name → attribute_first all component n name ≡ Some (a, i, us) →
      with_numbered found (attributes_in all component left n ps) ≡ with_numbered (found ++ a ∷ []) (attributes_in all component (left - 1) i us)
  unfolding attributes_by
  attributes_turn left n i ps name us found a h e j =
      ap (with_numbered found) (attributes_law left n ps h ∙ ap (attributes_by (left - 1) n ps) e ∙ ap (λ o. o >>= λ x. (attributes_in all component (left - 1) x.1 x.2 >>= λ y. Some (x.0 ∷ y.0, y.1, y.2))) j)
      ∙ numbered_front found a (attributes_in all component (left - 1) i us)
