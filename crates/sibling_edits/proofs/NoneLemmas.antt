-- Where no node is left nothing is put in.
use Rattle.std.proofs.Common.{◌≡◌, ◌∙◌, ap, sym, ℕ, List, [], ◌∷◌, ◌++◌, reverse, Option, Some, None, refl, append-nil}
use Rattle.frame_core.specs.declared.wire_node.WireNode.{WireNode}
use Rattle.frame_core.specs.declared.edit.Edit.{Edit}
use Rattle.sibling_edits.specs.Plan.{additions_from}

additions-none : (place : ℕ) (from : List (Option ℕ)) → additions_from place from [] ≡ []
additions-none place [] = refl
additions-none place (None ∷ from) = refl
additions-none place (Some pair ∷ from) = refl

pub none-left : (place : ℕ) (from : List (Option ℕ)) (wires : List WireNode) (edits all : List Edit) → wires ≡ [] → edits ++ additions_from place from (reverse wires) ≡ all → edits ≡ all
none-left place from wires edits all none is =
    sym (append-nil edits) ∙ ap (λ (es : List Edit). edits ++ es) (sym (additions-none place from))
    ∙ ap (λ (ws : List WireNode). edits ++ additions_from place from (reverse ws)) (sym none) ∙ is
