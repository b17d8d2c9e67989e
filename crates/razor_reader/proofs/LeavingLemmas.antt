-- The last of some nodes.
use Rattle.std.proofs.Common.{◌≡◌, ℕ, suc, ◌-◌, List, [], ◌∷◌, length, refl, sym, ap, ◌∙◌, arith}
use Rattle.std.specs.Prelude.{Bool, true, false, Some, None}
use Rattle.std.specs.List.{slice_get}
use Rattle.razor_ast.specs.declared.node.TNode.{TNode}
use Rattle.razor_reader.specs.GoingReading.{node_leaves, leaves}

-- the last element of a longer list
last_of : (a other : TNode) (others : List TNode) → slice_get (a ∷ other ∷ others) (length (a ∷ other ∷ others) - 1) ≡ slice_get (other ∷ others) (length (other ∷ others) - 1)
last_of a other others =
    let first : length (a ∷ other ∷ others) - 1 ≡ suc (length others) = omega arith in
    let second : length others ≡ length (other ∷ others) - 1 = omega arith in
    ap (slice_get (a ∷ other ∷ others)) first ∙ ap (slice_get (other ∷ others)) second

pub leaves_last : (nodes : List TNode) (a : TNode) → slice_get nodes (length nodes - 1) ≡ Some a → leaves nodes ≡ node_leaves a
leaves_last [] a e = absurd (cc)
leaves_last (first ∷ []) a e = let same : first ≡ a = cc in ap node_leaves same
leaves_last (first ∷ other ∷ others) a e = leaves_last (other ∷ others) a (sym (last_of first other others) ∙ e)

pub leaves_none : (nodes : List TNode) → slice_get nodes (length nodes - 1) ≡ None → leaves nodes ≡ false
leaves_none [] e = refl
leaves_none (first ∷ []) e = absurd (cc)
leaves_none (first ∷ other ∷ others) e = leaves_none (other ∷ others) (sym (last_of first other others) ∙ e)
