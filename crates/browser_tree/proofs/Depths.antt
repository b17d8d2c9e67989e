-- How deep the nodes of a tree are at most.
use Rattle.std.proofs.Common.{arith, ◌≡◌, ◌∙◌, refl, sym, subst, ap, ℕ, zero, suc, ◌+◌, ◌*◌, ◌-◌, ◌<◌, ◌≤◌, List, [], ◌∷◌, max, Bool, true, false, cond, Option, Some, None}
use Rattle.std.proofs.Math.Nat.{suc-mul}
use denote.Param.Weighed.{most}
use Rattle.std.specs.Map.{lookup}
use Rattle.std.specs.Option.{unwrap_or}
use Rattle.std.proofs.lemmas.Option.{none-some}
use Rattle.edit_meaning.specs.declared.browser_node.BrowserNode.{BrowserNode}
use Rattle.edit_meaning.proofs.browser_node.BrowserNode.TheLaws.{the_size}
use Rattle.edit_meaning.specs.Focus.{Tree}

abbrev pub deepest_of : List BrowserNode → ℕ
deepest_of nodes = most the_size nodes

abbrev pub deepest : Tree → ℕ
deepest [] = 0
deepest (entry ∷ entries) = max (deepest_of entry.1) (deepest entries)

-- more than twice as deep, and something more
abbrev pub wide : Tree → ℕ
wide tree = 2 * deepest tree + 4

some_is : {X : Type 0} (x y : X) → Some x ≡ Some y → x ≡ y
some_is x y is = ap (λ it. unwrap_or it x) is

found_by : (test : Bool) (here : List BrowserNode) (rest : Option (List BrowserNode)) (nodes : List BrowserNode) (others : ℕ)
    → cond test (Some here) rest ≡ Some nodes → (rest ≡ Some nodes → deepest_of nodes ≤ others) → deepest_of nodes ≤ max (deepest_of here) others
found_by true here rest nodes others is in_rest = subst (λ it. deepest_of it ≤ max (deepest_of here) others) (some_is here nodes is) (omega arith)
found_by false here rest nodes others is in_rest = let less : deepest_of nodes ≤ others = in_rest is in omega arith

-- what the tree has is no deeper than its deepest
pub found_within : (test : ℕ → Bool) (tree : Tree) (nodes : List BrowserNode) → lookup test tree ≡ Some nodes → deepest_of nodes ≤ deepest tree
found_within test [] nodes is = absurd (none-some nodes is)
found_within test (entry ∷ entries) nodes is = found_by (test entry.0) entry.1 (lookup test entries) nodes (deepest entries) is (found_within test entries nodes)

product_less : (within width size : ℕ) → 0 < within → 2 * size + 2 < width → (within - 1) * width + 2 * size + 3 < within * width + 1
product_less zero width size some few = absurd (omega arith)
product_less (suc within) width size some few =
    let one_less : suc within - 1 ≡ within = omega arith
    in subst (λ n. n * width + 2 * size + 3 < suc within * width + 1) (sym one_less) (subst (λ n. within * width + 2 * size + 3 < n + 1) (sym (suc-mul within width)) (omega arith))

-- a component's nodes are shown with one component less round them
pub falls_within : (within : ℕ) (tree : Tree) (test : ℕ → Bool) (nodes : List BrowserNode) → 0 < within → lookup test tree ≡ Some nodes
    → (within - 1) * wide tree + 2 * deepest_of nodes + 3 < within * wide tree + 1
falls_within within tree test nodes some is =
    let deep : deepest_of nodes ≤ deepest tree = found_within test tree nodes is
    in product_less within (wide tree) (deepest_of nodes) some (omega arith)
