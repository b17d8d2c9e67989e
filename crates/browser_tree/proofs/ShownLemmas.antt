-- What nodes and components show.
use Rattle.std.proofs.Common.{arith, ◌≡◌, ◌∙◌, refl, sym, ap, ℕ, zero, suc, ◌-◌, ◌<◌, List, [], ◌∷◌, ◌++◌, map, Some}
use Rattle.std.specs.List.{flat_map}
use Rattle.std.specs.Option.{unwrap_or}
use Rattle.page_core.specs.declared.node.Node.{Node}
use Rattle.edit_meaning.specs.declared.browser_node.BrowserNode.{BrowserNode}
use Rattle.page_core.specs.declared.node.Node.TheVariants as page
use Rattle.edit_meaning.specs.declared.browser_node.BrowserNode.TheVariants as node
use Rattle.edit_meaning.specs.declared.browser_node.BrowserNode.TheOpen.{BrowserNode-F}
use Rattle.edit_meaning.specs.declared.browser_node.BrowserNode.TheFolds.{fold-roll-BrowserNode}
use Rattle.edit_meaning.specs.declared.names.Names.{Names}
use Rattle.edit_meaning.specs.Focus.{Tree}
use Rattle.edit_meaning.specs.Edits.{nodes_of}
use Rattle.edit_meaning.specs.Shown.{shown, shown_layer, component_shown}

pub flat_map_map : {X Y : Type 0} (f : X → List Y) (xs : List X) → flat_map (λ it. it) (map f xs) ≡ flat_map f xs
flat_map_map f [] = refl
flat_map_map f (x ∷ xs) = ap (λ it. f x ++ it) (flat_map_map f xs)

pub shown_some : (within : ℕ) (tree : Tree) (number : ℕ) (nodes : List BrowserNode) → 0 < within → nodes_of tree number ≡ Some nodes
    → component_shown within tree number ≡ flat_map (shown (component_shown (within - 1) tree)) nodes
shown_some zero tree number nodes some is = absurd (omega arith)
shown_some (suc within) tree number nodes some is =
    let one_less : suc within - 1 ≡ within = omega arith
    in ap (λ it. flat_map (shown (component_shown within tree)) (unwrap_or it [])) is ∙ ap (λ it. flat_map (shown (component_shown it tree)) nodes) (sym one_less)

pub shown_element : (shown_of : ℕ → List Node) (born : ℕ) (name : List ℕ) (names : Names) (children : List BrowserNode)
    → shown shown_of (node.Element born name names children) ≡ page.Element born name names.attributes names.handlers (flat_map (shown shown_of) children) ∷ []
shown_element shown_of born name names children =
    ap (shown shown_of) (sym (node.rolls-Element born name names children))
    ∙ fold-roll-BrowserNode (List Node) (shown_layer shown_of) (BrowserNode-F.Element born name names children)
    ∙ ap (λ it. page.Element born name names.attributes names.handlers it ∷ []) (flat_map_map (shown shown_of) children)
