use Rattle.std.proofs.Common.{◌≡◌, ◌++◌, ◌+◌, ◌*◌, map, drop}
use Rattle.std.specs.List.{flat_map}
use Rattle.edit_meaning.specs.Shown.{shown, component_shown}
use Rattle.browser_tree.proofs.Depths.{wide}
use Rattle.browser_tree.proofs.showing.+show.Given as goal

abbrev pub invariant-show_all-loop-node : goal.invariant-show_all-loop-node
invariant-show_all-loop-node l =
    l.page ++ flat_map (shown (component_shown l.within l.tree.entries)) (drop l.node-index l.nodes)
    ≡ l.initial.page ++ flat_map (shown (component_shown l.within l.tree.entries)) l.nodes

abbrev pub decreases-show : goal.decreases-show
decreases-show l = l.within * wide l.tree.now.entries + 2 * goal.size-show l + 2

abbrev pub decreases-show_all : goal.decreases-show_all
decreases-show_all l = l.within * wide l.tree.now.entries + 2 * goal.size-show_all l + 3

abbrev pub decreases-show_component : goal.decreases-show_component
decreases-show_component l = l.within * wide l.tree.now.entries + 1
