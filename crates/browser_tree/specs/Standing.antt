-- What the code's state stands for.
use Rattle.std.specs.Prelude.{◌≡◌, ℕ, List, reverse, Result, Ok, Err}
use Rattle.std.specs.List.{insert}
use Rattle.page_core.specs.declared.faults.ApplyFault.{ApplyFault}
use Rattle.page_core.specs.declared.faults.ApplyFault.TheVariants.{Oom}
use Rattle.edit_meaning.specs.declared.browser_node.BrowserNode.{BrowserNode}
use Rattle.edit_meaning.specs.Focus.{Tree, Focus}
use Rattle.browser_tree.specs.declared.focus.Focus.{Focus as Inner}

-- the code has the innermost element last
abbrev pub focus_of : Inner → Focus
focus_of focus = record { here = focus.here; above = reverse focus.above; entries = focus.entries; tree = focus.tree.entries }

-- the same focus, with a node put in at a place
abbrev pub Puts : ℕ → BrowserNode → Inner → Result Inner ApplyFault → Type 0
Puts sibling node focus (Ok new) = focus_of new ≡ record (focus_of focus) { here = insert focus.here sibling node }
Puts sibling node focus (Err fault) = fault ≡ Oom
