-- What bytes make of a page, and why a batch is refused.
use Rattle.std.specs.Prelude.{◌≡◌, ℕ, List, Some, None, Result, Ok, Err}
use Rattle.hub_messages.specs.declared.screen.ScreenFault.{ScreenFault}
use Rattle.hub_messages.specs.declared.screen.ScreenFault.TheVariants.{Read, Apply, Oom}
use Rattle.page_core.specs.declared.counts.Counts.{Counts}
use Rattle.page_core.specs.declared.node.Node.{Node}
use Rattle.plain_page.specs.declared.screen.Shown.{Shown}
use Rattle.plain_page.specs.declared.screen.Shown.TheVariants.{Page, Unread, Unlike}
use Rattle.plain_page.specs.Spelling.{Spells}
use Rattle.plain_page.specs.Turning.{counts_between}

-- another page with its counts; or the bytes spell none; or they spell one to which no batch takes the page
abbrev pub Shows : ℕ → List Node → List ℕ → Shown → Type 0
Shows number before bytes (Page page counts) = Spells bytes page.nodes × (counts_between number before page.nodes ≡ Some counts)
Shows number before bytes Unread = (nodes : List Node) → Spells bytes nodes → ⊥
Shows number before bytes Unlike = (nodes : List Node) × Spells bytes nodes × (counts_between number before nodes ≡ None)

-- a batch is unread where its bytes spell no page, and does not fit where they spell one to which no batch takes the page
abbrev pub HasCause : ℕ → List Node → List ℕ → Result Counts ScreenFault → Type 0
HasCause number before bytes (Ok counts) = Unit {0}
HasCause number before bytes (Err (Read fault)) = (nodes : List Node) → Spells bytes nodes → ⊥
HasCause number before bytes (Err (Apply fault)) = (nodes : List Node) × Spells bytes nodes × (counts_between number before nodes ≡ None)
HasCause number before bytes (Err Oom) = Unit {0}
