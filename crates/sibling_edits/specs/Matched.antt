-- The pairs of two lists, told from both sides, and what the new list has by them.
use Rattle.std.specs.Prelude.{◌≡◌, ℕ, List, [], ◌∷◌, slice_get, Option, Some, None}
use Rattle.std.specs.Option.{unwrap_or}
use Rattle.frame_core.specs.declared.wire_node.WireNode.{WireNode}
use Rattle.edit_meaning.specs.declared.browser_node.BrowserNode.{BrowserNode}
use Rattle.edit_meaning.specs.Made.{made}

-- for each new slot the place of its pair among the old ones, and for each old slot the place of its pair among the new ones
pub record Matched (from to : List (Option ℕ)) : Type 0 where
  pub there : (j i : ℕ) → slice_get from j ≡ Some (Some i) → slice_get to i ≡ Some (Some j)
  pub back : (i j : ℕ) → slice_get to i ≡ Some (Some j) → slice_get from j ≡ Some (Some i)

-- each new slot has the node of its pair, or the node that the batch makes of what it says
abbrev pub carried : ℕ → List (Option ℕ) → List WireNode → List BrowserNode → List BrowserNode
carried batch [] wires old = []
carried batch (pair ∷ from) [] old = []
carried batch (None ∷ from) (wire ∷ wires) old = made batch wire ∷ carried batch from wires old
carried batch (Some place ∷ from) (wire ∷ wires) old = unwrap_or (slice_get old place) (made batch wire) ∷ carried batch from wires old
