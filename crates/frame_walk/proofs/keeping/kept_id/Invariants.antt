use Rattle.std.proofs.Common.{◌≡◌, ℕ, ◌<◌, slice_get, Some}
use Rattle.frame_core.specs.declared.item_attribute.ItemAttribute.{ItemAttribute}
use Rattle.frame_core.specs.declared.item_attribute.ItemHandler.{ItemHandler}
use Rattle.frame_walk.specs.Keeping.{StaysAt}
use Rattle.frame_walk.proofs.keeping.kept_id.Given as goal

abbrev pub invariant-loop-attribute : goal.invariant-loop-attribute
invariant-loop-attribute l = (k : ℕ) (attribute : ItemAttribute) (old : ItemHandler) → k < l.attribute-index → slice_get l.was k ≡ Some attribute → StaysAt attribute l.name l.new old → ⊥
