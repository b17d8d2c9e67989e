-- The content of the tags of components.
use Rattle.std.specs.Prelude.{Bool, true, false}
use Rattle.razor_parts.specs.declared.tags.Shape.{Shape}
use Rattle.razor_parts.specs.declared.tags.Shape.TheVariants as shape

-- whether content of a shape is the tags of fragments
unfoldable pub is_fragments : Shape → Bool
is_fragments shape.Fragments = true
is_fragments _ = false
