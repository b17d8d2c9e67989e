-- The first items of a component by itself.
use Rattle.std.specs.Prelude.{[], ◌∷◌}
use Rattle.razor_ast.specs.declared.component.Component.{Component}
use Rattle.razor_rules.specs.Programs.{home_of}
use Rattle.page_meaning.specs.Initial.{initial_fields, fields_of, no_fields}
use Rattle.page_meaning.specs.Items.{items}
use Rattle.first_rendering.specs.First.{FirstItems, behind_fields, of_drawn}

-- the items of a program of one component that has no tags of components, no parameters and no lifecycle methods, over its initial fields, as instance 1 at the top of the page
unfoldable pub items_alone : Component → FirstItems
items_alone component =
    behind_fields (initial_fields (home_of (component ∷ []) 0 component) 1 component.members)
    (λ values. of_drawn (items (component ∷ []) no_fields (fields_of 1 values) 0 component 1 1))
