-- What tags are the tags of.
use Rattle.std.specs.Prelude.{ℕ, ◌+◌, codes, List, [], ◌∷◌, if◌then◌else◌, Option, Some, None, option_map, bytes_eq}
use Rattle.cs_ast.specs.declared.cs_type.CsType.{CsType}
use Rattle.cs_ast.specs.declared.scope.Scope.{Scope}
use Rattle.razor_ast.specs.declared.attribute.Attribute.{Attribute}
use Rattle.razor_ast.specs.declared.component.Component.{Component}
use Rattle.page_meaning.specs.Tags.{Target, bound_to, component_at, expression_in, given_in, provider, text_in, type_if_fine}

-- the type of the value of a provider
abbrev pub provided : Scope → List Attribute → Option CsType
provided s attributes = bound_to (bound_to (given_in attributes (codes "Value")) expression_in) (type_if_fine s)

abbrev pub provided_name : List Attribute → Option (List ℕ)
provided_name attributes = bound_to (given_in attributes (codes "Name")) text_in

-- the first component of a name, counted from a position on
abbrev pub component_from : List Component → List ℕ → ℕ → Option Target
component_from [] name position = None
component_from (one ∷ others) name position = if bytes_eq one.name name then Some (component_at position one) else component_from others name (position + 1)

abbrev pub target : List Component → Scope → List ℕ → List Attribute → Option Target
target components s name attributes =
    if bytes_eq name (codes "CascadingValue") then option_map (provider attributes) (provided s attributes) else component_from components name 0
