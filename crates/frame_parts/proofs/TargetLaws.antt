-- What tags are the tags of.
use Rattle.std.proofs.Common.{◌≡◌, ℕ, ◌+◌, List, [], ◌∷◌, refl, ap, ◌∙◌, inl, inr}
use Rattle.std.specs.Prelude.{codes, if◌then◌else◌, Option, Some, None, option_map, bytes_eq}
use Rattle.std.proofs.lemmas.Bool.{cases_Bool}
use Rattle.cs_ast.specs.declared.scope.Scope.{Scope}
use Rattle.razor_ast.specs.declared.attribute.Attribute.{Attribute}
use Rattle.razor_ast.specs.declared.component.Component.{Component}
use Rattle.razor_rules.specs.Parameters.{component_named}
use Rattle.page_meaning.specs.Tags.{Target, bound_to, component_at, position_from, provider, target_of}
use Rattle.frame_parts.specs.Targets.{component_from, provided, target}

abbrev found : Option Component → Option ℕ → Option Target
found one position = bound_to one (λ it. option_map (λ at. component_at at it) position)

first_found : (components : List Component) (name : List ℕ) (position : ℕ) → found (component_named components name) (position_from components name position) ≡ component_from components name position
first_found [] name position = refl
first_found (one ∷ others) name position =
    elim (cases_Bool (bytes_eq one.name name)) [
      | inl h ↦ rw h refl
      | inr h ↦ rw h (first_found others name (position + 1))
    ]

pub target_law : (components : List Component) (s : Scope) (name : List ℕ) (attributes : List Attribute) → target_of components s name attributes ≡ target components s name attributes
unfolding target_of
target_law components s name attributes =
    ap (λ (one : Option Target). if bytes_eq name (codes "CascadingValue") then option_map (provider attributes) (provided s attributes) else one) (first_found components name 0)
