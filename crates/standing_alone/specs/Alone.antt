-- Which components can be rendered by themselves.
use Rattle.std.specs.Prelude.{ℕ, Bool, true, false, not, ◌&&◌, ◌||◌, codes, List, map, bytes_eq}
use Rattle.std.specs.List.{list_all}
use Rattle.cs_ast.specs.declared.member.MemberKind.{MemberKind}
use Rattle.cs_ast.specs.declared.member.MemberKind.TheVariants.{Parameter, Method}
use Rattle.razor_ast.specs.declared.component.Component.{Component}
use Rattle.standing_alone.specs.Tags.{any_of, has_tag}

abbrev pub is_lifecycle : List ℕ → Bool
is_lifecycle name = bytes_eq name (codes "OnInitialized") || bytes_eq name (codes "OnParametersSet") || bytes_eq name (codes "Dispose")

-- a member that is nothing from outside, and nothing that is run from there
abbrev pub is_own : MemberKind → Bool
is_own (Parameter cascading source cs_type name initial) = false
is_own (Method result name arguments body) = not (is_lifecycle name.name)
is_own _ = true

-- a component that disposes of nothing, whose members are its own, and in whose template there is no tag of a component
abbrev pub stands_alone : Component → Bool
stands_alone it = not it.disposes && (list_all (λ one. is_own one.kind) it.members && not (any_of (map has_tag it.nodes)))
