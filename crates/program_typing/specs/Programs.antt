-- Programs of several components that keep to their types.
use Rattle.std.specs.Prelude.{◌≡◌, ℕ, Bool, true, false, List, [], map, sum, slice_get, Some}
use Rattle.std.specs.List.{flat_map}
use Rattle.cs_ast.specs.declared.cs_type.CsType.{CsType}
use Rattle.cs_ast.specs.declared.member.Member.{Member}
use Rattle.cs_rules.specs.Judged.{fine}
use Rattle.cs_typing.specs.Bodies.{BodiesHave}
use Rattle.cs_typing.specs.Types.{Types}
use Rattle.drawing_meaning.specs.Acts.{Act}
use Rattle.razor_ast.specs.declared.component.Component.{Component}
use Rattle.razor_ast.specs.declared.node.TNode.{TNode}
use Rattle.razor_rules.specs.Declarations.{member_rules, members_rules}
use Rattle.razor_rules.specs.Grounds.{top}
use Rattle.razor_rules.specs.Numbers.{numbers_of}
use Rattle.razor_rules.specs.Parts as rule
use Rattle.razor_rules.specs.Programs.{home_of}
use Rattle.razor_rules.specs.Scopes.{Home, member_scope}
use Rattle.razor_rules.specs.Templates.{part_of}
use Rattle.page_meaning.specs.Items.{component_acts, bodies, templates}
use Rattle.page_meaning.specs.Parts as page
use Rattle.page_meaning.specs.Resolved.{Placing, Resolves, place_at}
use Rattle.page_typing.specs.Acts.{ActsHave}
use Rattle.page_typing.specs.Formed.{ContentFormed, MethodsFormed}
use Rattle.page_typing.specs.Homes.{surroundings, HomeFits}
use Rattle.page_typing.specs.Numbering.{Rises}
use Rattle.page_typing.specs.Resolving.{Resolved}
use Rattle.page_typing.specs.Templates.{TemplatesHave}

-- what the template of a component comes to
abbrev pub template_of : Home → List TNode → Resolves (List Act)
template_of home nodes = page.in_order (map page.part_of nodes) home (member_scope home)

-- a template comes to parts with types, where the types know the members of its component, and what it places has the numbers of its nodes
pub record Comes (home : Home) (nodes : List TNode) : Type 0 where
  pub has_types : (types : Types) → HomeFits types home → Resolved types true (λ all. ActsHave (surroundings types home) true false [] [] all) (template_of home nodes)
  pub rises : Rises (place_at home 0) (place_at home (sum (map numbers_of nodes))) (template_of home nodes)

-- the members of a component break no rule and are formed, and its template comes to parts with types
pub record IsSound (home : Home) (component : Component) : Type 0 where
  pub invoking : List ℕ
  pub circular : List ℕ → Bool
  pub members : flat_map (λ (one : Member). member_rules home invoking circular one.kind) component.members ≡ []
  pub methods : MethodsFormed component.members
  pub template : Comes home component.nodes

-- so of each component of a program
abbrev pub AreSound : List Component → Type 0
AreSound components = (position : ℕ) (component : Component) → slice_get components position ≡ Some component → IsSound (home_of components position component) component

-- the template of the component at a position has types, over no locals
pub record HasTemplate (types : Types) (components : List Component) (position : ℕ) (component : Component) : Type 0 where
  pub it : Placing (List Act)
  pub comes : component_acts (home_of components position component) component ≡ fine it
  pub inner : List CsType
  pub has : ActsHave (record { types = types; component = position }) true false [] inner it.made

-- the bodies, the fragments and the components of a program keep to the types
pub record ProgramHas (types : Types) (components : List Component) : Type 0 where
  pub bodies : BodiesHave types (bodies components)
  pub fragments : TemplatesHave types true (templates components)
  pub each : (position : ℕ) (component : Component) → slice_get components position ≡ Some component → HasTemplate types components position component

-- the members and the template of the component at a position break no rule
pub record ComponentKeeps (components : List Component) (position : ℕ) (one : Component) : Type 0 where
  pub invoking : List ℕ
  pub impure : List ℕ
  pub circular : List ℕ → Bool
  pub earlier : List Member
  pub members : members_rules (home_of components position one) invoking circular earlier ≡ []
  pub template : rule.in_order (map (part_of (home_of components position one)) one.nodes) (top (home_of components position one) impure) ≡ []

abbrev pub AllKeep : List Component → Type 0
AllKeep components = (position : ℕ) (one : Component) → slice_get components position ≡ Some one → ComponentKeeps components position one

-- a component as files spell it, without tags of components
pub record IsFormed (component : Component) : Type 0 where
  pub numbers : ℕ
  pub content : ContentFormed 0 numbers component.nodes
  pub methods : MethodsFormed component.members

abbrev pub AreFormed : List Component → Type 0
AreFormed components = (position : ℕ) (one : Component) → slice_get components position ≡ Some one → IsFormed one
