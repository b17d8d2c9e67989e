-- What the names in the code of a component stand for.
use Rattle.std.specs.Prelude.{ℕ, List, [], ◌∷◌, filter}
use Rattle.std.specs.List.{flat_map}
use Rattle.cs_ast.specs.declared.cs_type.CsType.{CsType}
use Rattle.cs_ast.specs.declared.cs_type.CsType.TheVariants as t
use Rattle.cs_ast.specs.declared.member.Argument.{Argument}
use Rattle.cs_ast.specs.declared.member.Member.{Member}
use Rattle.cs_ast.specs.declared.scope.Effect.{Effect}
use Rattle.cs_ast.specs.declared.scope.Scope.{Scope}
use Rattle.cs_rules.specs.Names.{with_local}
use Rattle.cs_rules.specs.Written.{type_of}
use Rattle.razor_ast.specs.declared.component.Component.{Component}
use Rattle.razor_rules.specs.Members.{is_record, names_of, numbered_effects}

-- the records of all files, in their order
abbrev pub records_of : List Component → List Member
records_of components = flat_map (λ component. filter (λ one. is_record one.kind) component.members) components

-- where the code of a component stands: the records and the components of its program, its position among these, the number of its first body, and its members
pub record Home : Type 0 where
  pub records : List Member
  pub components : List Component
  pub position : ℕ
  pub first : ℕ
  pub members : List Member

-- the effects of its methods by the numbers of their bodies
abbrev pub effects_in : Home → List Effect → List (ℕ × Effect)
effects_in home effects = numbered_effects home.first home.members effects

-- of initial values: no member may be named
abbrev pub initial_scope : Home → Scope
initial_scope home = record { names = []; records = home.records; result = t.Nothing }

-- of all other code: the members
abbrev pub member_scope : Home → Scope
member_scope home = record { names = names_of home.first home.members; records = home.records; result = t.Nothing }

-- arguments as locals
abbrev pub with_locals : List Argument → Scope → Scope
with_locals [] s = s
with_locals (one ∷ others) s = with_locals others (with_local s one.name.name (type_of one.cs_type))

-- the locals that a body begins with: its arguments, or one that no name stands for
abbrev pub with_arguments : List Argument → Scope → Scope
with_arguments [] s = with_local s [] t.Nothing
with_arguments (one ∷ others) s = with_locals (one ∷ others) s

-- the same code with another result
abbrev pub with_result : CsType → Scope → Scope
with_result result s = record s { result = result }
