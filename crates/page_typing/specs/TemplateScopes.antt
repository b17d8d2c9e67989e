-- The scopes in templates: the members of a component, and locals that were declared one after another.
use Rattle.std.specs.Prelude.{List, [], ◌∷◌, ◌++◌, ℕ}
use Rattle.cs_ast.specs.declared.cs_type.CsType.{CsType}
use Rattle.cs_ast.specs.declared.scope.Scope.{Scope}
use Rattle.cs_rules.specs.Names.{with_local}
use Rattle.razor_rules.specs.Scopes.{Home, member_scope}

-- a scope in a template, with locals of these types
pub data TemplateScope (home : Home) : Scope → List CsType → Type 0 where
  top : TemplateScope home (member_scope home) []
  declared : (s : Scope) (locals : List CsType) (name : List ℕ) (type : CsType) → TemplateScope home s locals → TemplateScope home (with_local s name type) (locals ++ type ∷ [])
