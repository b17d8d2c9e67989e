-- Components whose page is shown without others: they have no tags of components and no parameters.
use Rattle.std.specs.Prelude.{◌≡◌, ℕ, ◌==◌, ◌||◌, Bool, true, false, if◌then◌else◌, List, [], ◌∷◌, map, Option, Some, None}
use Rattle.std.specs.List.{list_any}
use Rattle.cs_ast.specs.declared.member.Member.{Member}
use Rattle.cs_ast.specs.declared.member.MemberKind.{MemberKind}
use Rattle.cs_ast.specs.declared.member.MemberKind.TheVariants.{Field, Parameter, Method, Getter, RecordDef}
use Rattle.cs_ast.specs.declared.value.Value.{Value}
use Rattle.cs_meaning.specs.Outcome.{Outcome, gives, faults, breaks, continues, returns}
use Rattle.cs_meaning.specs.Outcome as outcome
use Rattle.razor_ast.specs.declared.component.Component.{Component}
use Rattle.razor_ast.specs.declared.node.TNode.{TNode, TNode-F}
use Rattle.razor_ast.specs.declared.node.TNode.TheFolds.{fold-TNode}
use Rattle.page_meaning.specs.Fresh.{First, page, ended, stuck}
use Rattle.page_typing.specs.Formed.{ContentFormed, MethodsFormed}

-- whether a tag of a component is in one of these
abbrev pub any_tag : List Bool → Bool
any_tag all = list_any (λ one. one) all

-- whether one is in a part of a template, by those in its parts
abbrev pub tag_in : TNode-F Bool Bool → Bool
tag_in (TNode-F.Element number place name attributes children) = any_tag children
tag_in (TNode-F.Child number place name attributes children) = true
tag_in (TNode-F.Text number place said) = false
tag_in (TNode-F.Raw number place said) = false
tag_in (TNode-F.Content number place a) = false
tag_in (TNode-F.Group place items) = any_tag items
tag_in (TNode-F.Statement one) = false
tag_in (TNode-F.Block place items) = any_tag items
tag_in (TNode-F.If place test holds None) = holds
tag_in (TNode-F.If place test holds (Some fails)) = holds || fails
tag_in (TNode-F.Switch place a sections) = any_tag sections
tag_in (TNode-F.For number place start test step body) = body
tag_in (TNode-F.ForEach number place name list body) = body
tag_in (TNode-F.While number place test body) = body

unfoldable pub has_tag : TNode → Bool
has_tag = fold-TNode Bool Bool tag_in (λ section. any_tag section.items)

-- no tag of a component is in them
abbrev pub NoTags : List TNode → Type 0
NoTags nodes = any_tag (map has_tag nodes) ≡ false

-- none of the members is a parameter
abbrev pub NoParameter : MemberKind → Type 0
NoParameter (Parameter cascading source cs_type name initial) = ⊥
NoParameter (Field cs_type name initial) = Unit {0}
NoParameter (Method result name arguments of) = Unit {0}
NoParameter (Getter result name value) = Unit {0}
NoParameter (RecordDef name parts) = Unit {0}

abbrev pub NoParameters : List Member → Type 0
NoParameters [] = Unit {0}
NoParameters (one ∷ others) = NoParameter one.kind × NoParameters others

-- formed as files spell it, without tags of components and parameters
pub record IsAlone (component : Component) : Type 0 where
  pub numbers : ℕ
  pub content : ContentFormed 0 numbers component.nodes
  pub methods : MethodsFormed component.members
  pub no_parameters : NoParameters component.members

-- these hold of the values, or a fault ends them
abbrev pub ValuesBegun : (List Value → Type 0) → Outcome (List Value) → Type 0
ValuesBegun good (gives values s) = good values
ValuesBegun good (faults fault s) = Unit {0}
ValuesBegun good (breaks s) = ⊥
ValuesBegun good (continues s) = ⊥
ValuesBegun good (returns x s) = ⊥
ValuesBegun good outcome.stuck = ⊥

-- a page, or the fault that ends it
abbrev pub IsShown : First → Type 0
IsShown (page nodes) = Unit {0}
IsShown (ended fault) = Unit {0}
IsShown stuck = ⊥

-- the only instance there is, of the only component
abbrev pub one_instance : ℕ → Option ℕ
one_instance who = if who == 1 then Some 0 else None
