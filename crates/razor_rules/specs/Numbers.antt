-- The numbers of bodies and templates: of each component first those of its members, then those of the numbers in its content.
use Rattle.std.specs.Prelude.{ℕ, ◌+◌, List, length, map, sum, take, Option, Some, None}
use Rattle.cs_ast.specs.declared.member.Member.{Member}
use Rattle.razor_ast.specs.declared.attribute.Attribute.{Attribute}
use Rattle.razor_ast.specs.declared.attribute.AttributeKind.{AttributeKind}
use Rattle.razor_ast.specs.declared.attribute.AttributeKind.TheVariants as ak
use Rattle.razor_ast.specs.declared.component.Component.{Component}
use Rattle.razor_ast.specs.declared.node.TNode.{TNode}
use Rattle.razor_ast.specs.declared.node.TNode.TheOpen.{TNode-F}
use Rattle.razor_ast.specs.declared.node.TNode.TheFolds.{fold-TNode, fold-TSection}
use Rattle.razor_ast.specs.declared.node.TSection.{TSection}

-- how many numbers an attribute has
unfoldable pub numbers_of_kind : AttributeKind → ℕ
numbers_of_kind (ak.Mixed number value) = 1
numbers_of_kind (ak.Key value) = 0
numbers_of_kind (ak.Event number value) = 1
numbers_of_kind (ak.Bind number field) = 2
numbers_of_kind ak.BindEvent = 0
numbers_of_kind (ak.Parameter number given) = 1
numbers_of_kind (ak.Context number name) = 1

abbrev pub numbers_of_tag : List Attribute → List ℕ → ℕ
numbers_of_tag attributes children = 1 + sum (map (λ one. numbers_of_kind one.kind) attributes) + sum children

abbrev pub if_any : Option ℕ → ℕ
if_any None = 0
if_any (Some n) = n

-- how many numbers a node has, by those of its parts
abbrev pub numbers_of_parts : TNode-F ℕ ℕ → ℕ
numbers_of_parts (TNode-F.Element number place name attributes children) = numbers_of_tag attributes children
numbers_of_parts (TNode-F.Child number place name attributes children) = numbers_of_tag attributes children
numbers_of_parts (TNode-F.Text number place text) = 1
numbers_of_parts (TNode-F.Raw number place text) = 1
numbers_of_parts (TNode-F.Content number place value) = 1
numbers_of_parts (TNode-F.Group place items) = sum items
numbers_of_parts (TNode-F.Statement statement) = 0
numbers_of_parts (TNode-F.Block place items) = sum items
numbers_of_parts (TNode-F.If place condition holds fails) = holds + if_any fails
numbers_of_parts (TNode-F.Switch place value sections) = sum sections
numbers_of_parts (TNode-F.For number place start condition step body) = 1 + body
numbers_of_parts (TNode-F.ForEach number place name list body) = 1 + body
numbers_of_parts (TNode-F.While number place condition body) = 1 + body

unfoldable pub numbers_of : TNode → ℕ
numbers_of = fold-TNode ℕ ℕ numbers_of_parts (λ section. sum section.items)

-- how many numbers a section of a `switch` has
unfoldable pub numbers_of_section : TSection → ℕ
numbers_of_section = fold-TSection ℕ ℕ numbers_of_parts (λ section. sum section.items)

-- how many bodies and templates a component has numbers for
abbrev pub span : Component → ℕ
span component = length component.members + sum (map numbers_of component.nodes)

-- the number of the first body of the component at a position
abbrev pub first_number : List Component → ℕ → ℕ
first_number components position = sum (map span (take position components))

-- the number of the body or the template that stands at a number in the content of a component
abbrev pub number_at : ℕ → List Member → ℕ → ℕ
number_at first members number = first + length members + number
