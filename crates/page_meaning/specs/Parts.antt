-- What templates come to: by recursion on their nodes.
use Rattle.std.specs.Prelude.{ℕ, ◌||◌, Bool, true, false, not, codes, is_some, List, [], ◌∷◌, ◌++◌, map, filter, if◌then◌else◌, Option, Some, None, option_map}
use Rattle.std.specs.Option.{option_or}
use Rattle.std.specs.List.{list_any, list_all, flat_map}
use Rattle.text_core.specs.declared.place.Place.{Place}
use Rattle.cs_ast.specs.declared.cs_type.CsType.{CsType}
use Rattle.cs_ast.specs.declared.cs_type.CsType.TheVariants as t
use Rattle.cs_ast.specs.declared.expression.Stmt.{Stmt}
use Rattle.cs_ast.specs.declared.identifier.Ident.{Ident}
use Rattle.cs_ast.specs.declared.scope.Scope.{Scope}
use Rattle.cs_effects.specs.declared.deed.Deed.{Deed}
use Rattle.cs_meaning.specs.Sections.{Section}
use Rattle.cs_rules.specs.declared.rule.Rule.TheVariants.{UnknownComponent, UnknownParameter}
use Rattle.cs_rules.specs.Judged.{Judged, fine, breaks, known}
use Rattle.cs_rules.specs.Names.{with_local}
use Rattle.cs_rules.specs.Statements.{Done}
use Rattle.cs_rules.specs.Trees.{statement}
use Rattle.cs_typing.specs.Types.{Signature}
use Rattle.cs_typing.specs.Values.{awaited}
use Rattle.drawing_meaning.specs.Acts.{Act}
use Rattle.drawing_meaning.specs.Tags as act
use Rattle.drawing_meaning.specs.Tags.{Gives}
use Rattle.razor_ast.specs.Literals.{is_white}
use Rattle.razor_ast.specs.declared.attribute.Attribute.{Attribute}
use Rattle.razor_ast.specs.declared.attribute.AttributeKind.{AttributeKind}
use Rattle.razor_ast.specs.declared.attribute.AttributeKind.TheVariants as ak
use Rattle.razor_ast.specs.declared.node.TNode.{TNode}
use Rattle.razor_ast.specs.declared.node.TNode.TheOpen.{TNode-F}
use Rattle.razor_ast.specs.declared.node.TNode.TheFolds.{fold-TNode}
use Rattle.razor_rules.specs.Parameters.{Tagged, tagged, fragment_taken}
use Rattle.razor_rules.specs.Scopes.{Home, member_scope}
use Rattle.razor_rules.specs.TemplateDeeds.{if_any, expression_does, statement_does, attributes_do}
use Rattle.razor_rules.specs.Tags.{context_in, context_name}
use Rattle.razor_rules.specs.Templates.{option_list}
use Rattle.page_meaning.specs.Captures.{used, positions_of, with_captured}
use Rattle.page_meaning.specs.Nodes as node
use Rattle.page_meaning.specs.Placed.{signature, types_of, template}
use Rattle.page_meaning.specs.Resolved.{Makes, Resolves, alone, judged, put, each, place_at, ◌>>=◌}
use Rattle.page_meaning.specs.Tags as tags
use Rattle.page_meaning.specs.Tags.{Target, target_of}

-- what stands in a tag: what it does besides computing, and what it comes to as a list of its own
pub record Content : Type 0 where
  pub does : Deed → Bool
  pub makes : Makes

-- a tag that may be that of a fragment: its number, its name, the place of its `<`, the name that it gives to the argument, if it does, and its content
pub record Tag : Type 0 where
  pub number : ℕ
  pub name : List ℕ
  pub place : Place
  pub context : Option Ident
  pub content : Content

-- a part of a template: whether it is a text of white space alone; the tag that it is, if it may be that of a fragment; its number where it is a tag with a key; the number of the tag whose key is that of a turn with this body; what it does besides computing; what it comes to, and the scope behind it
pub record Part : Type 0 where
  pub blank : Bool
  pub tag : Option Tag
  pub keyed : Option ℕ
  pub turn_key : Option ℕ
  pub does : Deed → Bool
  pub makes : Makes
  pub behind : Scope → Judged Scope

-- parts one after another, each in the scope behind those before it
abbrev pub in_order : List Part → Makes
in_order [] home s = alone []
in_order (one ∷ others) home s = do
  acts ← one.makes home s
  inner ← judged (one.behind s)
  more ← in_order others home inner
  alone (acts ++ more)

abbrev pub any_does : List Part → Deed → Bool
any_does parts deed = list_any (λ one. one.does deed) parts

-- the first tag with a key directly among parts
abbrev pub first_keyed : List Part → Option ℕ
first_keyed [] = None
first_keyed (one ∷ others) = option_or one.keyed (first_keyed others)

abbrev pub content_of : List Part → Content
content_of parts = record { does = any_does parts; makes = in_order parts }

-- a part that is no tag and declares nothing
abbrev pub plain : (Deed → Bool) → Makes → Part
plain does makes = record { blank = false; tag = None; keyed = None; turn_key = None; does = does; makes = makes; behind = fine }

-- the parts that count: all but white space alone
abbrev pub counted : List Part → List Part
counted parts = filter (λ one. not one.blank) parts

-- the argument that a tag takes as that of a fragment, if it is one's
abbrev pub argument_of : Tagged → Option Tag → Option (Option CsType)
argument_of around None = None
argument_of around (Some tag) = fragment_taken around tag.name

abbrev pub is_fragment_tag : Tagged → Part → Bool
is_fragment_tag around one = is_some (argument_of around one.tag)

-- a local for the argument of a fragment, if it takes one
abbrev pub with_context : Option CsType → Ident → Scope → Scope
with_context None name s = s
with_context (Some cs_type) name s = with_local s name.name cs_type

-- the scope in a fragment that stands in a scope: the members, the locals that it uses, and its argument
abbrev pub fragment_scope : Home → Scope → Content → Option CsType → Ident → Scope
fragment_scope home s content argument name = with_context argument name (with_captured (used content.does s) (member_scope home))

-- the types of the locals of a fragment: those that it uses, and its argument
abbrev pub fragment_signature : Home → Scope → Content → Option CsType → Signature
fragment_signature home s content argument = signature home (types_of (used content.does s) ++ awaited argument) t.Nothing

-- the content of a component's tag: the tags of fragments, or all of it for `ChildContent`
pub data Inside : Type 0 where
  tags_of : List Tag → Inside
  loose : Content → Inside

abbrev pub inside : Tagged → List Part → Inside
inside around parts =
    if list_all (is_fragment_tag around) (counted parts) then tags_of (flat_map (λ one. option_list one.tag) (counted parts))
    else loose (content_of parts)

module _ (around : Tagged) (target : Target) (home : Home) (s : Scope) where
  -- the template of a fragment of such an argument at a number of the content
  unfoldable pub fragment_template : ℕ → Content → Option CsType → Ident → Resolves (Unit {0})
  fragment_template number content argument name = do
    acts ← content.makes home (fragment_scope home s content argument name)
    put (place_at home number) (template (fragment_signature home s content argument) acts)

  -- what the tag of a fragment gives
  unfoldable pub fragment_gift : Option Ident → Tag → Resolves Gives
  fragment_gift outer one = do
    argument ← judged (known UnknownParameter one.place (fragment_taken around one.name))
    placed ← fragment_template one.number one.content argument (context_name one.context outer one.place)
    it ← judged (known UnknownParameter one.place (target.parameter one.name))
    alone (act.given_fragment it.0 (place_at home one.number) (positions_of (used one.content.does s)))

  -- what loose content gives
  unfoldable pub content_gift : ℕ → Place → Option Ident → Content → Resolves Gives
  content_gift number place outer content = do
    argument ← judged (known UnknownParameter place (fragment_taken around (codes "ChildContent")))
    placed ← fragment_template number content argument (context_name outer None place)
    it ← judged (known UnknownParameter place (target.parameter (codes "ChildContent")))
    alone (act.given_content it.0 (place_at home number) (positions_of (used content.does s)))

  -- what the content of a component's tag gives
  abbrev pub gifts_inside : Inside → ℕ → Place → Option Ident → Resolves (List Gives)
  gifts_inside (tags_of inner) number place outer = each (fragment_gift outer) inner
  gifts_inside (loose content) number place outer = do
    it ← content_gift number place outer content
    alone (it ∷ [])

  abbrev pub component_of : ℕ → Place → List Attribute → Inside → Resolves (List Act)
  component_of number place attributes within = do
    first ← tags.attribute_gifts home s target attributes
    more ← gifts_inside within number place (context_in attributes)
    alone (act.component number target.made (first ++ more) ∷ [])

-- the tag of a component
unfoldable pub component : ℕ → Place → Ident → List Attribute → List Part → Makes
component number place name attributes parts home s = do
  around ← judged (known UnknownComponent name.place (tagged home name.name))
  target ← judged (known UnknownComponent name.place (target_of home.components s name.name attributes))
  component_of around target home s number place attributes (inside around parts)

abbrev pub is_key : AttributeKind → Bool
is_key (ak.Key a) = true
is_key _ = false

-- the number of a tag with a key
abbrev pub keyed_tag : ℕ → List Attribute → Option ℕ
keyed_tag number attributes = if list_any (λ one. is_key one.kind) attributes then Some number else None

abbrev pub scope_behind : Judged Done → Judged Scope
scope_behind (fine it) = fine it.scope
scope_behind (breaks rule place) = breaks rule place

abbrev pub behind_statement : Stmt → Scope → Judged Scope
behind_statement one s = scope_behind (statement one s)

-- a section of a `switch`: what it does besides computing, and its labels with what it comes to
pub record Part_of_switch : Type 0 where
  pub does : Deed → Bool
  pub section : Section Makes

-- a node, by its parts
abbrev pub part : TNode-F Part Part_of_switch → Part
part (TNode-F.Element number place name attributes children) =
    record (plain (λ deed. attributes_do deed attributes || any_does children deed) (node.element number name.name attributes (in_order children))) { keyed = keyed_tag number attributes }
part (TNode-F.Child number place name attributes children) =
    record {
      blank = false;
      tag = Some (record { number = number; name = name.name; place = place; context = context_in attributes; content = content_of children });
      keyed = keyed_tag number attributes;
      turn_key = None;
      does = λ deed. attributes_do deed attributes || any_does children deed;
      makes = component number place name attributes children;
      behind = fine;
    }
part (TNode-F.Text number place said) = record (plain (λ deed. false) (node.text number said)) { blank = is_white said }
part (TNode-F.Raw number place said) = plain (λ deed. false) (node.raw number said)
part (TNode-F.Content number place a) = plain (λ deed. expression_does deed a) (node.content number a)
part (TNode-F.Group place items) = plain (any_does items) (in_order items)
part (TNode-F.Statement one) = record (plain (λ deed. statement_does deed one) (node.plain_statement one)) { behind = behind_statement one }
part (TNode-F.Block place items) = record (plain (any_does items) (node.block (in_order items))) { turn_key = first_keyed items }
part (TNode-F.If place test holds fails) =
    plain (λ deed. expression_does deed test || holds.does deed || if_any (λ (one : Part). one.does deed) fails)
    (node.branch test holds.makes (option_map (λ (one : Part). one.makes) fails))
part (TNode-F.Switch place a sections) =
    plain (λ deed. expression_does deed a || list_any (λ (one : Part_of_switch). one.does deed) sections)
    (node.switch a (map (λ (one : Part_of_switch). one.section) sections))
part (TNode-F.For number place start test step body) =
    plain (λ deed. if_any (statement_does deed) start || if_any (expression_does deed) test || if_any (expression_does deed) step || body.does deed)
    (node.for_loop number start test step body.turn_key body.makes)
part (TNode-F.ForEach number place name list body) =
    plain (λ deed. expression_does deed list || body.does deed) (node.for_each number name.name list body.turn_key body.makes)
part (TNode-F.While number place test body) =
    plain (λ deed. expression_does deed test || body.does deed) (node.while_loop number test body.turn_key body.makes)

unfoldable pub part_of : TNode → Part
part_of =
    fold-TNode Part Part_of_switch part
    (λ section. record { does = any_does section.items; section = node.section_of section.labels (in_order section.items) })
