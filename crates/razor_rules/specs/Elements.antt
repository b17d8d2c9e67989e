-- The rules of the attributes of an element.
use Rattle.std.specs.Prelude.{ℕ, ◌+◌, option_map, ◌&&◌, ◌||◌, Bool, true, false, codes, drop, List, [], ◌∷◌, ◌++◌, map, if◌then◌else◌, Option, Some, None, bytes_eq}
use Rattle.std.specs.List.{flat_map, list_any}
use Rattle.cs_ast.specs.declared.cs_type.CsType.{CsType}
use Rattle.cs_ast.specs.declared.cs_type.CsType.TheVariants as t
use Rattle.cs_ast.specs.declared.identifier.Ident.{Ident}
use Rattle.cs_ast.specs.declared.member.Member.{Member}
use Rattle.cs_ast.specs.declared.member.MemberKind.{MemberKind}
use Rattle.cs_ast.specs.declared.member.MemberKind.TheVariants.{Field}
use Rattle.cs_rules.specs.declared.rule.Rule.TheVariants.{DuplicateAttribute, BadBind}
use Rattle.cs_rules.specs.Written.{type_of}
use Rattle.razor_ast.specs.declared.attribute.Attribute.{Attribute}
use Rattle.razor_ast.specs.declared.attribute.AttributeKind.{AttributeKind}
use Rattle.razor_ast.specs.declared.attribute.AttributeKind.TheVariants as ak
use Rattle.razor_ast.specs.declared.attribute.ValuePart.{ValuePart}
use Rattle.razor_ast.specs.declared.attribute.ValuePart.TheVariants as part
use Rattle.razor_rules.specs.declared.finding.Broken.{Broken}
use Rattle.razor_rules.specs.Findings.{found, broken_unless}
use Rattle.razor_rules.specs.Names.{name_at, repeated}
use Rattle.razor_rules.specs.Scopes.{Home}
use Rattle.razor_rules.specs.declared.ground.Ground.{Ground}
use Rattle.razor_rules.specs.Values.{shown_value, key, callback}

-- the type of the argument of an event
unfoldable pub event_type : List ℕ → CsType
event_type name = if bytes_eq name (codes "@onchange") || bytes_eq name (codes "@oninput") then t.Change else t.Args

-- the number and the type of the field that a member is, if it is one of this name
abbrev pub field_or : List ℕ → MemberKind → ℕ → (ℕ → Option (ℕ × CsType)) → Option (ℕ × CsType)
field_or name (Field cs_type other initial) number further = if bytes_eq other.name name then Some (number, type_of cs_type) else further (number + 1)
field_or name _ number further = further number

-- the number and the type of the first own field of a name, counted from a number on
abbrev pub field_from : List Member → List ℕ → ℕ → Option (ℕ × CsType)
field_from [] name number = None
field_from (one ∷ others) name number = field_or name one.kind number (field_from others name)

abbrev pub own_field : List Member → List ℕ → Option (ℕ × CsType)
own_field members name = field_from members name 0

abbrev pub field_type : List Member → List ℕ → Option CsType
field_type members name = option_map (λ found. found.1) (own_field members name)

-- the types of fields that are bound
abbrev pub is_bindable : Option CsType → Bool
is_bindable (Some t.Int) = true
is_bindable (Some t.Bool) = true
is_bindable (Some t.Text) = true
is_bindable _ = false

abbrev pub is_truth : Option CsType → Bool
is_truth (Some t.Bool) = true
is_truth _ = false

-- `@bind:event="oninput"`
abbrev pub is_bind_event : AttributeKind → Bool
is_bind_event ak.BindEvent = true
is_bind_event _ = false

-- the literal text of an attribute
abbrev pub is_literal : List ℕ → AttributeKind → Bool
is_literal text (ak.Mixed number (part.Literal said ∷ [])) = bytes_eq said text
is_literal text _ = false

-- an `input` that is a box to be checked
unfoldable pub is_checkbox : List ℕ → List Attribute → Bool
is_checkbox element attributes = bytes_eq element (codes "input") && list_any (λ one. bytes_eq one.name (codes "type") && is_literal (codes "checkbox") one.kind) attributes

-- the attribute that shows a bound field of such a type
unfoldable pub bound_attribute : List ℕ → List Attribute → Option CsType → List ℕ
bound_attribute element attributes cs_type = if is_checkbox element attributes && is_truth cs_type then codes "checked" else codes "value"

-- the event by which it changes
unfoldable pub bound_event : List Attribute → List ℕ
bound_event attributes = if list_any (λ one. is_bind_event one.kind) attributes then codes "oninput" else codes "onchange"

module _ (home : Home) (element : List ℕ) (attributes : List Attribute) where
  -- the names that an attribute counts as: a bound field as its attribute and its event, an event without its at sign
  abbrev pub names_as : AttributeKind → List ℕ → List (List ℕ)
  names_as (ak.Event number value) name = drop 1 name ∷ []
  names_as (ak.Bind number field) name = bound_attribute element attributes (field_type home.members field.name) ∷ bound_event attributes ∷ []
  names_as _ name = name ∷ []

  abbrev pub names : List Ident
  names = flat_map (λ one. map (name_at one.place) (names_as one.kind one.name)) attributes

  abbrev pub part_rules : Ground → ValuePart → List Broken
  part_rules g (part.Literal text) = []
  part_rules g (part.Shown a) = found (shown_value g a)

  unfoldable pub attribute_rules : Ground → AttributeKind → List ℕ → List Broken
  attribute_rules g (ak.Mixed number value) name = flat_map (part_rules g) value
  attribute_rules g (ak.Key a) name = found (key g a)
  attribute_rules g (ak.Event number a) name = found (callback g a (Some (event_type name)))
  attribute_rules g (ak.Bind number field) name = broken_unless (is_bindable (field_type home.members field.name)) BadBind field.place
  attribute_rules g _ name = []

  -- the attributes of an element
  unfoldable pub element_rules : Ground → List Broken
  element_rules g = repeated DuplicateAttribute [] names ++ flat_map (λ one. attribute_rules g one.kind one.name) attributes
