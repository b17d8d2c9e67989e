-- The tags of components.
use Rattle.std.specs.List.{list_all}
use Rattle.std.specs.Prelude.{ℕ, Bool, codes, List, [], ◌∷◌, ◌++◌, if◌then◌else◌, Option, None, Some}
use Rattle.text_core.specs.declared.place.Place.{Place}
use Rattle.cs_ast.specs.declared.cs_type.CsType.{CsType}
use Rattle.cs_ast.specs.declared.expression.Expr.{Expr}
use Rattle.cs_ast.specs.declared.identifier.Ident.{Ident}
use Rattle.cs_ast.specs.declared.scope.Scope.{Scope}
use Rattle.cs_rules.specs.declared.rule.Rule.TheVariants.{UnknownComponent, UnknownParameter}
use Rattle.cs_rules.specs.Judged.{Judged, fine, known, mismatch}
use Rattle.cs_rules.specs.Judged.{◌>>=◌ as ◌>>>=◌}
use Rattle.drawing_meaning.specs.Acts.{Act}
use Rattle.drawing_meaning.specs.Tags as act
use Rattle.drawing_meaning.specs.Tags.{Gives, given_text, given_value, given_key}
use Rattle.razor_ast.specs.declared.attribute.Attribute.{Attribute}
use Rattle.razor_ast.specs.declared.attribute.AttributeKind.{AttributeKind}
use Rattle.razor_ast.specs.declared.attribute.AttributeKind.TheVariants as ak
use Rattle.razor_ast.specs.declared.attribute.Given.{Given}
use Rattle.razor_ast.specs.declared.attribute.Given.TheVariants as given
use Rattle.razor_rules.specs.Parameters.{Tagged, tagged, fragment_taken}
use Rattle.razor_rules.specs.Scopes.{Home}
use Rattle.razor_rules.specs.Tags.{context_in, context_name}
use Rattle.page_meaning.specs.Captures.{used, positions_of}
use Rattle.page_meaning.specs.Parts as page
use Rattle.page_meaning.specs.Parts.{Part, Tag, any_does, content_of, counted, is_fragment_tag}
use Rattle.page_meaning.specs.Resolved.{place_at}
use Rattle.page_meaning.specs.Tags.{Target, target_of, supplied_code, takes_text}
use Rattle.frame_parts.specs.Order.{in_order}
use Rattle.frame_parts.specs.Steps.{Steps, step, alone, judged, put_template, each_of, code_in, ◌>>=◌}

abbrev pub key : Scope → Expr → Judged (List Gives)
key s a = code_in s a >>>= (λ code. fine (given_key code ∷ []))

module _ (home : Home) (s : Scope) where
  abbrev pub expression_gift : ℕ → ℕ × CsType → Expr → Steps (List Gives)
  expression_gift number it a = do
    code ← step (supplied_code home s number it.1 a)
    alone (given_value it.0 code ∷ [])

  abbrev pub if_said : ℕ → ℕ × CsType → Place → Option Expr → Steps (List Gives)
  if_said number it place None = judged (mismatch place)
  if_said number it place (Some a) = expression_gift number it a

  abbrev pub given_gift : ℕ → ℕ × CsType → Bool → Given → Steps (List Gives)
  given_gift number it as_text given.Nothing = alone (given_text it.0 [] ∷ [])
  given_gift number it as_text (given.Text place said a) = if as_text then alone (given_text it.0 said ∷ []) else if_said number it place a
  given_gift number it as_text (given.Value a) = expression_gift number it a

  abbrev pub parameter_gift : Target → ℕ → Given → Place → List ℕ → Steps (List Gives)
  parameter_gift target number given place name = do
    it ← judged (known UnknownParameter place (target.parameter name))
    given_gift number it (takes_text target name it.1) given

  abbrev pub attribute_gift : Target → AttributeKind → Place → List ℕ → Steps (List Gives)
  attribute_gift target (ak.Parameter number given) place name = parameter_gift target number given place name
  attribute_gift target (ak.Key a) place name = judged (key s a)
  attribute_gift target _ place name = alone []

  -- what attributes give, one after another
  abbrev pub attribute_gifts : Target → List Attribute → Steps (List Gives)
  attribute_gifts target attributes = each_of (λ one. attribute_gift target one.kind one.place one.name) attributes

-- the scope in a fragment that stands in a scope: the members, the locals that it uses, and its argument
abbrev pub fragment_scope : Home → Scope → List Part → Option CsType → Ident → Scope
fragment_scope home s parts argument name = page.fragment_scope home s (content_of parts) argument name

abbrev pub fragment_template : Home → Scope → ℕ → List Part → Option CsType → Ident → Steps (Unit {0})
fragment_template home s number parts argument name = do
  acts ← in_order home parts (fragment_scope home s parts argument name)
  put_template (place_at home number) acts

abbrev pub captured : Scope → List Part → List ℕ
captured s parts = positions_of (used (any_does parts) s)

-- how a fragment is given: as the loose content of a tag, or by a tag of its own
abbrev pub Giving : Type 0
Giving = ℕ → ℕ → List ℕ → Gives

module _ (around : Tagged) (target : Target) (home : Home) (s : Scope) where
  -- what parts under a name give, as the fragment of a number, at a place
  abbrev pub gift_of : Giving → List ℕ → ℕ → Place → Option Ident → Option Ident → List Part → Steps Gives
  gift_of gives name number place own outer parts = do
    argument ← judged (known UnknownParameter place (fragment_taken around name))
    placed ← fragment_template home s number parts argument (context_name own outer place)
    it ← judged (known UnknownParameter place (target.parameter name))
    alone (gives it.0 (place_at home number) (captured s parts))

  abbrev pub one_gift : Giving → List ℕ → ℕ → Place → Option Ident → Option Ident → List Part → Steps (List Gives)
  one_gift gives name number place own outer parts = do
    it ← gift_of gives name number place own outer parts
    alone (it ∷ [])

  abbrev pub loose_gift : ℕ → Place → Option Ident → List Part → Steps (List Gives)
  loose_gift number place outer parts = one_gift act.given_content (codes "ChildContent") number place outer None parts

  -- what a part gives that may be the tag of a fragment
  abbrev pub tag_gift : Option Ident → Option Tag → Steps (List Gives)
  tag_gift outer None = alone []
  tag_gift outer (Some one) = do
    it ← step (page.fragment_gift around target home s outer one)
    alone (it ∷ [])

  -- the same, where white space gives nothing
  abbrev pub part_gift : Option Ident → Part → Steps (List Gives)
  part_gift outer one = if one.blank then alone [] else tag_gift outer one.tag

  abbrev pub tag_gifts : Option Ident → List Part → Steps (List Gives)
  tag_gifts outer parts = each_of (part_gift outer) parts

  -- what the content of a tag gives: the tags of fragments, or all of it
  abbrev pub gifts_inside : ℕ → Place → Option Ident → List Part → Steps (List Gives)
  gifts_inside number place outer parts = if list_all (is_fragment_tag around) (counted parts) then tag_gifts outer parts else loose_gift number place outer parts

  -- what a tag gives: by its attributes, and by its content
  abbrev pub all_gifts : ℕ → Place → List Attribute → List Part → Steps (List Gives)
  all_gifts number place attributes parts = do
    first ← attribute_gifts home s target attributes
    more ← gifts_inside number place (context_in attributes) parts
    alone (first ++ more)

abbrev pub component : Home → Scope → ℕ → Place → Ident → List Attribute → List Part → Steps (List Act)
component home s number place name attributes parts = do
  around ← judged (known UnknownComponent name.place (tagged home name.name))
  target ← judged (known UnknownComponent name.place (target_of home.components s name.name attributes))
  gifts ← all_gifts around target home s number place attributes parts
  alone (act.component number target.made gifts ∷ [])
