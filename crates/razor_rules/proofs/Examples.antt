-- Small programs: the first rule that each breaks, and one that breaks none.
use Rattle.std.proofs.Common.{◌≡◌, ℕ, refl, List, ap, ◌∙◌}
use Rattle.std.specs.Prelude.{if◌then◌else◌, [], ◌∷◌, codes, Option, Some, None, false}
use Rattle.text_core.specs.declared.place.Place.{Place}
use Rattle.cs_ast.specs.declared.expression.Body.TheOpen.{ExprKind-F}
use Rattle.cs_ast.specs.declared.expression.Body.TheViews.{roll-ExprKind}
use Rattle.cs_ast.specs.declared.expression.Expr.{Expr}
use Rattle.cs_ast.specs.declared.identifier.Ident.{Ident}
use Rattle.cs_rules.specs.declared.rule.Rule.TheVariants.{UnknownName}
use Rattle.razor_ast.specs.declared.component.Component.{Component}
use Rattle.razor_ast.specs.declared.node.TNode.{TNode, TNode-F, roll-TNode}
use Rattle.razor_rules.specs.Findings.{broken, comes_before, number_of}
use Rattle.cs_rules.specs.Expressions.{name_read}
use Rattle.cs_forbidden.specs.Trees.{uses_of_form}
use Rattle.razor_rules.specs.declared.ground.Ground.{Ground}
use Rattle.razor_rules.specs.Grounds.{top}
use Rattle.cs_rules.specs.Judged.{fine, breaks, mismatch, ◌>>=◌}
use Rattle.cs_rules.specs.Trees.{Uses}
use Rattle.razor_rules.specs.Values.{is_content}
use Rattle.cs_ast.specs.declared.scope.Effect.{Effect}
use Rattle.razor_rules.specs.Programs.{home_of, first_broken, Facts, Finding, is_component_name, file_rules}
use Rattle.razor_rules.specs.Declarations.{members_rules}
use Rattle.razor_rules.specs.Scopes.{Home}
use Rattle.razor_rules.specs.Values.{content}
use Rattle.razor_rules.specs.Elements.{element_rules}
use Rattle.razor_rules.proofs.TemplateLaws.{part_law}
use Rattle.cs_forbidden.proofs.FormLaws.{uses_law, form_law}
use Rattle.cs_rules.specs.Trees.{value_of_form}
use Rattle.cs_rules.specs.Names.{meant_by, meant}
use Rattle.cs_ast.specs.declared.member.Member.{Member}
use Rattle.cs_rules.specs.declared.rule.Rule.{Rule}
use Rattle.cs_rules.specs.declared.rule.Rule.TheVariants.{DuplicateComponent, BadComponentName, UnknownComponent, UnknownParameter, DuplicateAttribute, BadBind}
use Rattle.razor_ast.specs.declared.attribute.Attribute.{Attribute}
use Rattle.razor_ast.specs.declared.attribute.AttributeKind.TheVariants as ak
use Rattle.razor_rules.specs.Elements.{attribute_rules, bound_attribute, bound_event, is_checkbox}
use Rattle.razor_rules.specs.Parameters.{tagged, needed_rules, fragment_taken}

abbrev at : ℕ → Place
at column = record { line = 1; column = column }

abbrev name : ℕ → List ℕ → Ident
name column text = record { place = at column; name = text }

abbrev named : ℕ → List ℕ → Expr
named column text = record { place = at column; kind = roll-ExprKind (ExprKind-F.Name text) }

-- methods have these effects, and no record contains itself
abbrev facts_of : List (List Effect) → Facts
facts_of effects = record { effects = effects; circular = λ name. false }

-- `<p>@m</p>`
abbrev unknown : Component
unknown = record {
  name = codes "A";
  disposes = false;
  members = [];
  nodes = roll-TNode (TNode-F.Element 0 (at 1) (name 2 (codes "p")) [] (roll-TNode (TNode-F.Content 1 (at 4) (named 5 (codes "m"))) ∷ [])) ∷ [];
}

abbrev home : Home
home = home_of (unknown ∷ []) 0 unknown

abbrev ground : Ground
ground = top home []

shows_nothing : content ground (named 5 (codes "m")) ≡ breaks UnknownName (at 5)
unfolding content uses_of_form value_of_form name_read meant_by meant
shows_nothing =
    ap (λ (u : Uses). u.value ground.scope >>= (λ x. if is_content x.expr_type then fine tt else mismatch x.place))
    (uses_law ground.forbidden (named 5 (codes "m")) ∙ form_law ground.forbidden (ExprKind-F.Name (codes "m")) (at 5))

unknown_name : first_broken (unknown ∷ []) (facts_of ([] ∷ [])) ≡ Some (record { file = 0; first = broken UnknownName (at 5) })
unfolding is_component_name file_rules members_rules element_rules comes_before number_of
unknown_name = simp (part_law, shows_nothing) refl

abbrev file : List ℕ → List Member → List TNode → Component
file stem members content = record { name = stem; disposes = false; members = members; nodes = content }

abbrev element : List Attribute → List TNode → TNode
element attributes children = roll-TNode (TNode-F.Element 0 (at 1) (name 2 (codes "p")) attributes children)

abbrev plain : ℕ → ℕ → List ℕ → Attribute
plain number column text = record { place = at column; name = text; kind = ak.Mixed number [] }

abbrev breaks_first : Rule → ℕ → ℕ → Option Finding
breaks_first rule file column = Some (record { file = file; first = broken rule (at column) })

-- two files of one stem
two_files : first_broken (file (codes "A") [] [] ∷ file (codes "A") [] [] ∷ []) (facts_of ([] ∷ [] ∷ [])) ≡ breaks_first DuplicateComponent 1 1
unfolding is_component_name file_rules members_rules comes_before number_of
two_files = refl

-- a stem that begins with a small letter
small_stem : first_broken (file (codes "a") [] [] ∷ []) (facts_of ([] ∷ [])) ≡ breaks_first BadComponentName 0 1
unfolding is_component_name file_rules members_rules comes_before number_of
small_stem = refl

-- the stem of the built-in component
built_in : first_broken (file (codes "CascadingValue") [] [] ∷ []) (facts_of ([] ∷ [])) ≡ breaks_first BadComponentName 0 1
unfolding is_component_name file_rules members_rules comes_before number_of
built_in = refl

-- `<B/>` beside no file `B.razor`
unknown_tag : first_broken (file (codes "A") [] (roll-TNode (TNode-F.Child 0 (at 1) (name 2 (codes "B")) [] []) ∷ []) ∷ []) (facts_of ([] ∷ [])) ≡ breaks_first UnknownComponent 0 2
unfolding is_component_name file_rules members_rules comes_before number_of tagged
unknown_tag = simp (part_law) refl

-- `<p a b a></p>`
twice : first_broken (file (codes "A") [] (element (plain 1 4 (codes "a") ∷ plain 2 6 (codes "b") ∷ plain 3 8 (codes "a") ∷ []) [] ∷ []) ∷ []) (facts_of ([] ∷ [])) ≡ breaks_first DuplicateAttribute 0 8
unfolding is_component_name file_rules members_rules comes_before number_of element_rules attribute_rules
twice = simp (part_law) refl

-- `<p @bind="x"></p>` without a field x
no_field : first_broken (file (codes "A") [] (element (record { place = at 4; name = codes "@bind"; kind = ak.Bind 1 (name 11 (codes "x")) } ∷ []) [] ∷ []) ∷ []) (facts_of ([] ∷ [])) ≡ breaks_first BadBind 0 11
unfolding is_component_name file_rules members_rules comes_before number_of element_rules attribute_rules bound_attribute bound_event is_checkbox
no_field = simp (part_law) refl

-- `<A>x</A>` in `A.razor`, which has no `ChildContent`
no_content : first_broken (file (codes "A") [] (roll-TNode (TNode-F.Child 0 (at 1) (name 2 (codes "A")) [] (roll-TNode (TNode-F.Text 1 (at 4) (codes "x")) ∷ [])) ∷ []) ∷ []) (facts_of ([] ∷ [])) ≡ breaks_first UnknownParameter 0 1
unfolding is_component_name file_rules members_rules comes_before number_of tagged needed_rules fragment_taken
no_content = simp (part_law) refl

-- `<p class>x</p><A/>` in `A.razor` breaks none
fine_file : first_broken (file (codes "A") [] (element (plain 1 4 (codes "class") ∷ []) (roll-TNode (TNode-F.Text 2 (at 10) (codes "x")) ∷ []) ∷ roll-TNode (TNode-F.Child 3 (at 15) (name 16 (codes "A")) [] []) ∷ []) ∷ []) (facts_of ([] ∷ [])) ≡ None
unfolding is_component_name file_rules members_rules comes_before number_of element_rules attribute_rules tagged needed_rules fragment_taken
fine_file = simp (part_law) refl
