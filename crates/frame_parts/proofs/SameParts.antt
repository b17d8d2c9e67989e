-- Parts of templates are the same to what they come to and to the rules: whether they are white space, which tags they are, and what they do.
use Rattle.std.proofs.Common.{◌≡◌, ℕ, List, [], ◌∷◌, map, ap, sym, refl, subst, ◌∙◌, inl, inr}
use Rattle.std.specs.Prelude.{◌||◌, ◌&&◌, Bool, true, false, Option, Some, None, option_map, is_some}
use Rattle.std.specs.List.{list_any, list_all}
use Rattle.std.proofs.lemmas.Bool.{cases_Bool}
use Rattle.cs_effects.specs.declared.deed.Deed.{Deed}
use Rattle.razor_ast.specs.declared.node.TNode.{TNode, TNode-F, roll-TNode}
use Rattle.razor_ast.specs.declared.node.TNode.TheFolds.{ind-TNode, map-TNode}
use Rattle.razor_ast.specs.declared.node.TSection.{TSection, TSection-F, roll-TSection, out-TSection}
use Rattle.razor_rules.specs.Parameters.{Tagged}
use Rattle.razor_rules.specs.Scopes.{Home}
use Rattle.razor_rules.specs.Parts as rules
use Rattle.razor_rules.specs.Tags as rules_tags
use Rattle.razor_rules.specs.TemplateDeeds.{if_any, expression_does, statement_does, attributes_do}
use Rattle.razor_rules.specs.Templates as rules_templates
use Rattle.razor_rules.proofs.TemplateLaws as rules_laws
use Rattle.razor_parts.specs.Shapes.{shape_by}
use Rattle.page_meaning.specs.Parts as page
use Rattle.page_meaning.specs.Parts.{Part, Part_of_switch, Tag, part, part_of}
use Rattle.frame_parts.specs.Content.{is_fragments}
use Rattle.frame_parts.specs.Sections.{part_of_section}
use Rattle.frame_parts.proofs.PartLaws.{part_law, section_parts}

pub record Same (a : Part) (b : rules.Part) : Type 0 where
  pub blank : b.blank ≡ a.blank
  pub tag : b.tag ≡ option_map (λ (one : Tag). one.name) a.tag
  pub does : (deed : Deed) → a.does deed ≡ b.does deed

module _ (home : Home) where
  abbrev rules_of : TNode → rules.Part
  rules_of = rules_templates.part_of home

  abbrev SameNode : TNode → Type 0
  SameNode x = Same (part_of x) (rules_of x)

  abbrev SameSection : TSection → Type 0
  SameSection x = (deed : Deed) → (part_of_section x).does deed ≡ (rules_templates.part_of_section home x).does deed

  abbrev SuchNode : Type 0
  SuchNode = (x : TNode) × SameNode x

  abbrev SuchSection : Type 0
  SuchSection = (x : TSection) × SameSection x

  abbrev Layer : Type 0
  Layer = TNode-F SuchNode SuchSection

  abbrev known : Layer → TNode-F TNode TSection
  known y = map-TNode SuchNode SuchSection TNode TSection (λ z. z.0) (λ z. z.0) y

  -- a layer by what the parts of it are
  abbrev page_layer : TNode-F TNode TSection → Part
  page_layer x = part (map-TNode TNode TSection Part Part_of_switch part_of part_of_section x)

  abbrev rules_layer : TNode-F TNode TSection → rules.Part
  rules_layer x = rules_templates.part home (map-TNode TNode TSection rules.Part rules.Part_of_switch rules_of (rules_templates.part_of_section home) x)

  nodes_do : (nodes : List SuchNode) (deed : Deed) → page.any_does (map part_of (map (λ (z : SuchNode). z.0) nodes)) deed ≡ rules.any_does (map rules_of (map (λ (z : SuchNode). z.0) nodes)) deed
  nodes_do [] deed = refl
  nodes_do (one ∷ others) deed =
      ap (λ (yes : Bool). yes || page.any_does (map part_of (map (λ (z : SuchNode). z.0) others)) deed) (one.1.does deed)
      ∙ ap (λ (yes : Bool). (rules_of one.0).does deed || yes) (nodes_do others deed)

  sections_do : (all : List SuchSection) (deed : Deed) →
      list_any (λ (one : Part_of_switch). one.does deed) (map part_of_section (map (λ (z : SuchSection). z.0) all))
      ≡ list_any (λ (one : rules.Part_of_switch). one.does deed) (map (rules_templates.part_of_section home) (map (λ (z : SuchSection). z.0) all))
  sections_do [] deed = refl
  sections_do (one ∷ others) deed =
      ap (λ (yes : Bool). yes || list_any (λ (it : Part_of_switch). it.does deed) (map part_of_section (map (λ (z : SuchSection). z.0) others))) (one.1 deed)
      ∙ ap (λ (yes : Bool). (rules_templates.part_of_section home one.0).does deed || yes) (sections_do others deed)

  layer_same : (y : Layer) → Same (page_layer (known y)) (rules_layer (known y))
  layer_same (TNode-F.Element n p nm atts cs) = record { blank = refl; tag = refl; does = λ deed. ap (λ (yes : Bool). attributes_do deed atts || yes) (nodes_do cs deed) }
  layer_same (TNode-F.Child n p nm atts cs) = record { blank = refl; tag = refl; does = λ deed. ap (λ (yes : Bool). attributes_do deed atts || yes) (nodes_do cs deed) }
  layer_same (TNode-F.Text n p t) = record { blank = refl; tag = refl; does = λ deed. refl }
  layer_same (TNode-F.Raw n p t) = record { blank = refl; tag = refl; does = λ deed. refl }
  layer_same (TNode-F.Content n p a) = record { blank = refl; tag = refl; does = λ deed. refl }
  layer_same (TNode-F.Group p cs) = record { blank = refl; tag = refl; does = nodes_do cs }
  layer_same (TNode-F.Statement st) = record { blank = refl; tag = refl; does = λ deed. refl }
  layer_same (TNode-F.Block p cs) = record { blank = refl; tag = refl; does = nodes_do cs }
  layer_same (TNode-F.If p a h None) =
      record { blank = refl; tag = refl; does = λ deed. ap (λ (yes : Bool). expression_does deed a || yes || false) (h.1.does deed) }
  layer_same (TNode-F.If p a h (Some o)) =
      record {
        blank = refl;
        tag = refl;
        does = λ deed. ap (λ (yes : Bool). expression_does deed a || yes || (part_of o.0).does deed) (h.1.does deed) ∙ ap (λ (yes : Bool). expression_does deed a || (rules_of h.0).does deed || yes) (o.1.does deed);
      }
  layer_same (TNode-F.Switch p a ss) = record { blank = refl; tag = refl; does = λ deed. ap (λ (yes : Bool). expression_does deed a || yes) (sections_do ss deed) }
  layer_same (TNode-F.For n p s a b h) =
      record {
        blank = refl;
        tag = refl;
        does = λ deed. ap (λ (yes : Bool). if_any (statement_does deed) s || if_any (expression_does deed) a || if_any (expression_does deed) b || yes) (h.1.does deed);
      }
  layer_same (TNode-F.ForEach n p nm a h) = record { blank = refl; tag = refl; does = λ deed. ap (λ (yes : Bool). expression_does deed a || yes) (h.1.does deed) }
  layer_same (TNode-F.While n p a h) = record { blank = refl; tag = refl; does = λ deed. ap (λ (yes : Bool). expression_does deed a || yes) (h.1.does deed) }

  node_step : (y : Layer) → SameNode (roll-TNode (known y))
  node_step y =
      subst (λ (a : Part). Same a (rules_of (roll-TNode (known y)))) (sym (part_law (known y)))
      (subst (λ (b : rules.Part). Same (page_layer (known y)) b) (sym (rules_laws.part_law home (known y))) (layer_same y))

  section_step : (y : TSection-F SuchNode SuchSection) → SameSection (roll-TSection (record { labels = y.labels; items = map (λ (z : SuchNode). z.0) y.items }))
  section_step y deed =
      let one : TSection = roll-TSection (record { labels = y.labels; items = map (λ (z : SuchNode). z.0) y.items }) in
      ap (λ (it : Part_of_switch). it.does deed) (section_parts one) ∙ nodes_do y.items deed ∙ sym (ap (λ (it : rules.Part_of_switch). it.does deed) (rules_laws.section_law home one))

  pub same_node : (node : TNode) → SameNode node
  same_node =
      ind-TNode SameNode SameSection (λ x y is. subst (λ (z : TNode-F TNode TSection). SameNode (roll-TNode z)) is (node_step y))
      (λ x y is. subst (λ z. SameSection (roll-TSection z)) is (section_step y))

  pub same_blank : (node : TNode) → (rules_templates.part_of home node).blank ≡ (part_of node).blank
  same_blank node = (same_node node).blank

  pub content_deeds : (nodes : List TNode) (deed : Deed) → rules.any_does (map (rules_templates.part_of home) nodes) deed ≡ page.any_does (map part_of nodes) deed
  content_deeds [] deed = refl
  content_deeds (one ∷ others) deed =
      ap (λ (yes : Bool). yes || rules.any_does (map rules_of others) deed) (sym ((same_node one).does deed))
      ∙ ap (λ (yes : Bool). (part_of one).does deed || yes) (content_deeds others deed)

  by_tag : (around : Tagged) (tag : Option Tag) → is_some (rules_tags.fragment_by around (option_map (λ (one : Tag). one.name) tag)) ≡ is_some (page.argument_of around tag)
  by_tag around None = refl
  by_tag around (Some one) = refl

  same_fragment : (around : Tagged) (node : TNode) → rules_tags.is_fragment_tag around (rules_of node) ≡ page.is_fragment_tag around (part_of node)
  same_fragment around node = ap (λ (tag : Option (List ℕ)). is_some (rules_tags.fragment_by around tag)) (same_node node).tag ∙ by_tag around (part_of node).tag

  abbrev if_counted : {A : Type 0} → (A → Bool) → Bool → A → List A → Bool
  if_counted test true one others = list_all test others
  if_counted test false one others = test one && list_all test others

  rules_counted : (around : Tagged) (one : rules.Part) (others : List rules.Part) →
      list_all (rules_tags.is_fragment_tag around) (rules_tags.counted (one ∷ others)) ≡ if_counted (rules_tags.is_fragment_tag around) one.blank one (rules_tags.counted others)
  rules_counted around one others = elim (cases_Bool one.blank) [ inl h ↦ rw h refl | inr h ↦ rw h refl ]

  page_counted : (around : Tagged) (one : Part) (others : List Part) →
      list_all (page.is_fragment_tag around) (page.counted (one ∷ others)) ≡ if_counted (page.is_fragment_tag around) one.blank one (page.counted others)
  page_counted around one others = elim (cases_Bool one.blank) [ inl h ↦ rw h refl | inr h ↦ rw h refl ]

  counted_same : (around : Tagged) (one : TNode) (blank : Bool) (rules_others : List rules.Part) (page_others : List Part) →
      list_all (rules_tags.is_fragment_tag around) rules_others ≡ list_all (page.is_fragment_tag around) page_others →
      if_counted (rules_tags.is_fragment_tag around) blank (rules_of one) rules_others ≡ if_counted (page.is_fragment_tag around) blank (part_of one) page_others
  counted_same around one true rules_others page_others same = same
  counted_same around one false rules_others page_others same =
      ap (λ (yes : Bool). yes && list_all (rules_tags.is_fragment_tag around) rules_others) (same_fragment around one)
      ∙ ap (λ (yes : Bool). page.is_fragment_tag around (part_of one) && yes) same

  pub same_fragments : (around : Tagged) (nodes : List TNode) →
      list_all (rules_tags.is_fragment_tag around) (rules_tags.counted (map (rules_templates.part_of home) nodes)) ≡ list_all (page.is_fragment_tag around) (page.counted (map part_of nodes))
  same_fragments around [] = refl
  same_fragments around (one ∷ others) =
      rules_counted around (rules_of one) (map rules_of others)
      ∙ ap (λ (blank : Bool). if_counted (rules_tags.is_fragment_tag around) blank (rules_of one) (rules_tags.counted (map rules_of others))) (same_node one).blank
      ∙ counted_same around one (part_of one).blank (rules_tags.counted (map rules_of others)) (page.counted (map part_of others)) (same_fragments around others)
      ∙ sym (page_counted around (part_of one) (map part_of others))

-- the shape of content tells whether all of it is the tags of fragments
pub shaped : (all any : Bool) → is_fragments (shape_by all any) ≡ all
unfolding is_fragments
shaped true any = refl
shaped false true = refl
shaped false false = refl
