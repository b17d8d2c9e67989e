-- The edits of two items that pair.
use Rattle.std.proofs.Common.{◌≡◌, ◌∙◌, refl, ap, sym, subst, ℕ, ◌+◌, ◌<◌, ◌^◌, List, [], ◌∷◌, ◌++◌, arith}
use Rattle.cs_ast.specs.declared.value.Value.{Value}
use Rattle.page_core.specs.declared.counts.Counts.{Counts}
use Rattle.frame_core.specs.declared.made.Made.{Made}
use Rattle.frame_core.specs.declared.item.Item.{Item}
use Rattle.frame_core.specs.declared.item.Item.TheViews.{out-Item}
use Rattle.frame_core.specs.declared.item.Item.TheOpen.{Item-F}
use Rattle.frame_core.specs.declared.item.Item.TheVariants as item
use Rattle.frame_core.specs.declared.item.ItemParameter.{ItemParameter}
use Rattle.frame_core.specs.declared.item_attribute.ItemAttribute.{ItemAttribute}
use Rattle.frame_core.specs.declared.edit.Edit.{Edit}
use Rattle.edit_meaning.specs.Counted.{counts_in}
use Rattle.pairing_meaning.specs.Labels.{Label, Kind, element, label_by, label_of}
use Rattle.pairing_meaning.specs.Slots.{slots_of}
use Rattle.pairing_meaning.specs.Tallies.{no_edits, plus, name_edits, stepped, Changed, changed_element, changed_text, changed_markup, changed_component, Totals}
use Rattle.pairing_meaning.specs.Turning.{Leads}
use Rattle.sibling_edits.proofs.TallyLemmas.{counts-append}
use Rattle.item_edits.specs.Named.{names_planned}
use Rattle.item_edits.specs.Renderings.{size_of, sizes, AllClear}
use Rattle.item_edits.specs.Steps.{text_planned, markup_planned, stepped_in, Changes, Fits}
use Rattle.item_edits.proofs.NameLemmas.{Different}
use Rattle.item_edits.proofs.CountLemmas.{counts-text, counts-markup, counts-names, counts-stepped}
use Rattle.item_edits.proofs.PairLemmas.{out-element, changes-text, changes-markup, changes-component, changes-element}
use Rattle.item_edits.proofs.RenderingLemmas.{different-from, clear-element, size-element}

-- what an element has that fits
pub record Parts (it : Item) (attributes : List ItemAttribute) (children : List Item) : Type 0 where
  pub few : sizes children < 2 ^ 31
  pub differ : Different attributes
  pub clear : AllClear children
  pub size : size_of it ≡ 1 + sizes children

pub element-parts : (it : Item) (n : ℕ) (name : List ℕ) (key : Value) (attributes : List ItemAttribute) (children : List Item) → Fits it → it ≡ item.Element n name key attributes children → Parts it attributes children
element-parts it n name key attributes children fits is =
    let size : size_of it ≡ 1 + sizes children = ap size_of is ∙ size-element n name key attributes children in
    let clear = clear-element it n name key attributes children fits.clear is in
    let few = fits.few in
    record { few = omega arith; differ = different-from attributes clear.0; clear = clear.1; size = size }

-- both names are one
one-name : (it other_it : Item) (m n : ℕ) (name other : List ℕ) (key later : Value) (was attributes : List ItemAttribute) (olds news : List Item) → label_of it ≡ label_of other_it
    → it ≡ item.Element m name key was olds → other_it ≡ item.Element n other later attributes news → other ≡ name
one-name it other_it m n name other key later was attributes olds news same is is' =
    let one : label_of it ≡ record { number = m; kind = element name; key = key } = ap label_by (ap out-Item is ∙ out-element m name key was olds) in
    let two : label_of other_it ≡ record { number = n; kind = element other; key = later } = ap label_by (ap out-Item is' ∙ out-element n other later attributes news) in
    let kinds : element other ≡ element name = ap (λ (l : Label). l.kind) (sym two ∙ sym same ∙ one) in
    cc

pub element-changes : (sibling : ℕ) (it other_it : Item) (m n : ℕ) (name other : List ℕ) (key later : Value) (was attributes : List ItemAttribute) (olds news : List Item) (first inner them : List Edit) → label_of it ≡ label_of other_it → Fits it → Fits other_it
    → it ≡ item.Element m name key was olds → other_it ≡ item.Element n other later attributes news → first ≡ names_planned sibling was attributes → Leads inner olds news → them ≡ first ++ stepped_in sibling inner → Changes sibling it other_it them
element-changes sibling it other_it m n name other key later was attributes olds news first inner them same fits fits' is is' names leads all =
    let old = element-parts it m name key was olds fits is in
    let new = element-parts other_it n other later attributes news fits' is' in
    let one = one-name it other_it m n name other key later was attributes olds news same is is' in
    subst (λ (z : Item). Changes sibling z other_it them) (sym is)
    (subst (λ (z : Item). Changes sibling (item.Element m name key was olds) z them) (sym (is' ∙ ap (λ (z : List ℕ). item.Element n z later attributes news) one))
    (subst (λ (z : List Edit). Changes sibling (item.Element m name key was olds) (item.Element n name later attributes news) z) (sym (all ∙ ap (λ (z : List Edit). z ++ stepped_in sibling inner) names))
    (changes-element sibling m n name key later was attributes olds news inner old.differ new.differ leads)))

pub element-counts : (sibling : ℕ) (it other_it : Item) (m n : ℕ) (name other : List ℕ) (key later : Value) (was attributes : List ItemAttribute) (olds news : List Item) (first inner them : List Edit) → label_of it ≡ label_of other_it
    → it ≡ item.Element m name key was olds → other_it ≡ item.Element n other later attributes news → first ≡ names_planned sibling was attributes → Totals (slots_of olds) (slots_of news) (counts_in inner) → them ≡ first ++ stepped_in sibling inner → Changed it other_it (counts_in them)
element-counts sibling it other_it m n name other key later was attributes olds news first inner them same is is' names totals all =
    let one = one-name it other_it m n name other key later was attributes olds news same is is' in
    let counts : counts_in them ≡ plus (name_edits was attributes) (stepped (counts_in inner)) =
    ap counts_in (all ∙ ap (λ (z : List Edit). z ++ stepped_in sibling inner) names)
    ∙ counts-append (names_planned sibling was attributes) (stepped_in sibling inner)
    ∙ ap (λ (c : Counts). plus c (counts_in (stepped_in sibling inner))) (counts-names sibling was attributes)
    ∙ ap (plus (name_edits was attributes)) (counts-stepped sibling inner) in
    subst (λ (z : Item). Changed z other_it (counts_in them)) (sym is)
    (subst (λ (z : Item). Changed (item.Element m name key was olds) z (counts_in them)) (sym (is' ∙ ap (λ (z : List ℕ). item.Element n z later attributes news) one))
    (subst (λ (c : Counts). Changed (item.Element m name key was olds) (item.Element n name later attributes news) c) (sym counts)
    (changed_element m n name key later was attributes olds news (counts_in inner) totals)))

module _ (sibling : ℕ) (it other_it : Item) (m n : ℕ) (old new : List ℕ) (them : List Edit) where
  pub text-changes : it ≡ item.Text m old → other_it ≡ item.Text n new → them ≡ text_planned sibling old new → Changes sibling it other_it them
  text-changes is is' all =
      subst (λ (z : Item). Changes sibling z other_it them) (sym is) (subst (λ (z : Item). Changes sibling (item.Text m old) z them) (sym is')
      (subst (λ (z : List Edit). Changes sibling (item.Text m old) (item.Text n new) z) (sym all) (changes-text sibling m n old new)))

  pub text-counts : it ≡ item.Text m old → other_it ≡ item.Text n new → them ≡ text_planned sibling old new → Changed it other_it (counts_in them)
  text-counts is is' all =
      subst (λ (z : Item). Changed z other_it (counts_in them)) (sym is) (subst (λ (z : Item). Changed (item.Text m old) z (counts_in them)) (sym is')
      (subst (λ (c : Counts). Changed (item.Text m old) (item.Text n new) c) (sym (ap counts_in all ∙ counts-text sibling old new)) (changed_text m n old new)))

  pub markup-changes : it ≡ item.Markup m old → other_it ≡ item.Markup n new → them ≡ markup_planned sibling old new → Changes sibling it other_it them
  markup-changes is is' all =
      subst (λ (z : Item). Changes sibling z other_it them) (sym is) (subst (λ (z : Item). Changes sibling (item.Markup m old) z them) (sym is')
      (subst (λ (z : List Edit). Changes sibling (item.Markup m old) (item.Markup n new) z) (sym all) (changes-markup sibling m n old new)))

  pub markup-counts : it ≡ item.Markup m old → other_it ≡ item.Markup n new → them ≡ markup_planned sibling old new → Changed it other_it (counts_in them)
  markup-counts is is' all =
      subst (λ (z : Item). Changed z other_it (counts_in them)) (sym is) (subst (λ (z : Item). Changed (item.Markup m old) z (counts_in them)) (sym is')
      (subst (λ (c : Counts). Changed (item.Markup m old) (item.Markup n new) c) (sym (ap counts_in all ∙ counts-markup sibling old new)) (changed_markup m n old new)))

module _ (sibling : ℕ) (it other_it : Item) (m n first second : ℕ) (what other : Made) (key later : Value) (given supplied : List ItemParameter) (them : List Edit) where
  pub component-changes : it ≡ item.Component m first what key given → other_it ≡ item.Component n second other later supplied → them ≡ [] → Changes sibling it other_it them
  component-changes is is' all =
      subst (λ (z : Item). Changes sibling z other_it them) (sym is) (subst (λ (z : Item). Changes sibling (item.Component m first what key given) z them) (sym is')
      (subst (λ (z : List Edit). Changes sibling (item.Component m first what key given) (item.Component n second other later supplied) z) (sym all) (changes-component sibling m n first second what other key later given supplied)))

  pub component-counts : it ≡ item.Component m first what key given → other_it ≡ item.Component n second other later supplied → them ≡ [] → Changed it other_it (counts_in them)
  component-counts is is' all =
      subst (λ (z : Item). Changed z other_it (counts_in them)) (sym is) (subst (λ (z : Item). Changed (item.Component m first what key given) z (counts_in them)) (sym is')
      (subst (λ (c : Counts). Changed (item.Component m first what key given) (item.Component n second other later supplied) c) (sym (ap counts_in all)) (changed_component m n first second what other key later given supplied)))
