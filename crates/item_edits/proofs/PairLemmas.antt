-- What becomes of the nodes of pairs.
use Rattle.std.proofs.Common.{◌≡◌, ℕ, Bool, true, false, cond, List, [], ◌∷◌, ◌++◌, Result, Ok, Err, refl, sym, ap, ◌∙◌, subst}
use Rattle.std.specs.Str.{bytes_eq}
use Rattle.std.proofs.lemmas.Slice.Eq.{bytes_eq-Decides}
use Rattle.cs_ast.specs.declared.value.Value.{Value}
use Rattle.frame_core.specs.declared.made.Made.{Made}
use Rattle.frame_core.specs.declared.item.Item.{Item}
use Rattle.frame_core.specs.declared.item.Item.TheViews.{out-Item, out-roll-Item}
use Rattle.frame_core.specs.declared.item.Item.TheOpen.{Item-F}
use Rattle.frame_core.specs.declared.item.Item.TheVariants as item
use Rattle.frame_core.specs.declared.item.ItemParameter.{ItemParameter}
use Rattle.frame_core.specs.declared.item_attribute.ItemAttribute.{ItemAttribute}
use Rattle.frame_core.specs.declared.edit.Edit.{Edit}
use Rattle.frame_core.specs.declared.edit.Edit.TheVariants.{UpdateText, UpdateMarkup}
use Rattle.page_core.specs.declared.faults.ApplyFault.{ApplyFault}
use Rattle.edit_meaning.specs.declared.names.Names.{Names}
use Rattle.edit_meaning.specs.Focus.{Focus}
use Rattle.edit_meaning.specs.declared.browser_node.BrowserNode.{BrowserNode}
use Rattle.edit_meaning.specs.declared.browser_node.BrowserNode.TheVariants as node
use Rattle.pairing_meaning.specs.Slots.{slots_of}
use Rattle.pairing_meaning.specs.Wires.{names_of}
use Rattle.pairing_meaning.specs.Births.{Shows, ShowEach, shows_element, shows_text, shows_markup, shows_component, Becomes, becomes_element, becomes_text, becomes_markup, becomes_component}
use Rattle.pairing_meaning.specs.Turning.{Turns, Leads}
use Rattle.item_edits.specs.Named.{names_planned}
use Rattle.item_edits.specs.Steps.{At, Changes, text_planned, markup_planned, stepped_in}
use Rattle.item_edits.proofs.StepLemmas.{text-updated, markup-updated, at-same, at-append, wrapped}
use Rattle.item_edits.proofs.NameLemmas.{Different}
use Rattle.item_edits.proofs.ElementLemmas.{names-at}

pub out-element : (number : ℕ) (name : List ℕ) (key : Value) (attributes : List ItemAttribute) (children : List Item) → out-Item (item.Element number name key attributes children) ≡ Item-F.Element number name key attributes children
out-element number name key attributes children = ap out-Item (sym (item.rolls-Element number name key attributes children)) ∙ out-roll-Item (Item-F.Element number name key attributes children)

pub out-text : (number : ℕ) (text : List ℕ) → out-Item (item.Text number text) ≡ Item-F.Text number text
out-text number text = ap out-Item (sym (item.rolls-Text number text)) ∙ out-roll-Item (Item-F.Text number text)

pub out-markup : (number : ℕ) (text : List ℕ) → out-Item (item.Markup number text) ≡ Item-F.Markup number text
out-markup number text = ap out-Item (sym (item.rolls-Markup number text)) ∙ out-roll-Item (Item-F.Markup number text)

pub out-component : (number order : ℕ) (what : Made) (key : Value) (parameters : List ItemParameter) → out-Item (item.Component number order what key parameters) ≡ Item-F.Component number order what key parameters
out-component number order what key parameters = ap out-Item (sym (item.rolls-Component number order what key parameters)) ∙ out-roll-Item (Item-F.Component number order what key parameters)

pub out-region : (number : ℕ) (key : Value) (children : List Item) → out-Item (item.Region number key children) ≡ Item-F.Region number key children
out-region number key children = ap out-Item (sym (item.rolls-Region number key children)) ∙ out-roll-Item (Item-F.Region number key children)

text-node : (it : Item) (x : BrowserNode) (n : ℕ) (t : List ℕ) → Shows it x → it ≡ item.Text n t → (born : ℕ) × (x ≡ node.Text born t)
text-node it x n t (shows_element number name key attributes children born nodes each) e =
    let f : Item-F.Element number name key attributes children ≡ Item-F.Text n t = sym (out-element number name key attributes children) ∙ ap out-Item e ∙ out-text n t in absurd (cc)
text-node it x n t (shows_text number text born) e =
    let f : Item-F.Text number text ≡ Item-F.Text n t = sym (out-text number text) ∙ ap out-Item e ∙ out-text n t in
    let same : text ≡ t = cc in (born, ap (node.Text born) same)
text-node it x n t (shows_markup number text born) e =
    let f : Item-F.Markup number text ≡ Item-F.Text n t = sym (out-markup number text) ∙ ap out-Item e ∙ out-text n t in absurd (cc)
text-node it x n t (shows_component number order what key parameters shown) e =
    let f : Item-F.Component number order what key parameters ≡ Item-F.Text n t = sym (out-component number order what key parameters) ∙ ap out-Item e ∙ out-text n t in absurd (cc)

markup-node : (it : Item) (x : BrowserNode) (n : ℕ) (t : List ℕ) → Shows it x → it ≡ item.Markup n t → (born : ℕ) × (x ≡ node.Markup born t)
markup-node it x n t (shows_element number name key attributes children born nodes each) e =
    let f : Item-F.Element number name key attributes children ≡ Item-F.Markup n t = sym (out-element number name key attributes children) ∙ ap out-Item e ∙ out-markup n t in absurd (cc)
markup-node it x n t (shows_text number text born) e =
    let f : Item-F.Text number text ≡ Item-F.Markup n t = sym (out-text number text) ∙ ap out-Item e ∙ out-markup n t in absurd (cc)
markup-node it x n t (shows_markup number text born) e =
    let f : Item-F.Markup number text ≡ Item-F.Markup n t = sym (out-markup number text) ∙ ap out-Item e ∙ out-markup n t in
    let same : text ≡ t = cc in (born, ap (node.Markup born) same)
markup-node it x n t (shows_component number order what key parameters shown) e =
    let f : Item-F.Component number order what key parameters ≡ Item-F.Markup n t = sym (out-component number order what key parameters) ∙ ap out-Item e ∙ out-markup n t in absurd (cc)

text-at : (batch k born : ℕ) (old new : List ℕ) (test : Bool) → bytes_eq old new ≡ test → At batch (cond test [] (UpdateText k new ∷ [])) k (node.Text born old) (node.Text born new)
text-at batch k born old new true same = at-same batch k (node.Text born old) (node.Text born new) (ap (node.Text born) ((bytes_eq-Decides old new).0 same))
text-at batch k born old new false other = text-updated batch k born old new

markup-at : (batch k born : ℕ) (old new : List ℕ) (test : Bool) → bytes_eq old new ≡ test → At batch (cond test [] (UpdateMarkup k new ∷ [])) k (node.Markup born old) (node.Markup born new)
markup-at batch k born old new true same = at-same batch k (node.Markup born old) (node.Markup born new) (ap (node.Markup born) ((bytes_eq-Decides old new).0 same))
markup-at batch k born old new false other = markup-updated batch k born old new

pub changes-text : (k m n : ℕ) (old new : List ℕ) → Changes k (item.Text m old) (item.Text n new) (text_planned k old new)
changes-text k m n old new batch x shows =
    let w = text-node (item.Text m old) x m old shows refl in (
      node.Text w.0 new,
      subst (λ (z : BrowserNode). Becomes batch (item.Text m old) (item.Text n new) z (node.Text w.0 new)) (sym w.1) (becomes_text batch m n old new w.0),
      subst (λ (z : BrowserNode). At batch (text_planned k old new) k z (node.Text w.0 new)) (sym w.1) (text-at batch k w.0 old new (bytes_eq old new) refl),
    )

pub changes-markup : (k m n : ℕ) (old new : List ℕ) → Changes k (item.Markup m old) (item.Markup n new) (markup_planned k old new)
changes-markup k m n old new batch x shows =
    let w = markup-node (item.Markup m old) x m old shows refl in (
      node.Markup w.0 new,
      subst (λ (z : BrowserNode). Becomes batch (item.Markup m old) (item.Markup n new) z (node.Markup w.0 new)) (sym w.1) (becomes_markup batch m n old new w.0),
      subst (λ (z : BrowserNode). At batch (markup_planned k old new) k z (node.Markup w.0 new)) (sym w.1) (markup-at batch k w.0 old new (bytes_eq old new) refl),
    )

component-node : (it : Item) (x : BrowserNode) (n order : ℕ) (what : Made) (key : Value) (parameters : List ItemParameter) → Shows it x → it ≡ item.Component n order what key parameters → (shown : ℕ) × (x ≡ node.Component shown)
component-node it x n order what key parameters (shows_element number name other attributes children born nodes each) e =
    let f : Item-F.Element number name other attributes children ≡ Item-F.Component n order what key parameters = sym (out-element number name other attributes children) ∙ ap out-Item e ∙ out-component n order what key parameters in absurd (cc)
component-node it x n order what key parameters (shows_text number text born) e =
    let f : Item-F.Text number text ≡ Item-F.Component n order what key parameters = sym (out-text number text) ∙ ap out-Item e ∙ out-component n order what key parameters in absurd (cc)
component-node it x n order what key parameters (shows_markup number text born) e =
    let f : Item-F.Markup number text ≡ Item-F.Component n order what key parameters = sym (out-markup number text) ∙ ap out-Item e ∙ out-component n order what key parameters in absurd (cc)
component-node it x n order what key parameters (shows_component number place made other given shown) e = (shown, refl)

pub changes-component : (k m n first second : ℕ) (what other : Made) (key later : Value) (given supplied : List ItemParameter) → Changes k (item.Component m first what key given) (item.Component n second other later supplied) []
changes-component k m n first second what other key later given supplied batch x shows =
    let w = component-node (item.Component m first what key given) x m first what key given shows refl in (
      node.Component w.0,
      subst (λ (z : BrowserNode). Becomes batch (item.Component m first what key given) (item.Component n second other later supplied) z (node.Component w.0)) (sym w.1) (becomes_component batch m n first second what other key later given supplied w.0),
      at-same batch k x (node.Component w.0) w.1,
    )

-- the node of an element
pub record Inside (name : List ℕ) (attributes : List ItemAttribute) (children : List Item) (x : BrowserNode) : Type 0 where
  pub born : ℕ
  pub nodes : List BrowserNode
  pub is : x ≡ node.Element born name (names_of attributes) nodes
  pub each : ShowEach (slots_of children) nodes

element-node : (it : Item) (x : BrowserNode) (n : ℕ) (name : List ℕ) (key : Value) (attributes : List ItemAttribute) (children : List Item) → Shows it x → it ≡ item.Element n name key attributes children → Inside name attributes children x
element-node it x n name key attributes children (shows_element m own other was inner born nodes each) e =
    let f : Item-F.Element m own other was inner ≡ Item-F.Element n name key attributes children = sym (out-element m own other was inner) ∙ ap out-Item e ∙ out-element n name key attributes children in
    let one : own ≡ name = cc in
    let two : was ≡ attributes = cc in
    let three : inner ≡ children = cc in
    record {
      born = born;
      nodes = nodes;
      is = ap (λ (z : List ℕ). node.Element born z (names_of was) nodes) one ∙ ap (λ (z : List ItemAttribute). node.Element born name (names_of z) nodes) two;
      each = subst (λ (z : List Item). ShowEach (slots_of z) nodes) three each;
    }
element-node it x n name key attributes children (shows_text number text born) e =
    let f : Item-F.Text number text ≡ Item-F.Element n name key attributes children = sym (out-text number text) ∙ ap out-Item e ∙ out-element n name key attributes children in absurd (cc)
element-node it x n name key attributes children (shows_markup number text born) e =
    let f : Item-F.Markup number text ≡ Item-F.Element n name key attributes children = sym (out-markup number text) ∙ ap out-Item e ∙ out-element n name key attributes children in absurd (cc)
element-node it x n name key attributes children (shows_component number order what other parameters shown) e =
    let f : Item-F.Component number order what other parameters ≡ Item-F.Element n name key attributes children = sym (out-component number order what other parameters) ∙ ap out-Item e ∙ out-element n name key attributes children in absurd (cc)

abbrev here_of : Result Focus ApplyFault → List BrowserNode
here_of (Ok focus) = focus.here
here_of (Err fault) = []

unturned : (batch : ℕ) (xs ys : List BrowserNode) → Turns batch [] xs ys → xs ≡ ys
unturned batch xs ys turns = ap here_of (turns [] [] [] refl)

-- the edits of an element's children, within it
stepped-at : (batch k born : ℕ) (name : List ℕ) (names : Names) (edits : List Edit) (xs ys : List BrowserNode) → Turns batch edits xs ys → At batch (stepped_in k edits) k (node.Element born name names xs) (node.Element born name names ys)
stepped-at batch k born name names [] xs ys turns = at-same batch k (node.Element born name names xs) (node.Element born name names ys) (ap (node.Element born name names) (unturned batch xs ys turns))
stepped-at batch k born name names (edit ∷ edits) xs ys turns = wrapped batch k born name names (edit ∷ edits) xs ys turns

pub changes-element : (k m n : ℕ) (name : List ℕ) (key other : Value) (was attributes : List ItemAttribute) (olds news : List Item) (edits : List Edit) → Different was → Different attributes → Leads edits olds news
    → Changes k (item.Element m name key was olds) (item.Element n name other attributes news) (names_planned k was attributes ++ stepped_in k edits)
changes-element k m n name key other was attributes olds news edits first second leads batch x shows =
    let w = element-node (item.Element m name key was olds) x m name key was olds shows refl in
    let r = leads batch w.nodes w.each in
    let after = node.Element w.born name (names_of attributes) r.0 in (
      after,
      subst (λ (z : BrowserNode). Becomes batch (item.Element m name key was olds) (item.Element n name other attributes news) z after) (sym w.is)
          (becomes_element batch m n name key other was attributes olds news r.1 w.born w.nodes r.0 r.2 r.3),
      subst (λ (z : BrowserNode). At batch (names_planned k was attributes ++ stepped_in k edits) k z after) (sym w.is)
          (at-append batch k (names_planned k was attributes) (stepped_in k edits) (node.Element w.born name (names_of was) w.nodes) (node.Element w.born name (names_of attributes) w.nodes) after
          (names-at batch k w.born name w.nodes was attributes first second)
          (stepped-at batch k w.born name (names_of attributes) edits w.nodes r.0 r.4)),
    )
