-- What becomes of the node of a pair of elements.
use Rattle.std.proofs.Common.{◌≡◌, ◌∙◌, refl, ap, sym, subst, ℕ, zero, suc, ◌⊎◌, inl, inr, Bool, true, false, cond, ◌||◌, List, [], ◌∷◌, ◌++◌, map, slice_get, Option, Some, None}
use Rattle.std.specs.Option.{is_some}
use Rattle.std.specs.List.{fold, filter}
use Rattle.cs_ast.specs.declared.value.Value.{Value}
use Rattle.frame_core.specs.declared.item.Item.{Item}
use Rattle.frame_core.specs.declared.item.Item.TheVariants as item
use Rattle.frame_core.specs.declared.item_attribute.ItemAttribute.{ItemAttribute}
use Rattle.frame_core.specs.declared.wire_node.WireValue.{WireValue}
use Rattle.frame_core.specs.declared.wire_node.WireValue.TheVariants.{Text, Handler}
use Rattle.frame_core.specs.declared.edit.Edit.{Edit}
use Rattle.frame_core.specs.declared.edit.Edit.TheVariants as edit
use Rattle.edit_meaning.specs.declared.names.Names.{Names}
use Rattle.edit_meaning.specs.declared.browser_node.BrowserNode.{BrowserNode}
use Rattle.edit_meaning.specs.declared.browser_node.BrowserNode.TheVariants as node
use Rattle.edit_meaning.specs.Attributes.{set_under, unset_under, has_name, nothing_set}
use Rattle.pairing_meaning.specs.Wires.{wire_value, wire_attribute, names_of}
use Rattle.pairing_meaning.specs.Tallies.{is_set, is_unset}
use Rattle.item_edits.specs.Named.{set_of, unset_of, names_planned}
use Rattle.item_edits.specs.Steps.{At}
use Rattle.item_edits.proofs.StepLemmas.{name-unset, names-set, at-same, at-append}
use Rattle.item_edits.proofs.NameLemmas.{Fine, Held, at_name, says, none_held, is_name, fine-nothing, fine-unset, fine-sets, at-unset, at-sets, held_after, Lacks, Different, lacks-filter}
use Rattle.item_edits.proofs.ChangedLemmas.{all_unset, names-changed, held-present, name-self, name-is}

told : (test : Bool) → (test ≡ true) ⊎ (test ≡ false)
told true = inl refl
told false = inr refl

-- there is something under each of the names
Present : Names → List ItemAttribute → Type 0
Present names [] = Unit {0}
Present names (attribute ∷ attributes) = (has_name names attribute.name ≡ true) × Present names attributes

turned : (name other : List ℕ) → is_name name other ≡ false → is_name other name ≡ false
turned name other off = elim (told (is_name other name)) [
  | inr miss ↦ miss
  | inl hit ↦ (
      let same : other ≡ name = name-is other name hit in
      let on : is_name name other ≡ true = subst (λ n. is_name name n ≡ true) (sym same) (name-self name) in
      absurd (cc))
]

present-unset : (names : Names) (name : List ℕ) (attributes : List ItemAttribute) → Fine names → Lacks attributes name → Present names attributes → Present (unset_under names name) attributes
unfolding Present
present-unset names name [] fine lacks present = tt
present-unset names name (attribute ∷ attributes) fine lacks present =
    let at = at-unset names name attribute.name fine ∙ ap (λ b. cond b none_held (at_name names attribute.name)) (turned name attribute.name lacks.0) in
    (ap (λ (h : Held). is_some h.0 || is_some h.1) at ∙ present.0, present-unset names name attributes fine lacks.1 present.1)

unsets-at : (batch k born : ℕ) (name : List ℕ) (xs : List BrowserNode) (attributes : List ItemAttribute) (names : Names) → Fine names → Different attributes → Present names attributes
    → At batch (map (unset_of k) attributes) k (node.Element born name names xs) (node.Element born name (all_unset names attributes) xs)
unfolding Present
unsets-at batch k born name xs [] names fine different present = at-same batch k (node.Element born name names xs) (node.Element born name names xs) refl
unsets-at batch k born name xs (attribute ∷ attributes) names fine different present =
    at-append batch k (edit.Unset k attribute.name ∷ []) (map (unset_of k) attributes) (node.Element born name names xs) (node.Element born name (unset_under names attribute.name) xs)
    (node.Element born name (all_unset names (attribute ∷ attributes)) xs)
    (name-unset batch k born name names xs attribute.name present.0)
    (unsets-at batch k born name xs attributes (unset_under names attribute.name) (fine-unset names attribute.name fine) different.1 (present-unset names attribute.name attributes fine different.0 present.1))

different-filter : (p : ItemAttribute → Bool) (attributes : List ItemAttribute) → Different attributes → Different (filter p attributes)
different-filter p [] different = tt
different-filter p (attribute ∷ attributes) different = by_test (different-filter p attributes different.1) (p attribute)
  where
    by_test : Different (filter p attributes) → (b : Bool) → Different (cond b (attribute ∷ filter p attributes) (filter p attributes))
    by_test rest true = (lacks-filter p attributes attribute.name different.0, rest)
    by_test rest false = rest

present-filter : (p : ItemAttribute → Bool) (names : Names) (attributes : List ItemAttribute) → Present names attributes → Present names (filter p attributes)
unfolding Present
present-filter p names [] present = tt
present-filter p names (attribute ∷ attributes) present = by_test (present-filter p names attributes present.1) (p attribute)
  where
    by_test : Present names (filter p attributes) → (b : Bool) → Present names (cond b (attribute ∷ filter p attributes) (filter p attributes))
    by_test rest true = (present.0, rest)
    by_test rest false = rest

present-each : (names : Names) (attributes : List ItemAttribute) → ((k : ℕ) (a : ItemAttribute) → slice_get attributes k ≡ Some a → has_name names a.name ≡ true) → Present names attributes
unfolding Present
present-each names [] each = tt
present-each names (attribute ∷ attributes) each = (each 0 attribute refl, present-each names attributes (λ k. each (suc k)))

some-said : (value : WireValue) → (is_some (says value).0 || is_some (says value).1) ≡ true
some-said (Text text) = refl
some-said (Handler id) = refl

present-own : (attributes : List ItemAttribute) → Different attributes → Present (names_of attributes) attributes
present-own attributes different = present-each (names_of attributes) attributes (λ k a is.
    ap (λ (h : Held). is_some h.0 || is_some h.1) (at-sets attributes nothing_set a.name fine-nothing ∙ held-present attributes a.name none_held k a different is (name-self a.name))
    ∙ some-said (wire_value a.value))

-- the edits of names give an element the new ones
pub names-at : (batch k born : ℕ) (name : List ℕ) (xs : List BrowserNode) (olds news : List ItemAttribute) → Different olds → Different news
    → At batch (names_planned k olds news) k (node.Element born name (names_of olds) xs) (node.Element born name (names_of news) xs)
names-at batch k born name xs olds news first second =
    let gone = filter (is_unset news) olds in
    let new = filter (is_set olds) news in
    let middle = all_unset (names_of olds) gone in
    at-append batch k (map (unset_of k) gone) (map (set_of k) new) (node.Element born name (names_of olds) xs) (node.Element born name middle xs) (node.Element born name (names_of news) xs)
    (unsets-at batch k born name xs gone (names_of olds) (fine-sets olds nothing_set fine-nothing) (different-filter (is_unset news) olds first) (present-filter (is_unset news) (names_of olds) olds (present-own olds first)))
    (subst (λ (n : Names). At batch (map (set_of k) new) k (node.Element born name middle xs) (node.Element born name n xs)) (names-changed olds news first second) (names-set batch k born name xs new middle))
