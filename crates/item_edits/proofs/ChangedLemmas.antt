-- The unsets and the sets of an element give it the names of its new attributes.
use Rattle.std.proofs.Common.{◌≡◌, ◌∙◌, refl, ap, sym, subst, ℕ, zero, suc, ◌⊎◌, inl, inr, Bool, true, false, cond, not, ◌||◌, ◌&&◌, List, [], ◌∷◌, ◌++◌, map, slice_get, Option, Some, None}
use Rattle.std.specs.Str.{bytes_eq}
use Rattle.std.specs.Option.{is_some}
use Rattle.std.specs.List.{fold, filter, list_any}
use Rattle.std.specs.Ordering.{is_eq}
use Rattle.std.specs.Cmp.{tied_itself}
use Rattle.std.specs.Cmp.Lexicographic.{nat_list_cmp_total}
use Rattle.std.proofs.lemmas.Bool.{eqb-true}
use Rattle.std.proofs.lemmas.Slice.Eq.{bytes_eq-Decides}
use Rattle.std.proofs.lemmas.Map.Keys.{any_passes_from_place}
use Rattle.std.proofs.lemmas.Map.Lookups.{exact_bytes}
use Rattle.page_core.specs.ByName.{by_characters}
use Rattle.frame_core.specs.declared.item_attribute.ItemAttribute.{ItemAttribute}
use Rattle.frame_core.specs.declared.item_attribute.ItemValue.{ItemValue}
use Rattle.frame_core.specs.declared.item_attribute.ItemValue.TheVariants as held
use Rattle.edit_meaning.specs.declared.names.Names.{Names}
use Rattle.edit_meaning.specs.Attributes.{set_under, unset_under, nothing_set}
use Rattle.pairing_meaning.specs.Wires.{wire_value, wire_attribute, names_of}
use Rattle.pairing_meaning.specs.Tallies.{same_name, same_held, is_set, is_unset}
use Rattle.item_edits.proofs.EntryLemmas.{tied}
use Rattle.item_edits.proofs.NameLemmas.{Fine, Held, at_name, says, none_held, is_name, fine-nothing, fine-unset, fine-sets, at-unset, at-sets, same-names, held_after, gone_after, Lacks, Different, Has, has-or-lacks, held-lacks, gone-lacks, lacks-filter, lacks-same, held-in, held-out, gone-in, gone-out}

-- names taken away one after the other
abbrev pub all_unset : Names → List ItemAttribute → Names
all_unset names [] = names
all_unset names (attribute ∷ attributes) = all_unset (unset_under names attribute.name) attributes

pub fine-unsets : (attributes : List ItemAttribute) (names : Names) → Fine names → Fine (all_unset names attributes)
fine-unsets [] names fine = fine
fine-unsets (attribute ∷ attributes) names fine = fine-unsets attributes (unset_under names attribute.name) (fine-unset names attribute.name fine)

at-unsets : (attributes : List ItemAttribute) (names : Names) (q : List ℕ) → Fine names → at_name (all_unset names attributes) q ≡ gone_after attributes q (at_name names q)
at-unsets [] names q fine = refl
at-unsets (attribute ∷ attributes) names q fine =
    at-unsets attributes (unset_under names attribute.name) q (fine-unset names attribute.name fine) ∙ ap (gone_after attributes q) (at-unset names attribute.name q fine)

told : (test : Bool) → (test ≡ true) ⊎ (test ≡ false)
told true = inl refl
told false = inr refl

pub name-is : (q name : List ℕ) → is_name q name ≡ true → q ≡ name
name-is q name is = exact_bytes q name (tied (by_characters q name) is)

pub name-self : (q : List ℕ) → is_name q q ≡ true
name-self q = ap is_eq (tied_itself nat_list_cmp_total q)

-- one that has the name is the one that stands
pub held-present : (attributes : List ItemAttribute) (q : List ℕ) (before : Held) (place : ℕ) (attribute : ItemAttribute) → Different attributes → slice_get attributes place ≡ Some attribute → is_name q attribute.name ≡ true
    → held_after attributes q before ≡ says (wire_value attribute.value)
held-present [] q before place attribute different is named = absurd (cc)
held-present (first ∷ attributes) q before zero attribute different is named =
    let same : first ≡ attribute = cc in
    let there : is_name q first.name ≡ true = subst (λ (a : ItemAttribute). is_name q a.name ≡ true) (sym same) named in
    ap (λ b. held_after attributes q (cond b (says (wire_value first.value)) before)) there
    ∙ held-lacks attributes q (says (wire_value first.value)) (lacks-same attributes first.name q there different.0)
    ∙ ap (λ (a : ItemAttribute). says (wire_value a.value)) same
held-present (first ∷ attributes) q before (suc place) attribute different is named =
    held-present attributes q (cond (is_name q first.name) (says (wire_value first.value)) before) place attribute different.1 is named

pub any-at : {X : Type 0} (p : X → Bool) (xs : List X) → list_any p xs ≡ true → (k : ℕ) × (x : X) × (slice_get xs k ≡ Some x) × (p x ≡ true)
any-at p [] is = absurd (cc)
any-at p (x ∷ xs) is = elim (told (p x)) [
  | inl hit ↦ (0, x, refl, hit)
  | inr miss ↦ (let rest = any-at p xs (rw miss at is) in (suc rest.0, rest.1, rest.2, rest.3))
]

both : (x y : Bool) → (x && y) ≡ true → (x ≡ true) × (y ≡ true)
both true y is = (refl, is)
both false y is = absurd (cc)

said-same : (one other : ItemValue) → same_held one other ≡ true → says (wire_value one) ≡ says (wire_value other)
said-same (held.Text one) (held.Text other) is = ap (λ t. (Some t, None)) ((bytes_eq-Decides one other).0 is)
said-same (held.Handler one) (held.Handler other) is = ap (λ n. (None, Some n)) (eqb-true one.id other.id is)
said-same (held.Text one) (held.Handler other) is = absurd (cc)
said-same (held.Handler one) (held.Text other) is = absurd (cc)

not-true : (b : Bool) → not b ≡ false → b ≡ true
not-true true is = refl
not-true false is = absurd (cc)

-- a name that no new attribute has goes
lacks-any : (news : List ItemAttribute) (q : List ℕ) (old : ItemAttribute) → is_name q old.name ≡ true → Lacks news q → list_any (λ new. same_name new old) news ≡ false
lacks-any [] q old named lacks = refl
lacks-any (new ∷ news) q old named lacks = elim (told (same_name new old)) [
  | inr miss ↦ rw miss (lacks-any news q old named lacks.1)
  | inl hit ↦ (
      let one : new.name ≡ old.name = (bytes_eq-Decides new.name old.name).0 hit in
      let here : is_name q new.name ≡ true = subst (λ n. is_name q n ≡ true) (sym one) named in
      let off = lacks.0 in
      absurd (cc))
]

-- under each name stands what the new attributes have
under-each : (olds news : List ItemAttribute) (q : List ℕ) → Different olds → Different news
    → held_after (filter (is_set olds) news) q (gone_after (filter (is_unset news) olds) q (held_after olds q none_held)) ≡ held_after news q none_held
under-each olds news q first second = elim (has-or-lacks news q) [
  | inr lacks ↦
      held-lacks (filter (is_set olds) news) q (gone_after (filter (is_unset news) olds) q (held_after olds q none_held)) (lacks-filter (is_set olds) news q lacks)
      ∙ went lacks ∙ sym (held-lacks news q none_held lacks)
  | inl has ↦ elim (told (is_set olds has.attribute)) [
    | inl set ↦
        held-in (is_set olds) news q (gone_after (filter (is_unset news) olds) q (held_after olds q none_held)) has.place has.attribute second has.there has.named set
        ∙ sym (held-present news q none_held has.place has.attribute second has.there has.named)
    | inr kept ↦
        held-out (is_set olds) news q (gone_after (filter (is_unset news) olds) q (held_after olds q none_held)) has.place has.attribute second has.there has.named kept
        ∙ stayed has kept
        ∙ sym (held-present news q none_held has.place has.attribute second has.there has.named)
  ]
]
  where
    went : Lacks news q → gone_after (filter (is_unset news) olds) q (held_after olds q none_held) ≡ none_held
    went lacks = elim (has-or-lacks olds q) [
      | inl old ↦ gone-in (is_unset news) olds q (held_after olds q none_held) old.place old.attribute first old.there old.named (ap not (lacks-any news q old.attribute old.named lacks))
      | inr none ↦ gone-lacks (filter (is_unset news) olds) q (held_after olds q none_held) (lacks-filter (is_unset news) olds q none) ∙ held-lacks olds q none_held none
    ]

    stayed : (has : Has news q) → is_set olds has.attribute ≡ false → gone_after (filter (is_unset news) olds) q (held_after olds q none_held) ≡ says (wire_value has.attribute.value)
    stayed has kept =
        let found = any-at (λ old. same_name old has.attribute && same_held old.value has.attribute.value) olds (not-true _ kept) in
        let parts = both (same_name found.1 has.attribute) (same_held found.1.value has.attribute.value) found.3 in
        let name : found.1.name ≡ has.attribute.name = (bytes_eq-Decides found.1.name has.attribute.name).0 parts.0 in
        let named : is_name q found.1.name ≡ true = subst (λ n. is_name q n ≡ true) (sym name) has.named in
        let same : same_name has.attribute found.1 ≡ true = (bytes_eq-Decides has.attribute.name found.1.name).1 (sym name) in
        let stays : is_unset news found.1 ≡ false = ap not (any_passes_from_place (λ new. same_name new found.1) news has.place has.attribute has.there same) in
        gone-out (is_unset news) olds q (held_after olds q none_held) found.0 found.1 first found.2 named stays
        ∙ held-present olds q none_held found.0 found.1 first found.2 named
        ∙ said-same found.1.value has.attribute.value parts.1

-- the names after all
pub names-changed : (olds news : List ItemAttribute) → Different olds → Different news
    → fold set_under (all_unset (names_of olds) (filter (is_unset news) olds)) (map wire_attribute (filter (is_set olds) news)) ≡ names_of news
names-changed olds news first second =
    let was = fine-sets olds nothing_set fine-nothing in
    let gone = fine-unsets (filter (is_unset news) olds) (names_of olds) was in
    same-names (fold set_under (all_unset (names_of olds) (filter (is_unset news) olds)) (map wire_attribute (filter (is_set olds) news))) (names_of news)
    (fine-sets (filter (is_set olds) news) (all_unset (names_of olds) (filter (is_unset news) olds)) gone) (fine-sets news nothing_set fine-nothing)
    (λ q. at-sets (filter (is_set olds) news) (all_unset (names_of olds) (filter (is_unset news) olds)) q gone
    ∙ ap (held_after (filter (is_set olds) news) q) (at-unsets (filter (is_unset news) olds) (names_of olds) q was ∙ ap (gone_after (filter (is_unset news) olds) q) (at-sets olds nothing_set q fine-nothing))
    ∙ under-each olds news q first second
    ∙ sym (at-sets news nothing_set q fine-nothing))
