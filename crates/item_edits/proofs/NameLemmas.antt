-- What an element has under its names, after the edits that change them.
use Rattle.std.proofs.Common.{◌≡◌, ◌∙◌, refl, ap, sym, subst, ℕ, zero, suc, ◌⊎◌, inl, inr, Bool, true, false, cond, List, [], ◌∷◌, ◌++◌, map, slice_get, Option, Some, None}
use Rattle.std.specs.List.{fold, filter}
use Rattle.std.specs.Ordering.{is_eq}
use Rattle.std.specs.Cmp.{eq_by_cmp_equiv}
use Rattle.std.specs.Cmp.Lexicographic.{nat_list_cmp_total}
use Rattle.std.proofs.lemmas.Map.Lookups.{exact_bytes}
use Rattle.page_core.specs.ByName.{by_characters, IsInOrder, value_of}
use Rattle.frame_core.specs.declared.item_attribute.ItemAttribute.{ItemAttribute}
use Rattle.frame_core.specs.declared.wire_node.WireAttribute.{WireAttribute}
use Rattle.frame_core.specs.declared.wire_node.WireValue.{WireValue}
use Rattle.frame_core.specs.declared.wire_node.WireValue.TheVariants.{Text, Handler}
use Rattle.edit_meaning.specs.declared.names.Names.{Names}
use Rattle.edit_meaning.specs.Attributes.{set_to, set_under, unset_under, nothing_set}
use Rattle.pairing_meaning.specs.Wires.{wire_attribute}
use Rattle.item_edits.proofs.EntryLemmas.{sorted-set, sorted-without, found-set, found-without, same-entries}

-- each name is there once
pub record Fine (names : Names) : Type 0 where
  pub attributes : IsInOrder names.attributes
  pub handlers : IsInOrder names.handlers

-- the text and the handler of a name
abbrev pub Held : Type 0
Held = Option (List ℕ) × Option ℕ

abbrev pub at_name : Names → List ℕ → Held
at_name names q = (value_of names.attributes q, value_of names.handlers q)

abbrev pub says : WireValue → Held
says (Text text) = (Some text, None)
says (Handler id) = (None, Some id)

abbrev pub none_held : Held
none_held = (None, None)

abbrev pub is_name : List ℕ → List ℕ → Bool
is_name q name = is_eq (by_characters q name)

turned : (q name : List ℕ) → is_eq (by_characters name q) ≡ is_name q name
turned q name = (eq_by_cmp_equiv nat_list_cmp_total).symm name q

pair : (b : Bool) (t u : Option (List ℕ)) (v w : Option ℕ) → ◌≡◌ {A = Held} (cond b t u, cond b v w) (cond b (t, v) (u, w))
pair true t u v w = refl
pair false t u v w = refl

pub fine-nothing : Fine nothing_set
unfolding Rattle.std.specs.List.Sorted.IsStrictlySortedBy
fine-nothing = record { attributes = tt; handlers = tt }

pub fine-set : (names : Names) (attribute : WireAttribute) → Fine names → Fine (set_under names attribute)
fine-set names attribute fine = by_value attribute.value
  where
    by_value : (value : WireValue) → Fine (set_to names attribute.name value)
    by_value (Text text) = record { attributes = sorted-set nat_list_cmp_total exact_bytes attribute.name text names.attributes fine.attributes; handlers = sorted-without nat_list_cmp_total exact_bytes _ names.handlers fine.handlers }
    by_value (Handler id) = record { attributes = sorted-without nat_list_cmp_total exact_bytes _ names.attributes fine.attributes; handlers = sorted-set nat_list_cmp_total exact_bytes attribute.name id names.handlers fine.handlers }

pub fine-unset : (names : Names) (name : List ℕ) → Fine names → Fine (unset_under names name)
fine-unset names name fine = record {
  attributes = sorted-without nat_list_cmp_total exact_bytes _ names.attributes fine.attributes;
  handlers = sorted-without nat_list_cmp_total exact_bytes _ names.handlers fine.handlers;
}

pub at-set : (names : Names) (attribute : WireAttribute) (q : List ℕ) → Fine names → at_name (set_under names attribute) q ≡ cond (is_name q attribute.name) (says attribute.value) (at_name names q)
at-set names attribute q fine = by_value attribute.value
  where
    by_value : (value : WireValue) → at_name (set_to names attribute.name value) q ≡ cond (is_name q attribute.name) (says value) (at_name names q)
    by_value (Text text) =
        let one = found-set nat_list_cmp_total exact_bytes attribute.name text q names.attributes in
        let two = found-without nat_list_cmp_total exact_bytes attribute.name q names.handlers fine.handlers ∙ ap (λ b. cond b None (value_of names.handlers q)) (turned q attribute.name) in
        (λ i. (one i, two i)) ∙ pair (is_name q attribute.name) (Some text) (value_of names.attributes q) None (value_of names.handlers q)
    by_value (Handler id) =
        let one = found-without nat_list_cmp_total exact_bytes attribute.name q names.attributes fine.attributes ∙ ap (λ b. cond b None (value_of names.attributes q)) (turned q attribute.name) in
        let two = found-set nat_list_cmp_total exact_bytes attribute.name id q names.handlers in
        (λ i. (one i, two i)) ∙ pair (is_name q attribute.name) None (value_of names.attributes q) (Some id) (value_of names.handlers q)

pub at-unset : (names : Names) (name q : List ℕ) → Fine names → at_name (unset_under names name) q ≡ cond (is_name q name) none_held (at_name names q)
at-unset names name q fine =
    let one = found-without nat_list_cmp_total exact_bytes name q names.attributes fine.attributes ∙ ap (λ b. cond b None (value_of names.attributes q)) (turned q name) in
    let two = found-without nat_list_cmp_total exact_bytes name q names.handlers fine.handlers ∙ ap (λ b. cond b None (value_of names.handlers q)) (turned q name) in
    (λ i. (one i, two i)) ∙ pair (is_name q name) None (value_of names.attributes q) None (value_of names.handlers q)

-- two that have the same under each name are the same
pub same-names : (one other : Names) → Fine one → Fine other → ((q : List ℕ) → at_name one q ≡ at_name other q) → one ≡ other
same-names one other fine too same =
    let attributes = same-entries nat_list_cmp_total exact_bytes one.attributes other.attributes fine.attributes too.attributes (λ q. ap (λ (h : Held). h.0) (same q)) in
    let handlers = same-entries nat_list_cmp_total exact_bytes one.handlers other.handlers fine.handlers too.handlers (λ q. ap (λ (h : Held). h.1) (same q)) in
    λ i. record { attributes = attributes i; handlers = handlers i }

-- what attributes leave under a name that had this before
abbrev pub held_after : List ItemAttribute → List ℕ → Held → Held
held_after [] q held = held
held_after (attribute ∷ attributes) q held = held_after attributes q (cond (is_name q attribute.name) (says (wire_attribute attribute).value) held)

abbrev pub gone_after : List ItemAttribute → List ℕ → Held → Held
gone_after [] q held = held
gone_after (attribute ∷ attributes) q held = gone_after attributes q (cond (is_name q attribute.name) none_held held)

pub fine-sets : (attributes : List ItemAttribute) (names : Names) → Fine names → Fine (fold set_under names (map wire_attribute attributes))
fine-sets [] names fine = fine
fine-sets (attribute ∷ attributes) names fine = fine-sets attributes (set_under names (wire_attribute attribute)) (fine-set names (wire_attribute attribute) fine)

pub at-sets : (attributes : List ItemAttribute) (names : Names) (q : List ℕ) → Fine names → at_name (fold set_under names (map wire_attribute attributes)) q ≡ held_after attributes q (at_name names q)
at-sets [] names q fine = refl
at-sets (attribute ∷ attributes) names q fine =
    at-sets attributes (set_under names (wire_attribute attribute)) q (fine-set names (wire_attribute attribute) fine)
    ∙ ap (held_after attributes q) (at-set names (wire_attribute attribute) q fine)

-- no attribute has this name
abbrev pub Lacks : List ItemAttribute → List ℕ → Type 0
Lacks [] q = Unit {0}
Lacks (attribute ∷ attributes) q = (is_name q attribute.name ≡ false) × Lacks attributes q

-- no two attributes have one name
abbrev pub Different : List ItemAttribute → Type 0
Different [] = Unit {0}
Different (attribute ∷ attributes) = Lacks attributes attribute.name × Different attributes

-- an attribute at a place has this name
pub record Has (attributes : List ItemAttribute) (q : List ℕ) : Type 0 where
  pub place : ℕ
  pub attribute : ItemAttribute
  pub there : slice_get attributes place ≡ Some attribute
  pub named : is_name q attribute.name ≡ true

told : (test : Bool) → (test ≡ true) ⊎ (test ≡ false)
told true = inl refl
told false = inr refl

pub has-or-lacks : (attributes : List ItemAttribute) (q : List ℕ) → Has attributes q ⊎ Lacks attributes q
has-or-lacks [] q = inr tt
has-or-lacks (attribute ∷ attributes) q = elim (told (is_name q attribute.name)) [
  | inl a ↦ inl (record { place = 0; attribute = attribute; there = refl; named = a })
  | inr a ↦ elim (has-or-lacks attributes q) [
    | inl h ↦ inl (record { place = suc h.place; attribute = h.attribute; there = h.there; named = h.named })
    | inr l ↦ inr (a, l)
  ]
]

pub held-lacks : (attributes : List ItemAttribute) (q : List ℕ) (held : Held) → Lacks attributes q → held_after attributes q held ≡ held
held-lacks [] q held lacks = refl
held-lacks (attribute ∷ attributes) q held lacks =
    ap (λ b. held_after attributes q (cond b (says (wire_attribute attribute).value) held)) lacks.0 ∙ held-lacks attributes q held lacks.1

pub gone-lacks : (attributes : List ItemAttribute) (q : List ℕ) (held : Held) → Lacks attributes q → gone_after attributes q held ≡ held
gone-lacks [] q held lacks = refl
gone-lacks (attribute ∷ attributes) q held lacks =
    ap (λ b. gone_after attributes q (cond b none_held held)) lacks.0 ∙ gone-lacks attributes q held lacks.1

pub lacks-filter : (p : ItemAttribute → Bool) (attributes : List ItemAttribute) (q : List ℕ) → Lacks attributes q → Lacks (filter p attributes) q
lacks-filter p [] q lacks = tt
lacks-filter p (attribute ∷ attributes) q lacks = by_test (lacks-filter p attributes q lacks.1) (p attribute)
  where
    by_test : Lacks (filter p attributes) q → (b : Bool) → Lacks (cond b (attribute ∷ filter p attributes) (filter p attributes)) q
    by_test rest true = (lacks.0, rest)
    by_test rest false = rest

-- names that are the same as one that is lacked are lacked
pub lacks-same : (attributes : List ItemAttribute) (name q : List ℕ) → is_name q name ≡ true → Lacks attributes name → Lacks attributes q
lacks-same [] name q same lacks = tt
lacks-same (attribute ∷ attributes) name q same lacks =
    ((eq_by_cmp_equiv nat_list_cmp_total).congr q name attribute.name same ∙ lacks.0, lacks-same attributes name q same lacks.1)

-- a name that one attribute has, another before it has not
apart : (attribute : ItemAttribute) (attributes : List ItemAttribute) (q : List ℕ) (place : ℕ) (other : ItemAttribute) → Lacks attributes attribute.name → slice_get attributes place ≡ Some other → is_name q other.name ≡ true → is_name q attribute.name ≡ false
apart attribute [] q place other lacks is named = absurd (cc)
apart attribute (first ∷ attributes) q zero other lacks is named =
    let same : first ≡ other = cc in
    let off : is_name attribute.name other.name ≡ false = subst (λ (a : ItemAttribute). is_name attribute.name a.name ≡ false) same lacks.0 in
    elim (told (is_name q attribute.name)) [
      | inr miss ↦ miss
      | inl hit ↦ (
          let on : is_name attribute.name other.name ≡ true = sym ((eq_by_cmp_equiv nat_list_cmp_total).congr q attribute.name other.name hit) ∙ named in
          absurd (cc))
    ]
apart attribute (first ∷ attributes) q (suc place) other lacks is named = apart attribute attributes q place other lacks.1 is named

-- of the attributes that pass, one that has the name and passes is the one that stands
pub held-in : (p : ItemAttribute → Bool) (attributes : List ItemAttribute) (q : List ℕ) (held : Held) (place : ℕ) (attribute : ItemAttribute) → Different attributes → slice_get attributes place ≡ Some attribute → is_name q attribute.name ≡ true → p attribute ≡ true
    → held_after (filter p attributes) q held ≡ says (wire_attribute attribute).value
held-in p [] q held place attribute different is named passes = absurd (cc)
held-in p (first ∷ attributes) q held zero attribute different is named passes =
    let same : first ≡ attribute = cc in
    let there : is_name q first.name ≡ true = subst (λ (a : ItemAttribute). is_name q a.name ≡ true) (sym same) named in
    ap (λ b. held_after (cond b (first ∷ filter p attributes) (filter p attributes)) q held) (ap p same ∙ passes)
    ∙ ap (λ b. held_after (filter p attributes) q (cond b (says (wire_attribute first).value) held)) there
    ∙ held-lacks (filter p attributes) q (says (wire_attribute first).value) (lacks-filter p attributes q (lacks-same attributes first.name q there different.0))
    ∙ ap (λ (a : ItemAttribute). says (wire_attribute a).value) same
held-in p (first ∷ attributes) q held (suc place) attribute different is named passes = by_test (λ before. held-in p attributes q before place attribute different.1 is named passes) (p first)
  where
    by_test : ((before : Held) → held_after (filter p attributes) q before ≡ says (wire_attribute attribute).value) → (b : Bool) → held_after (cond b (first ∷ filter p attributes) (filter p attributes)) q held ≡ says (wire_attribute attribute).value
    by_test rest true = rest (cond (is_name q first.name) (says (wire_attribute first).value) held)
    by_test rest false = rest held

-- one that has the name and does not pass leaves what was there
pub held-out : (p : ItemAttribute → Bool) (attributes : List ItemAttribute) (q : List ℕ) (held : Held) (place : ℕ) (attribute : ItemAttribute) → Different attributes → slice_get attributes place ≡ Some attribute → is_name q attribute.name ≡ true → p attribute ≡ false
    → held_after (filter p attributes) q held ≡ held
held-out p [] q held place attribute different is named fails = absurd (cc)
held-out p (first ∷ attributes) q held zero attribute different is named fails =
    let same : first ≡ attribute = cc in
    let there : is_name q first.name ≡ true = subst (λ (a : ItemAttribute). is_name q a.name ≡ true) (sym same) named in
    ap (λ b. held_after (cond b (first ∷ filter p attributes) (filter p attributes)) q held) (ap p same ∙ fails)
    ∙ held-lacks (filter p attributes) q held (lacks-filter p attributes q (lacks-same attributes first.name q there different.0))
held-out p (first ∷ attributes) q held (suc place) attribute different is named fails =
    by_test (held-out p attributes q held place attribute different.1 is named fails) (p first)
  where
    by_test : held_after (filter p attributes) q held ≡ held → (b : Bool) → held_after (cond b (first ∷ filter p attributes) (filter p attributes)) q held ≡ held
    by_test rest true = ap (λ b. held_after (filter p attributes) q (cond b (says (wire_attribute first).value) held)) (apart first attributes q place attribute different.0 is named) ∙ rest
    by_test rest false = rest

-- of the attributes that go, one that has the name and goes leaves nothing
pub gone-in : (p : ItemAttribute → Bool) (attributes : List ItemAttribute) (q : List ℕ) (held : Held) (place : ℕ) (attribute : ItemAttribute) → Different attributes → slice_get attributes place ≡ Some attribute → is_name q attribute.name ≡ true → p attribute ≡ true
    → gone_after (filter p attributes) q held ≡ none_held
gone-in p [] q held place attribute different is named passes = absurd (cc)
gone-in p (first ∷ attributes) q held zero attribute different is named passes =
    let same : first ≡ attribute = cc in
    let there : is_name q first.name ≡ true = subst (λ (a : ItemAttribute). is_name q a.name ≡ true) (sym same) named in
    ap (λ b. gone_after (cond b (first ∷ filter p attributes) (filter p attributes)) q held) (ap p same ∙ passes)
    ∙ ap (λ b. gone_after (filter p attributes) q (cond b none_held held)) there
    ∙ gone-lacks (filter p attributes) q none_held (lacks-filter p attributes q (lacks-same attributes first.name q there different.0))
gone-in p (first ∷ attributes) q held (suc place) attribute different is named passes =
    by_test (λ before. gone-in p attributes q before place attribute different.1 is named passes) (p first)
  where
    by_test : ((before : Held) → gone_after (filter p attributes) q before ≡ none_held) → (b : Bool) → gone_after (cond b (first ∷ filter p attributes) (filter p attributes)) q held ≡ none_held
    by_test rest true = rest (cond (is_name q first.name) none_held held)
    by_test rest false = rest held

-- one that has the name and stays leaves what was there
pub gone-out : (p : ItemAttribute → Bool) (attributes : List ItemAttribute) (q : List ℕ) (held : Held) (place : ℕ) (attribute : ItemAttribute) → Different attributes → slice_get attributes place ≡ Some attribute → is_name q attribute.name ≡ true → p attribute ≡ false
    → gone_after (filter p attributes) q held ≡ held
gone-out p [] q held place attribute different is named stays = absurd (cc)
gone-out p (first ∷ attributes) q held zero attribute different is named stays =
    let same : first ≡ attribute = cc in
    let there : is_name q first.name ≡ true = subst (λ (a : ItemAttribute). is_name q a.name ≡ true) (sym same) named in
    ap (λ b. gone_after (cond b (first ∷ filter p attributes) (filter p attributes)) q held) (ap p same ∙ stays)
    ∙ gone-lacks (filter p attributes) q held (lacks-filter p attributes q (lacks-same attributes first.name q there different.0))
gone-out p (first ∷ attributes) q held (suc place) attribute different is named stays =
    by_test (gone-out p attributes q held place attribute different.1 is named stays) (p first)
  where
    by_test : gone_after (filter p attributes) q held ≡ held → (b : Bool) → gone_after (cond b (first ∷ filter p attributes) (filter p attributes)) q held ≡ held
    by_test rest true = ap (λ b. gone_after (filter p attributes) q (cond b none_held held)) (apart first attributes q place attribute different.0 is named) ∙ rest
    by_test rest false = rest
