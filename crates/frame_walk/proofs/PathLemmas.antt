-- Handlers and pairs by the first of the places that lead to them.
use Rattle.std.proofs.Common.{◌≡◌, ◌∙◌, refl, ap, sym, subst, ℕ, ◌⊎◌, inl, inr, List, [], ◌∷◌, map, slice_get, Option, Some}
use Rattle.cs_ast.specs.declared.value.Value.{Value}
use Rattle.frame_core.specs.declared.item.Item.{Item}
use Rattle.frame_core.specs.declared.item.Item.TheViews.{out-Item}
use Rattle.frame_core.specs.declared.item.Item.TheOpen.{Item-F}
use Rattle.frame_core.specs.declared.item.Item.TheVariants as item
use Rattle.frame_core.specs.declared.item_attribute.ItemAttribute.{ItemAttribute}
use Rattle.frame_core.specs.declared.item_attribute.ItemHandler.{ItemHandler}
use Rattle.frame_core.specs.declared.item_attribute.ItemValue.TheVariants as held
use Rattle.pairing_meaning.specs.Slots.{Slot, slots_of, addresses, same_address}
use Rattle.pairing_meaning.specs.Pairs.{Pair}
use Rattle.pairing_meaning.specs.Handlers.{HandlerAt, handler_here, handler_within, PathsPair, paths_here, paths_within}
use Rattle.item_edits.proofs.PairLemmas.{out-element}

same-some : {X : Type 0} (x y : X) (o : Option X) → o ≡ Some x → o ≡ Some y → x ≡ y
same-some x y o a b = cc

-- two elements that are equal have the same attributes and children
pub element-parts : (m n : ℕ) (name other : List ℕ) (key later : Value) (was attributes : List ItemAttribute) (before after : List Item) → item.Element m name key was before ≡ item.Element n other later attributes after → (was ≡ attributes) × (before ≡ after)
element-parts m n name other key later was attributes before after same =
    let e : Item-F.Element m name key was before ≡ Item-F.Element n other later attributes after = sym (out-element m name key was before) ∙ ap out-Item same ∙ out-element n other later attributes after in
    ((let a : was ≡ attributes = cc in a), (let b : before ≡ after = cc in b))

-- an attribute of this name has this handler
pub record Own (attributes : List ItemAttribute) (name : List ℕ) (handler : ItemHandler) : Type 0 where
  pub place : ℕ
  pub attribute : ItemAttribute
  pub there : slice_get attributes place ≡ Some attribute
  pub named : attribute.name ≡ name
  pub value : attribute.value ≡ held.Handler handler

-- the handler is one of the element at the first place, or stands deeper in it
pub record First (slots : List Slot) (place : ℕ) (rest name : List ℕ) (handler : ItemHandler) : Type 0 where
  pub slot : Slot
  pub number : ℕ
  pub tag : List ℕ
  pub key : Value
  pub attributes : List ItemAttribute
  pub children : List Item
  pub there : slice_get slots place ≡ Some slot
  pub is : slot.item ≡ item.Element number tag key attributes children
  pub inside : ((rest ≡ []) × Own attributes name handler) ⊎ HandlerAt (slots_of children) rest name handler

pub handler-first : (slots : List Slot) (way name : List ℕ) (handler : ItemHandler) (place : ℕ) (rest : List ℕ) → HandlerAt slots way name handler → way ≡ place ∷ rest → First slots place rest name handler
handler-first slots way name handler place rest (handler_here slots' at k number slot tag key attributes children attribute handler' there is here value) e =
    let a : at ≡ place = cc in
    let b : rest ≡ [] = cc in
    record {
      slot = slot;
      number = number;
      tag = tag;
      key = key;
      attributes = attributes;
      children = children;
      there = subst (λ p. slice_get slots' p ≡ Some slot) a there;
      is = is;
      inside = inl (b, record { place = k; attribute = attribute; there = here; named = refl; value = value });
    }
handler-first slots way name handler place rest (handler_within slots' at number slot tag under key attributes children path handler' there is inner) e =
    let a : at ≡ place = cc in
    let b : path ≡ rest = cc in
    record {
      slot = slot;
      number = number;
      tag = tag;
      key = key;
      attributes = attributes;
      children = children;
      there = subst (λ p. slice_get slots' p ≡ Some slot) a there;
      is = is;
      inside = inr (subst (λ p. HandlerAt (slots_of children) p under handler') b inner);
    }

-- no handler stands nowhere
pub no-way : (slots : List Slot) (way name : List ℕ) (handler : ItemHandler) → HandlerAt slots way name handler → way ≡ [] → ⊥
no-way slots way name handler (handler_here slots' at k number slot tag key attributes children attribute handler' there is here value) e = cc
no-way slots way name handler (handler_within slots' at number slot tag under key attributes children path handler' there is inner) e = cc

-- what pairs in two elements that pair
pub record Deeper (olds news : List Slot) (i j : ℕ) (more rest : List ℕ) : Type 0 where
  pub old : Slot
  pub new : Slot
  pub m : ℕ
  pub n : ℕ
  pub name : List ℕ
  pub other : List ℕ
  pub key : Value
  pub later : Value
  pub was : List ItemAttribute
  pub attributes : List ItemAttribute
  pub before : List Item
  pub after : List Item
  pub old_there : slice_get olds i ≡ Some old
  pub new_there : slice_get news j ≡ Some new
  pub old_is : old.item ≡ item.Element m name key was before
  pub new_is : new.item ≡ item.Element n other later attributes after
  pub inner : PathsPair (slots_of before) (slots_of after) more rest

pub record FirstPair (olds news : List Slot) (path : List ℕ) (j : ℕ) (rest : List ℕ) : Type 0 where
  pub i : ℕ
  pub more : List ℕ
  pub path_is : path ≡ i ∷ more
  pub pair : Pair same_address (addresses olds) (addresses news) i j
  pub inside : ((rest ≡ []) × (more ≡ [])) ⊎ Deeper olds news i j more rest

pub paths-first : (olds news : List Slot) (path way : List ℕ) (j : ℕ) (rest : List ℕ) → PathsPair olds news path way → way ≡ j ∷ rest → FirstPair olds news path j rest
paths-first olds news path way j rest (paths_here olds' news' i at pair) e =
    let a : at ≡ j = cc in
    let b : rest ≡ [] = cc in
    record { i = i; more = []; path_is = refl; pair = subst (λ p. Pair same_address (addresses olds') (addresses news') i p) a pair; inside = inl (b, refl) }
paths-first olds news path way j rest (paths_within olds' news' i at m n old new name other key later was attributes before after more inner_way pair old_there new_there old_is new_is inner) e =
    let a : at ≡ j = cc in
    let b : inner_way ≡ rest = cc in
    record {
      i = i;
      more = more;
      path_is = refl;
      pair = subst (λ p. Pair same_address (addresses olds') (addresses news') i p) a pair;
      inside = inr (record {
        old = old;
        new = new;
        m = m;
        n = n;
        name = name;
        other = other;
        key = key;
        later = later;
        was = was;
        attributes = attributes;
        before = before;
        after = after;
        old_there = old_there;
        new_there = subst (λ p. slice_get news' p ≡ Some new) a new_there;
        old_is = old_is;
        new_is = new_is;
        inner = subst (λ p. PathsPair (slots_of before) (slots_of after) more p) b inner;
      });
    }

pub no-paths : (olds news : List Slot) (path way : List ℕ) → PathsPair olds news path way → way ≡ [] → ⊥
no-paths olds news path way (paths_here olds' news' i at pair) e = cc
no-paths olds news path way (paths_within olds' news' i at m n old new name other key later was attributes before after more inner_way pair old_there new_there old_is new_is inner) e = cc

-- a handler of the element at one place
pub own-handler : (slots : List Slot) (place : ℕ) (slot : Slot) (number : ℕ) (tag : List ℕ) (key : Value) (attributes : List ItemAttribute) (children : List Item) (name : List ℕ) (handler : ItemHandler)
    → slice_get slots place ≡ Some slot → slot.item ≡ item.Element number tag key attributes children → HandlerAt slots (place ∷ []) name handler → Own attributes name handler
own-handler slots place slot number tag key attributes children name handler there is at =
    let first = handler-first slots (place ∷ []) name handler place [] at refl in
    let same : first.slot ≡ slot = same-some first.slot slot (slice_get slots place) first.there there in
    let parts = element-parts first.number number first.tag tag first.key key first.attributes attributes first.children children (sym first.is ∙ ap (λ (s : Slot). s.item) same ∙ is) in
    elim first.inside [
      | inl own ↦ subst (λ (them : List ItemAttribute). Own them name handler) parts.0 own.1
      | inr deeper ↦ absurd (no-way (slots_of first.children) [] name handler deeper refl)
    ]

-- a handler that stands deeper in the element at one place
pub inner-handler : (slots : List Slot) (place : ℕ) (slot : Slot) (number : ℕ) (tag : List ℕ) (key : Value) (attributes : List ItemAttribute) (children : List Item) (rest name : List ℕ) (handler : ItemHandler)
    → slice_get slots place ≡ Some slot → slot.item ≡ item.Element number tag key attributes children → (rest ≡ [] → ⊥) → HandlerAt slots (place ∷ rest) name handler → HandlerAt (slots_of children) rest name handler
inner-handler slots place slot number tag key attributes children rest name handler there is more at =
    let first = handler-first slots (place ∷ rest) name handler place rest at refl in
    let same : first.slot ≡ slot = same-some first.slot slot (slice_get slots place) first.there there in
    let parts = element-parts first.number number first.tag tag first.key key first.attributes attributes first.children children (sym first.is ∙ ap (λ (s : Slot). s.item) same ∙ is) in
    elim first.inside [
      | inl own ↦ absurd (more own.0)
      | inr deeper ↦ subst (λ (cs : List Item). HandlerAt (slots_of cs) rest name handler) parts.1 deeper
    ]
