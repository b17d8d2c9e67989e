-- The handlers of a new rendering have the ids of the handlers that they pair with.
use Rattle.std.proofs.Common.{◌≡◌, ◌∙◌, refl, ap, sym, subst, ℕ, zero, suc, ◌+◌, ◌<◌, ◌≤◌, ◌⊎◌, inl, inr, List, [], ◌∷◌, ◌++◌, length, map, slice_get, Option, Some, None, MatchOption, arith, length-append}
use Rattle.std.specs.List.{flat_map}
use Rattle.cs_ast.specs.declared.value.Value.{Value}
use Rattle.frame_core.specs.declared.made.Made.{Made}
use Rattle.frame_core.specs.declared.item.Item.{Item}
use Rattle.frame_core.specs.declared.item.Item.TheViews.{out-Item, roll-Item, roll-out-Item, out-roll-Item}
use Rattle.frame_core.specs.declared.item.Item.TheOpen.{Item-F}
use Rattle.frame_core.specs.declared.item.Item.TheVariants as item
use Rattle.frame_core.specs.declared.item.Item.TheFolds.{fold-roll-Item}
use Rattle.frame_core.specs.declared.item.ItemParameter.{ItemParameter}
use Rattle.frame_core.specs.declared.item_attribute.ItemAttribute.{ItemAttribute}
use Rattle.frame_core.specs.declared.item_attribute.ItemHandler.{ItemHandler}
use Rattle.frame_core.specs.declared.item_attribute.ItemValue.TheVariants as held
use Rattle.handler_ids.specs.declared.handler_value.HandlerValue.{HandlerValue}
use Rattle.handler_ids.specs.History.{Past}
use Rattle.pairing_meaning.specs.Slots.{Slot, slots_of, addresses, same_address}
use Rattle.pairing_meaning.specs.Pairs.{Pair, Tells}
use Rattle.pairing_meaning.specs.Births.{TellsSlots}
use Rattle.pairing_meaning.specs.Handlers.{HandlerAt, handler_here, handler_within, PathsPair, paths_here, paths_within, SameHandler, Keeps}
use Rattle.item_edits.specs.Renderings.{NamesDiffer, Clear, AllClear}
use Rattle.item_edits.proofs.PairLemmas.{out-element, out-text, out-markup, out-component, out-region}
use Rattle.item_edits.proofs.RenderingLemmas.{each-clear, clear-element, clear-region}
use Rattle.item_edits.proofs.SlotItemLemmas.{slot-has, each-slot}
use Rattle.item_edits.proofs.SlotPairLemmas.{old-there}
use Rattle.item_components.proofs.ListedLemmas.{told-pair}
use Rattle.frame_walk.specs.Ids.{value_of, values_in, values_of, id_of, ids_in, ids_of, bare_attribute, bare_layer, bare, Numbered}
use Rattle.frame_walk.specs.Keeping.{StaysAt, Stays, KeepsUnder, none_kept, KeepsIn, keeps_element, keeps_in_text, keeps_in_markup, keeps_in_component, KeepsAll, keeps_all, KeepsSlot, Gives, Walks}
use Rattle.frame_walk.proofs.InSlotsLemmas.{in-slots}
use Rattle.frame_walk.proofs.BareSlotLemmas.{bare_slot, ids-element, ids-region, as-many, same-slots, same-addresses}
use Rattle.frame_walk.proofs.KeepingLemmas.{long-under}
use Rattle.frame_walk.proofs.PathLemmas.{element-parts, Own, First, FirstPair, Deeper, handler-first, no-way, paths-first, no-paths, own-handler, inner-handler}
use Rattle.frame_walk.proofs.FollowLemmas.{Held, Follow, follow-split, numbered-follows, Above, above-none, slot_ids, above-at, AtAttribute, under-at, AtPlace, slots-at}

-- the id of the handler that it pairs with, or else one above so many
pub record HasId (count : ℕ) (olds news : List Slot) (way name : List ℕ) (new : ItemHandler) : Type 0 where
  pub keeps : (old : ItemHandler) → Keeps olds news way name new old → new.id ≡ old.id
  pub gives : ((old : ItemHandler) → Keeps olds news way name new old → ⊥) → count < new.id

-- items that differ in ids alone are elements alike

pub record Element-of (it : Item) (n : ℕ) (name : List ℕ) (key : Value) (attributes : List ItemAttribute) (children : List Item) : Type 0 where
  pub own : List ItemAttribute
  pub inner : List Item
  pub is : it ≡ item.Element n name key own inner
  pub same_own : map bare_attribute attributes ≡ map bare_attribute own
  pub same_inner : map bare children ≡ map bare inner

bare-element : (n : ℕ) (name : List ℕ) (key : Value) (attributes : List ItemAttribute) (children : List Item) → bare (item.Element n name key attributes children) ≡ item.Element n name key (map bare_attribute attributes) (map bare children)
bare-element n name key attributes children = ap bare (sym (item.rolls-Element n name key attributes children)) ∙ fold-roll-Item Item bare_layer (Item-F.Element n name key attributes children)

pub element-of : (walked it : Item) (n : ℕ) (name : List ℕ) (key : Value) (attributes : List ItemAttribute) (children : List Item) → bare walked ≡ bare it → walked ≡ item.Element n name key attributes children → Element-of it n name key attributes children
element-of walked it n name key attributes children same is = by_layer (out-Item it) refl
  where
    there : bare it ≡ item.Element n name key (map bare_attribute attributes) (map bare children)
    there = sym same ∙ ap bare is ∙ bare-element n name key attributes children

    front : (x : Item-F Item) → out-Item it ≡ x → bare (roll-Item x) ≡ item.Element n name key (map bare_attribute attributes) (map bare children)
    front x e = ap bare (sym (ap roll-Item e) ∙ roll-out-Item it) ∙ there

    by_layer : (x : Item-F Item) → out-Item it ≡ x → Element-of it n name key attributes children
    by_layer (Item-F.Element m other later own inner) e =
        let f : item.Element m other later (map bare_attribute own) (map bare inner) ≡ item.Element n name key (map bare_attribute attributes) (map bare children) =
        sym (fold-roll-Item Item bare_layer (Item-F.Element m other later own inner)) ∙ front (Item-F.Element m other later own inner) e in
        let g : Item-F.Element m other later (map bare_attribute own) (map bare inner) ≡ Item-F.Element n name key (map bare_attribute attributes) (map bare children) =
        sym (out-element m other later (map bare_attribute own) (map bare inner)) ∙ ap out-Item f ∙ out-element n name key (map bare_attribute attributes) (map bare children) in
        let a : m ≡ n = cc in
        let b : other ≡ name = cc in
        let d : later ≡ key = cc in
        let is_it : it ≡ item.Element m other later own inner = sym (roll-out-Item it) ∙ ap roll-Item e ∙ item.rolls-Element m other later own inner in
        record {
          own = own;
          inner = inner;
          is = is_it ∙ ap (λ z. item.Element z other later own inner) a ∙ ap (λ z. item.Element n z later own inner) b ∙ ap (λ z. item.Element n name z own inner) d;
          same_own = (let h : map bare_attribute attributes ≡ map bare_attribute own = cc in h);
          same_inner = (let h : map bare children ≡ map bare inner = cc in h);
        }
    by_layer (Item-F.Text number text) e =
        let f : item.Text number text ≡ item.Element n name key (map bare_attribute attributes) (map bare children) = sym (fold-roll-Item Item bare_layer (Item-F.Text number text)) ∙ front (Item-F.Text number text) e in
        let g : Item-F.Text number text ≡ Item-F.Element n name key (map bare_attribute attributes) (map bare children) = sym (out-text number text) ∙ ap out-Item f ∙ out-element n name key (map bare_attribute attributes) (map bare children) in
        absurd (cc)
    by_layer (Item-F.Markup number text) e =
        let f : item.Markup number text ≡ item.Element n name key (map bare_attribute attributes) (map bare children) = sym (fold-roll-Item Item bare_layer (Item-F.Markup number text)) ∙ front (Item-F.Markup number text) e in
        let g : Item-F.Markup number text ≡ Item-F.Element n name key (map bare_attribute attributes) (map bare children) = sym (out-markup number text) ∙ ap out-Item f ∙ out-element n name key (map bare_attribute attributes) (map bare children) in
        absurd (cc)
    by_layer (Item-F.Component number order what other parameters) e =
        let f : item.Component number order what other parameters ≡ item.Element n name key (map bare_attribute attributes) (map bare children) = sym (fold-roll-Item Item bare_layer (Item-F.Component number order what other parameters)) ∙ front (Item-F.Component number order what other parameters) e in
        let g : Item-F.Component number order what other parameters ≡ Item-F.Element n name key (map bare_attribute attributes) (map bare children) = sym (out-component number order what other parameters) ∙ ap out-Item f ∙ out-element n name key (map bare_attribute attributes) (map bare children) in
        absurd (cc)
    by_layer (Item-F.Region number other inner) e =
        let f : item.Region number other (map bare inner) ≡ item.Element n name key (map bare_attribute attributes) (map bare children) = sym (fold-roll-Item Item bare_layer (Item-F.Region number other inner)) ∙ front (Item-F.Region number other inner) e in
        let g : Item-F.Region number other (map bare inner) ≡ Item-F.Element n name key (map bare_attribute attributes) (map bare children) = sym (out-region number other (map bare inner)) ∙ ap out-Item f ∙ out-element n name key (map bare_attribute attributes) (map bare children) in
        absurd (cc)

-- what is kept of an element

pub record Inside (old : Item) (attributes : List ItemAttribute) (children : List Item) (kept : List (Option ℕ)) : Type 0 where
  pub m : ℕ
  pub tag : List ℕ
  pub key : Value
  pub was : List ItemAttribute
  pub before : List Item
  pub own : List (Option ℕ)
  pub inner : List (Option ℕ)
  pub is : old ≡ item.Element m tag key was before
  pub all : kept ≡ own ++ inner
  pub under : KeepsUnder was attributes own
  pub within : KeepsAll (slots_of before) (slots_of children) inner

inside : (old new : Item) (kept : List (Option ℕ)) (n : ℕ) (name : List ℕ) (key : Value) (attributes : List ItemAttribute) (children : List Item) → KeepsIn old new kept → new ≡ item.Element n name key attributes children → Inside old attributes children kept
inside old new kept n name key attributes children (keeps_element m n' tag other before_key later was own olds news under inner first within) is =
    let parts = element-parts n' n other name later key own attributes news children is in
    record {
      m = m;
      tag = tag;
      key = before_key;
      was = was;
      before = olds;
      own = under;
      inner = inner;
      is = refl;
      all = refl;
      under = subst (λ (them : List ItemAttribute). KeepsUnder was them under) parts.0 first;
      within = subst (λ (cs : List Item). KeepsAll (slots_of olds) (slots_of cs) inner) parts.1 within;
    }
inside old new kept n name key attributes children (keeps_in_text m n' was now) is =
    let f : Item-F.Text n' now ≡ Item-F.Element n name key attributes children = sym (out-text n' now) ∙ ap out-Item is ∙ out-element n name key attributes children in absurd (cc)
inside old new kept n name key attributes children (keeps_in_markup m n' was now) is =
    let f : Item-F.Markup n' now ≡ Item-F.Element n name key attributes children = sym (out-markup n' now) ∙ ap out-Item is ∙ out-element n name key attributes children in absurd (cc)
inside old new kept n name key attributes children (keeps_in_component m n' first second what other before_key later given supplied) is =
    let f : Item-F.Component n' second other later supplied ≡ Item-F.Element n name key attributes children = sym (out-component n' second other later supplied) ∙ ap out-Item is ∙ out-element n name key attributes children in absurd (cc)

-- each slot's item is clear
abbrev pub ClearSlots : List Slot → Type 0
ClearSlots slots = (place : ℕ) (slot : Slot) → slice_get slots place ≡ Some slot → Clear slot.item

pub clear-slots : (items : List Item) → AllClear items → ClearSlots (slots_of items)
clear-slots items clear place slot there =
    (slot-has Clear (slots_of items) place slot (each-slot Clear (λ number key children c. each-clear children (clear-region (item.Region number key children) number key children c refl)) items (each-clear items clear)) there).0

-- what stays of one name is one
stays-once : (was : List ItemAttribute) (name : List ℕ) (new one other : ItemHandler) → NamesDiffer was → Stays was name new one → Stays was name new other → one ≡ other
stays-once was name new one other differ a b =
    let place : a.0 ≡ b.0 = differ a.0 b.0 a.1 b.1 a.2 b.2 (a.3.name_is ∙ sym b.3.name_is) in
    let first : slice_get was b.0 ≡ Some a.1 = subst (λ k. slice_get was k ≡ Some a.1) place a.2 in
    let second = b.2 in
    let attribute : a.1 ≡ b.1 = cc in
    let e : held.Handler one ≡ held.Handler other = sym a.3.value_is ∙ ap (λ (z : ItemAttribute). z.value) attribute ∙ b.3.value_is in
    let f : one ≡ other = cc in f

-- a new element and its pair
module _ (count : ℕ) (olds news : List Slot) (i j : ℕ) (old new : Slot) (m n : ℕ) (tag other : List ℕ) (key later : Value) (was attributes : List ItemAttribute) (before after : List Item)
    (pair : Pair same_address (addresses olds) (addresses news) i j) (only : (k : ℕ) → Pair same_address (addresses olds) (addresses news) k j → k ≡ i)
    (old_there : slice_get olds i ≡ Some old) (new_there : slice_get news j ≡ Some new) (old_is : old.item ≡ item.Element m tag key was before) (new_is : new.item ≡ item.Element n other later attributes after) where
  same-some : {X : Type 0} (x y : X) (o : Option X) → o ≡ Some x → o ≡ Some y → x ≡ y
  same-some x y o a b = cc

  stays-keeps : (name : List ℕ) (handler is : ItemHandler) → Stays was name handler is → Keeps olds news (j ∷ []) name handler is
  stays-keeps name handler is stays = record {
    path = i ∷ [];
    pairs = paths_here olds news i j pair;
    there = subst (λ (q : List ℕ). HandlerAt olds (i ∷ []) q is) stays.3.name_is (handler_here olds i stays.0 m old tag key was before stays.1 is old_there old_is stays.2 stays.3.value_is);
    same = stays.3.same;
  }

  keeps-stays : (name : List ℕ) (handler is : ItemHandler) → Keeps olds news (j ∷ []) name handler is → Stays was name handler is
  keeps-stays name handler is keeps =
      let first = paths-first olds news keeps.path (j ∷ []) j [] keeps.pairs refl in
      let place : first.i ≡ i = only first.i first.pair in
      let alone : first.more ≡ [] = elim first.inside [
        | inl end ↦ end.1
        | inr deeper ↦ absurd (no-paths (slots_of deeper.before) (slots_of deeper.after) first.more [] deeper.inner refl)
      ] in
      let path : keeps.path ≡ i ∷ [] = first.path_is ∙ ap (λ k. k ∷ first.more) place ∙ ap (λ ks. i ∷ ks) alone in
      let own = own-handler olds i old m tag key was before name is old_there old_is (subst (λ p. HandlerAt olds p name is) path keeps.there) in
      (own.place, own.attribute, own.there, record { name_is = own.named; value_is = own.value; same = keeps.same })

  -- a handler of the element itself
  pub id-here : (name : List ℕ) (handler : ItemHandler) → NamesDiffer was → (place : Option ℕ) → Held count place handler.id
      → MatchOption place ((is : ItemHandler) → Stays was name handler is → ⊥) (λ id. (is : ItemHandler) × (is.id ≡ id) × Stays was name handler is) → HasId count olds news (j ∷ []) name handler
  id-here name handler differ None id_is tells = record { keeps = λ is keeps. absurd (tells is (keeps-stays name handler is keeps)); gives = λ none. id_is }
  id-here name handler differ (Some id) id_is tells = record {
    keeps = λ is keeps. id_is ∙ sym tells.1 ∙ ap (λ (h : ItemHandler). h.id) (stays-once was name handler tells.0 is differ tells.2 (keeps-stays name handler is keeps));
    gives = λ none. absurd (none tells.0 (stays-keeps name handler tells.0 tells.2));
  }

  -- a handler deeper in the element
  pub id-within : (path name : List ℕ) (handler : ItemHandler) → (path ≡ [] → ⊥) → HasId count (slots_of before) (slots_of after) path name handler → HasId count olds news (j ∷ path) name handler
  id-within path name handler deep inner = record { keeps = λ is keeps. inner.keeps is (within is keeps); gives = λ none. inner.gives (λ is keeps. none is (without is keeps)) }
    where
      without : (is : ItemHandler) → Keeps (slots_of before) (slots_of after) path name handler is → Keeps olds news (j ∷ path) name handler is
      without is keeps = record {
        path = i ∷ keeps.path;
        pairs = paths_within olds news i j m n old new tag other key later was attributes before after keeps.path path pair old_there new_there old_is new_is keeps.pairs;
        there = handler_within olds i m old tag name key was before keeps.path is old_there old_is keeps.there;
        same = keeps.same;
      }

      no-start : (ones others : List Slot) (from to : List ℕ) → PathsPair ones others from to → from ≡ [] → ⊥
      no-start ones others from to (paths_here ones' others' a b first) e = cc
      no-start ones others from to (paths_within ones' others' a b m' n' old' new' name' other' key' later' was' attributes' before' after' more way first old_at new_at old_eq new_eq inner') e = cc

      within : (is : ItemHandler) → Keeps olds news (j ∷ path) name handler is → Keeps (slots_of before) (slots_of after) path name handler is
      within is keeps =
          let first = paths-first olds news keeps.path (j ∷ path) j path keeps.pairs refl in
          let place : first.i ≡ i = only first.i first.pair in
          elim first.inside [
            | inl end ↦ absurd (deep end.0)
            | inr deeper ↦
                let there : slice_get olds i ≡ Some deeper.old = subst (λ k. slice_get olds k ≡ Some deeper.old) place deeper.old_there in
                let one : deeper.old ≡ old = same-some deeper.old old (slice_get olds i) there old_there in
                let two : deeper.new ≡ new = same-some deeper.new new (slice_get news j) deeper.new_there new_there in
                let olds_same = element-parts deeper.m m deeper.name tag deeper.key key deeper.was was deeper.before before (sym deeper.old_is ∙ ap (λ (s : Slot). s.item) one ∙ old_is) in
                let news_same = element-parts deeper.n n deeper.other other deeper.later later deeper.attributes attributes deeper.after after (sym deeper.new_is ∙ ap (λ (s : Slot). s.item) two ∙ new_is) in
                let pairs : PathsPair (slots_of before) (slots_of after) first.more path =
                subst (λ (os : List Item). PathsPair (slots_of os) (slots_of after) first.more path) olds_same.1 (subst (λ (ns : List Item). PathsPair (slots_of deeper.before) (slots_of ns) first.more path) news_same.1 deeper.inner) in
                let at : HandlerAt olds (i ∷ first.more) name is = subst (λ p. HandlerAt olds p name is) (first.path_is ∙ ap (λ k. k ∷ first.more) place) keeps.there in
                let more : first.more ≡ [] → ⊥ = λ e. no-start (slots_of before) (slots_of after) first.more path pairs e in
                record { path = first.more; pairs = pairs; there = inner-handler olds i old m tag key was before first.more name is old_there old_is more at; same = keeps.same }
          ]

-- a slot without a pair
alone-id : (count : ℕ) (olds news : List Slot) (from : List (Option ℕ)) (j : ℕ) (rest name : List ℕ) (handler : ItemHandler) (new : Item) (w : Slot) (more : List (Option ℕ)) → TellsSlots olds news from → slice_get from j ≡ Some None → more ≡ none_kept new
    → Follow count more (ids_in w.item) → slice_get news j ≡ Some w → HandlerAt news (j ∷ rest) name handler → HasId count olds news (j ∷ rest) name handler
alone-id count olds news from j rest name handler new w more tells told none follow there at = record {
  keeps = λ old keeps. let first = paths-first olds news keeps.path (j ∷ rest) j rest keeps.pairs refl in absurd (tells.alone first.i j told first.pair);
  gives = λ never.
      let above = above-none count (values_in new) (ids_in w.item) (subst (λ (ks : List (Option ℕ)). Follow count ks (ids_in w.item)) none follow) in
      above-at count news (j ∷ rest) name handler at (λ place others slot way is.
      let a : j ≡ place = cc in
      let here : slice_get news place ≡ Some w = subst (λ k. slice_get news k ≡ Some w) a there in
      let same : w ≡ slot = cc in
      subst (λ (s : Slot). Above count (ids_in s.item)) same above);
}

only-pair : (olds news : List Slot) (from : List (Option ℕ)) (i j : ℕ) → TellsSlots olds news from → slice_get from j ≡ Some (Some i) → (k : ℕ) → Pair same_address (addresses olds) (addresses news) k j → k ≡ i
only-pair olds news from i j tells told k pair = let other = told-pair olds news from k j tells pair in let same : k ≡ i = cc in same

-- the pair of an element, and what is kept of it
pub record PairOf (count : ℕ) (olds walked : List Slot) (j : ℕ) (attributes : List ItemAttribute) (children : List Item) : Type 0 where
  pub i : ℕ
  pub old : Slot
  pub m : ℕ
  pub tag : List ℕ
  pub key : Value
  pub was : List ItemAttribute
  pub before : List Item
  pub own : List (Option ℕ)
  pub inner : List (Option ℕ)
  pub new_attributes : List ItemAttribute
  pub new_children : List Item
  pub pair : Pair same_address (addresses olds) (addresses walked) i j
  pub only : (k : ℕ) → Pair same_address (addresses olds) (addresses walked) k j → k ≡ i
  pub there : slice_get olds i ≡ Some old
  pub is : old.item ≡ item.Element m tag key was before
  pub differ : NamesDiffer was
  pub clear : AllClear before
  pub under : KeepsUnder was new_attributes own
  pub same_own : map bare_attribute attributes ≡ map bare_attribute new_attributes
  pub follow_own : Follow count own (flat_map id_of attributes)
  pub within : KeepsAll (slots_of before) (slots_of new_children) inner
  pub same_inner : map bare children ≡ map bare new_children
  pub follow_inner : Follow count inner (ids_of children)

slot-pair : (count : ℕ) (olds news walked : List Slot) (kept : List (Option ℕ)) → KeepsAll olds news kept → map bare_slot walked ≡ map bare_slot news → Follow count kept (flat_map slot_ids walked) → ClearSlots olds
    → (j : ℕ) (slot : Slot) (n : ℕ) (tag : List ℕ) (key : Value) (attributes : List ItemAttribute) (children : List Item) → slice_get walked j ≡ Some slot → slot.item ≡ item.Element n tag key attributes children
    → (rest name : List ℕ) (handler : ItemHandler) → HandlerAt walked (j ∷ rest) name handler → HasId count olds walked (j ∷ rest) name handler ⊎ PairOf count olds walked j attributes children
slot-pair count olds news walked kept (keeps_all olds' news' from kept' tells keeps) same follow clear j slot n tag key attributes children there is rest name handler at = by_place found.place refl
  where
    found : AtPlace count from olds' j slot
    found = slots-at count from olds' news' walked kept' keeps same follow j slot there

    tells_walked : TellsSlots olds' walked from
    tells_walked = subst (λ them. Tells same_address (addresses olds') them from) (sym (same-addresses walked news' same)) tells

    by_place : (place : Option ℕ) → found.place ≡ place → HasId count olds' walked (j ∷ rest) name handler ⊎ PairOf count olds' walked j attributes children
    by_place None e =
        inl (alone-id count olds' walked from j rest name handler found.new.item slot found.more tells_walked (found.told ∙ ap Some e) (subst (λ (q : Option ℕ). KeepsSlot q olds' found.new.item found.more) e found.keeps) found.follow there at)
    by_place (Some i) e =
        let told : slice_get from j ≡ Some (Some i) = found.told ∙ ap Some e in
        let old = old-there olds' walked from j i tells_walked told in
        let kept_in : KeepsIn old.0.item found.new.item found.more = (subst (λ (q : Option ℕ). KeepsSlot q olds' found.new.item found.more) e found.keeps) old.0 old.1 in
        let like = element-of slot.item found.new.item n tag key attributes children (ap (λ (s : Slot). s.item) found.same) is in
        let parts = inside old.0.item found.new.item found.more n tag key like.own like.inner kept_in like.is in
        let clean = clear-element old.0.item parts.m parts.tag parts.key parts.was parts.before (clear i old.0 old.1) parts.is in
        let ids : ids_in slot.item ≡ flat_map id_of attributes ++ ids_of children = ap ids_in is ∙ ids-element n tag key attributes children in
        let all : Follow count (parts.own ++ parts.inner) (flat_map id_of attributes ++ ids_of children) = subst (Follow count (parts.own ++ parts.inner)) ids (subst (λ (ks : List (Option ℕ)). Follow count ks (ids_in slot.item)) parts.all found.follow) in
        let split = follow-split count parts.own parts.inner (flat_map id_of attributes) (ids_of children) (long-under parts.was like.own parts.own parts.under ∙ sym (as-many attributes like.own like.same_own)) all in
        inr (record {
          i = i;
          old = old.0;
          m = parts.m;
          tag = parts.tag;
          key = parts.key;
          was = parts.was;
          before = parts.before;
          own = parts.own;
          inner = parts.inner;
          new_attributes = like.own;
          new_children = like.inner;
          pair = tells_walked.paired i j told;
          only = only-pair olds' walked from i j tells_walked told;
          there = old.1;
          is = parts.is;
          differ = clean.0;
          clear = clean.1;
          under = parts.under;
          same_own = like.same_own;
          follow_own = split.0;
          within = parts.within;
          same_inner = like.same_inner;
          follow_inner = split.1;
        })

-- each handler has the id of the handler that it pairs with, or one above
pub handler-id : (count : ℕ) (olds news walked : List Slot) (kept : List (Option ℕ)) → KeepsAll olds news kept → map bare_slot walked ≡ map bare_slot news → Follow count kept (flat_map slot_ids walked) → ClearSlots olds
    → (way name : List ℕ) (handler : ItemHandler) → HandlerAt walked way name handler → HasId count olds walked way name handler
handler-id count olds news walked kept all same follow clear way name handler (handler_here slots j k n slot tag key attributes children attribute own there is here value) =
    elim (slot-pair count olds news slots kept all same follow clear j slot n tag key attributes children there is [] attribute.name own (handler_here slots j k n slot tag key attributes children attribute own there is here value)) [
      | inl id ↦ id
      | inr p ↦
          let at = under-at count p.was p.new_attributes attributes p.own p.under p.same_own p.follow_own k attribute own here value in
          id-here count olds slots p.i j p.old slot p.m n p.tag tag p.key key p.was attributes p.before children p.pair p.only p.there there p.is is attribute.name own p.differ at.place at.id_is at.tells
    ]
handler-id count olds news walked kept all same follow clear way name handler (handler_within slots j n slot tag under key attributes children path own there is inner) =
    elim (slot-pair count olds news slots kept all same follow clear j slot n tag key attributes children there is path under own (handler_within slots j n slot tag under key attributes children path own there is inner)) [
      | inl id ↦ id
      | inr p ↦
          let deeper = handler-id count (slots_of p.before) (slots_of p.new_children) (slots_of children) p.inner p.within (same-slots children p.new_children p.same_inner)
          (subst (Follow count p.inner) (sym (in-slots ids_in ids-region children)) p.follow_inner) (clear-slots p.before p.clear) path under own inner in
          id-within count olds slots p.i j p.old slot p.m n p.tag tag p.key key p.was attributes p.before children p.pair p.only p.there there p.is is path under own (λ e. no-way (slots_of children) path under own inner e) deeper
    ]

-- after a walk
pub walked-ids : (batch released : ℕ) (olds news walked : List Item) (gone : List ℕ) (history last : List Past) → AllClear olds → map bare walked ≡ map bare news → Walks batch released olds news walked gone history last
    → (way name : List ℕ) (new : ItemHandler) → HandlerAt (slots_of walked) way name new → HasId (length history) (slots_of olds) (slots_of walked) way name new
walked-ids batch released olds news walked gone history last clear same walks way name new at =
    let gives = walks.1 in
    let le : length history ≤ length history = omega arith in
    let follow = (numbered-follows (length history) batch gives.0 (values_of news) (ids_of walked) history walks.0 gives.2 le).0 in
    handler-id (length history) (slots_of olds) (slots_of news) (slots_of walked) gives.0 gives.1 (same-slots walked news same) (subst (Follow (length history) gives.0) (sym (in-slots ids_in ids-region walked)) follow)
    (clear-slots olds clear) way name new at
