-- Ids place by place: each is the one that is kept there, or lies above those that were given before.
use Rattle.std.proofs.Common.{◌≡◌, ◌∙◌, refl, ap, sym, subst, ℕ, zero, suc, ◌+◌, ◌<◌, ◌≤◌, ◌⊎◌, inl, inr, List, [], ◌∷◌, ◌++◌, length, map, slice_get, Option, Some, None, MatchOption, arith, length-append, append-nil}
use Rattle.std.specs.List.{flat_map}
use Rattle.cs_ast.specs.declared.value.Value.{Value}
use Rattle.frame_core.specs.declared.item.Item.{Item}
use Rattle.frame_core.specs.declared.item_attribute.ItemAttribute.{ItemAttribute}
use Rattle.frame_core.specs.declared.item_attribute.ItemHandler.{ItemHandler}
use Rattle.frame_core.specs.declared.item_attribute.ItemValue.{ItemValue}
use Rattle.frame_core.specs.declared.item_attribute.ItemValue.TheVariants as held
use Rattle.handler_ids.specs.declared.handler_value.HandlerValue.{HandlerValue}
use Rattle.handler_ids.specs.History.{Past}
use Rattle.pairing_meaning.specs.Slots.{Slot, slots_of}
use Rattle.pairing_meaning.specs.Births.{TellsSlots}
use Rattle.pairing_meaning.specs.Handlers.{SameHandler, HandlerAt, handler_here, handler_within}
use Rattle.item_edits.proofs.FittingLemmas.{at-last}
use Rattle.frame_walk.specs.Ids.{value_of, values_in, id_under, id_of, ids_in, ids_of, bare_value, bare_attribute, bare, IsNumbered, Numbered, numbered_none, numbered_more}
use Rattle.frame_walk.specs.Keeping.{StaysAt, Stays, KeepsUnder, keeps_nothing, keeps_text, keeps_id, keeps_no_id, none_kept, KeepsIn, KeepsSlots, keeps_none, keeps_alone, keeps_pair, KeepsSlot}
use Rattle.frame_walk.proofs.InSlotsLemmas.{flat-one, in-slots}
use Rattle.frame_walk.proofs.BareSlotLemmas.{bare_slot, ids-element, ids-region, as-many, same-count}
use Rattle.frame_walk.proofs.KeepingLemmas.{slot_values, long-under, long-slots}

-- an id by what is kept, where so many were given before
abbrev pub Held : ℕ → Option ℕ → ℕ → Type 0
Held count None id = count < id
Held count (Some kept) id = id ≡ kept

abbrev pub Follow : ℕ → List (Option ℕ) → List ℕ → Type 0
Follow count [] [] = Unit {0}
Follow count [] (id ∷ ids) = ⊥
Follow count (place ∷ kept) [] = ⊥
Follow count (place ∷ kept) (id ∷ ids) = Held count place id × Follow count kept ids

pub follow-split : (count : ℕ) (kept more : List (Option ℕ)) (ids others : List ℕ) → length kept ≡ length ids → Follow count (kept ++ more) (ids ++ others) → Follow count kept ids × Follow count more others
follow-split count [] more [] others long follow = (tt, follow)
follow-split count [] more (id ∷ ids) others long follow = absurd (omega arith)
follow-split count (place ∷ kept) more [] others long follow = absurd (omega arith)
follow-split count (place ∷ kept) more (id ∷ ids) others long follow =
    let rest = follow-split count kept more ids others (omega arith) follow.1 in ((follow.0, rest.0), rest.1)

follow-last : (count : ℕ) (kept : List (Option ℕ)) (ids : List ℕ) (place : Option ℕ) (id : ℕ) → Follow count kept ids → Held count place id → Follow count (kept ++ place ∷ []) (ids ++ id ∷ [])
follow-last count [] [] place id follow held = (held, tt)
follow-last count [] (other ∷ ids) place id follow held = absurd follow
follow-last count (first ∷ kept) [] place id follow held = absurd follow
follow-last count (first ∷ kept) (other ∷ ids) place id follow held = (follow.0, follow-last count kept ids place id follow.1 held)

one-follows : (count batch id : ℕ) (place : Option ℕ) (value : HandlerValue) (next last : List Past) → IsNumbered batch place value id next last → count ≤ length next → Held count place id × (count ≤ length last)
one-follows count batch id None value next last given less =
    let longer : length last ≡ length next + 1 = ap length given.entry ∙ length-append next (record { value = value; given = batch; disposed = None } ∷ []) in
    let above = given.above in
    (omega arith, omega arith)
one-follows count batch id (Some kept) value next last same less = (same.0, subst (λ (h : List Past). count ≤ length h) (sym same.1) less)

-- ids that are given one after the other
pub numbered-follows : (count batch : ℕ) (kept : List (Option ℕ)) (values : List HandlerValue) (ids : List ℕ) (history next : List Past) → Numbered batch kept values ids history next → count ≤ length history → Follow count kept ids × (count ≤ length next)
numbered-follows count batch kept values ids history next (numbered_none batch' history') less = (tt, less)
numbered-follows count batch kept values ids history next (numbered_more batch' id kept' place values' value ids' history' middle last so_far one) less =
    let before = numbered-follows count batch' kept' values' ids' history' middle so_far less in
    let here = one-follows count batch' id place value middle last one before.1 in
    (follow-last count kept' ids' place id before.0 here.0, here.1)

-- ids above those that were given before

abbrev pub Above : ℕ → List ℕ → Type 0
Above count [] = Unit {0}
Above count (id ∷ ids) = (count < id) × Above count ids

pub above-none : {X : Type 0} (count : ℕ) (xs : List X) (ids : List ℕ) → Follow count (map (λ x. None) xs) ids → Above count ids
above-none count [] [] follow = tt
above-none count [] (id ∷ ids) follow = absurd follow
above-none count (x ∷ xs) [] follow = absurd follow
above-none count (x ∷ xs) (id ∷ ids) follow = (follow.0, above-none count xs ids follow.1)

above-split : (count : ℕ) (ids others : List ℕ) → Above count (ids ++ others) → Above count ids × Above count others
above-split count [] others above = (tt, above)
above-split count (id ∷ ids) others above = let rest = above-split count ids others above.1 in ((above.0, rest.0), rest.1)

id-of : (attribute : ItemAttribute) (handler : ItemHandler) → attribute.value ≡ held.Handler handler → id_of attribute ≡ handler.id ∷ []
id-of attribute handler is = ap id_under is

own-above : (count : ℕ) (attributes : List ItemAttribute) (place : ℕ) (attribute : ItemAttribute) (handler : ItemHandler) → slice_get attributes place ≡ Some attribute → attribute.value ≡ held.Handler handler → Above count (flat_map id_of attributes) → count < handler.id
own-above count [] place attribute handler there value above = absurd (cc)
own-above count (first ∷ attributes) zero attribute handler there value above =
    let same : first ≡ attribute = cc in
    let own : id_of first ≡ handler.id ∷ [] = ap id_of same ∙ id-of attribute handler value in
    (subst (Above count) own (above-split count (id_of first) (flat_map id_of attributes) above).0).0
own-above count (first ∷ attributes) (suc place) attribute handler there value above = own-above count attributes place attribute handler there value (above-split count (id_of first) (flat_map id_of attributes) above).1

abbrev pub slot_ids : Slot → List ℕ
slot_ids slot = ids_in slot.item

above-slot : (count : ℕ) (slots : List Slot) (place : ℕ) (slot : Slot) → slice_get slots place ≡ Some slot → Above count (flat_map slot_ids slots) → Above count (ids_in slot.item)
above-slot count [] place slot there above = absurd (cc)
above-slot count (first ∷ slots) zero slot there above =
    let same : first ≡ slot = cc in subst (λ (s : Slot). Above count (ids_in s.item)) same (above-split count (ids_in first.item) (flat_map slot_ids slots) above).0
above-slot count (first ∷ slots) (suc place) slot there above = above-slot count slots place slot there (above-split count (ids_in first.item) (flat_map slot_ids slots) above).1

-- a handler in a slot whose ids are above has one that is above
pub above-at : (count : ℕ) (slots : List Slot) (way name : List ℕ) (handler : ItemHandler) → HandlerAt slots way name handler
    → ((place : ℕ) (rest : List ℕ) (slot : Slot) → way ≡ place ∷ rest → slice_get slots place ≡ Some slot → Above count (ids_in slot.item)) → count < handler.id
above-at count slots way name handler (handler_here slots' place k number slot tag key attributes children attribute handler' there is here value) above =
    let ids : ids_in slot.item ≡ flat_map id_of attributes ++ ids_of children = ap ids_in is ∙ ids-element number tag key attributes children in
    own-above count attributes k attribute handler' here value (above-split count (flat_map id_of attributes) (ids_of children) (subst (Above count) ids (above place [] slot refl there))).0
above-at count slots way name handler (handler_within slots' place number slot tag under key attributes children path handler' there is inner) above =
    let ids : ids_in slot.item ≡ flat_map id_of attributes ++ ids_of children = ap ids_in is ∙ ids-element number tag key attributes children in
    let deeper = (above-split count (flat_map id_of attributes) (ids_of children) (subst (Above count) ids (above place path slot refl there))).1 in
    let all : Above count (flat_map slot_ids (slots_of children)) = subst (Above count) (sym (in-slots ids_in ids-region children)) deeper in
    above-at count (slots_of children) path under handler' inner (λ at rest one is there. above-slot count (slots_of children) at one there all)

-- lists with one more at their end

pub unsnoc : {X Y : Type 0} (f : X → Y) (ws xs : List X) (x : X) → map f ws ≡ map f (xs ++ x ∷ []) → (less : List X) × (last : X) × (ws ≡ less ++ last ∷ []) × (map f less ≡ map f xs) × (f last ≡ f x)
unsnoc f [] [] x same = absurd (cc)
unsnoc f [] (y ∷ xs) x same = absurd (cc)
unsnoc f (w ∷ []) [] x same = ([], w, refl, refl, (let e : f w ≡ f x = cc in e))
unsnoc f (w ∷ v ∷ ws) [] x same = absurd (cc)
unsnoc f (w ∷ ws) (y ∷ xs) x same =
    let first : f w ≡ f y = cc in
    let others : map f ws ≡ map f (xs ++ x ∷ []) = cc in
    let rest = unsnoc f ws xs x others in
    (w ∷ rest.0, rest.1, ap (λ zs. w ∷ zs) rest.2, ap (λ z. z ∷ map f rest.0) first ∙ ap (λ zs. f y ∷ zs) rest.3, rest.4)

get-front : {X : Type 0} (xs more : List X) (i : ℕ) (x : X) → slice_get xs i ≡ Some x → slice_get (xs ++ more) i ≡ Some x
get-front [] more i x there = absurd (cc)
get-front (y ∷ xs) more zero x there = there
get-front (y ∷ xs) more (suc i) x there = get-front xs more i x there

get-end : {X : Type 0} (xs : List X) (x : X) (i : ℕ) → i ≡ length xs → slice_get (xs ++ x ∷ []) i ≡ Some x
get-end [] x zero is = refl
get-end [] x (suc i) is = absurd (omega arith)
get-end (y ∷ xs) x zero is = absurd (omega arith)
get-end (y ∷ xs) x (suc i) is = get-end xs x i (omega arith)

as-long : {X Y : Type 0} (f : X → Y) (xs ys : List X) → map f xs ≡ map f ys → length xs ≡ length ys
as-long f [] [] same = refl
as-long f [] (y ∷ ys) same = absurd (cc)
as-long f (x ∷ xs) [] same = absurd (cc)
as-long f (x ∷ xs) (y ∷ ys) same = ap suc (as-long f xs ys (let rest : map f xs ≡ map f ys = cc in rest))

-- what is kept of one attribute

pub record AtAttribute (count : ℕ) (was : List ItemAttribute) (name : List ℕ) (handler : ItemHandler) : Type 0 where
  pub place : Option ℕ
  pub id_is : Held count place handler.id
  pub tells : MatchOption place ((old : ItemHandler) → Stays was name handler old → ⊥) (λ id. (old : ItemHandler) × (old.id ≡ id) × Stays was name handler old)

abbrev Tells : List ItemAttribute → List ℕ → ItemHandler → Option ℕ → Type 0
Tells was name handler place = MatchOption place ((old : ItemHandler) → Stays was name handler old → ⊥) (λ id. (old : ItemHandler) × (old.id ≡ id) × Stays was name handler old)

-- handlers that differ in their ids alone stand for the same
stands-same : (was : List ItemAttribute) (name : List ℕ) (one other : ItemHandler) → record one { id = 0 } ≡ record other { id = 0 } → (old : ItemHandler) → Stays was name one old → Stays was name other old
stands-same was name one other same old stays =
    let at = stays.3 in
    let who : one.who ≡ other.who = ap (λ (h : ItemHandler). h.who) same in
    let place : one.place ≡ other.place = ap (λ (h : ItemHandler). h.place) same in
    let captures : one.captures ≡ other.captures = ap (λ (h : ItemHandler). h.captures) same in
    (stays.0, stays.1, stays.2, record { name_is = at.name_is; value_is = at.value_is; same = record { who = at.same.who ∙ who; place = at.same.place ∙ place; captures = at.same.captures ∙ captures } })

tells-same : (was : List ItemAttribute) (name : List ℕ) (one other : ItemHandler) (place : Option ℕ) → record one { id = 0 } ≡ record other { id = 0 } → Tells was name one place → Tells was name other place
tells-same was name one other None same none = λ old stays. none old (stands-same was name other one (sym same) old stays)
tells-same was name one other (Some id) same some = (some.0, some.1, stands-same was name one other same some.0 some.2)

bare-handler : (walked value : ItemValue) (one other : ItemHandler) → bare_value walked ≡ bare_value value → walked ≡ held.Handler one → value ≡ held.Handler other → record one { id = 0 } ≡ record other { id = 0 }
bare-handler walked value one other same is is' =
    let e : held.Handler (record one { id = 0 }) ≡ held.Handler (record other { id = 0 }) = sym (ap bare_value is) ∙ same ∙ ap bare_value is' in
    let f : record one { id = 0 } ≡ record other { id = 0 } = cc in f

no-handler : (walked value : ItemValue) (handler : ItemHandler) (text : List ℕ) → bare_value walked ≡ bare_value value → walked ≡ held.Handler handler → value ≡ held.Text text → ⊥
no-handler walked value handler text same is is' =
    let e : held.Handler (record handler { id = 0 }) ≡ held.Text text = sym (ap bare_value is) ∙ same ∙ ap bare_value is' in
    absurd (cc)

is-text : (walked value : ItemValue) (text : List ℕ) → bare_value walked ≡ bare_value value → value ≡ held.Text text → id_under walked ≡ []
is-text (held.Text other) value text same is = refl
is-text (held.Handler handler) value text same is = absurd (no-handler (held.Handler handler) value handler text same refl is)

is-handler : (walked value : ItemValue) (new : ItemHandler) → bare_value walked ≡ bare_value value → value ≡ held.Handler new → (handler : ItemHandler) × (walked ≡ held.Handler handler)
is-handler (held.Text text) value new same is =
    let e : held.Text text ≡ held.Handler (record new { id = 0 }) = same ∙ ap bare_value is in
    absurd (cc)
is-handler (held.Handler handler) value new same is = (handler, refl)

one-attribute : (count : ℕ) (was rest walked : List ItemAttribute) (so_far : List (Option ℕ)) (place : Option ℕ) (attribute : ItemAttribute) (new : ItemHandler) → length so_far ≡ length (flat_map value_of rest) → attribute.value ≡ held.Handler new → Tells was attribute.name new place
    → ((less : List ItemAttribute) → map bare_attribute less ≡ map bare_attribute rest → Follow count so_far (flat_map id_of less) → (k : ℕ) (a : ItemAttribute) (handler : ItemHandler) → slice_get less k ≡ Some a → a.value ≡ held.Handler handler → AtAttribute count was a.name handler)
    → map bare_attribute walked ≡ map bare_attribute (rest ++ attribute ∷ []) → Follow count (so_far ++ place ∷ []) (flat_map id_of walked) → (k : ℕ) (a : ItemAttribute) (handler : ItemHandler) → slice_get walked k ≡ Some a → a.value ≡ held.Handler handler
    → AtAttribute count was a.name handler
one-attribute count was rest walked so_far place attribute new long value tells before same follow k a handler there is =
    let parts = unsnoc bare_attribute walked rest attribute same in
    let less = parts.0 in
    let last = parts.1 in
    let values : bare_value last.value ≡ bare_value attribute.value = ap (λ (z : ItemAttribute). z.value) parts.4 in
    let own = is-handler last.value attribute.value new values value in
    let ids : flat_map id_of walked ≡ flat_map id_of less ++ own.0.id ∷ [] = ap (flat_map id_of) parts.2 ∙ flat-one id_of less last ∙ ap (λ (xs : List ℕ). flat_map id_of less ++ xs) (id-of last own.0 own.1) in
    let split = follow-split count so_far (place ∷ []) (flat_map id_of less) (own.0.id ∷ []) (long ∙ sym (as-many less rest parts.3)) (subst (Follow count (so_far ++ place ∷ [])) ids follow) in
    elim (at-last less last a k (subst (λ (ws : List ItemAttribute). slice_get ws k ≡ Some a) parts.2 there)) [
      | inl first ↦ before less parts.3 split.0 k a handler first is
      | inr end ↦
          let same_handler : handler ≡ own.0 = (let e : held.Handler handler ≡ held.Handler own.0 = sym is ∙ ap (λ (z : ItemAttribute). z.value) end.1 ∙ own.1 in let f : handler ≡ own.0 = cc in f) in
          let named : attribute.name ≡ a.name = sym (ap (λ (z : ItemAttribute). z.name) parts.4) ∙ sym (ap (λ (z : ItemAttribute). z.name) end.1) in
          record {
            place = place;
            id_is = subst (λ (h : ItemHandler). Held count place h.id) (sym same_handler) split.1.0;
            tells = subst (λ (n : List ℕ). Tells was n handler place) named
                (tells-same was attribute.name new handler place (sym (bare-handler a.value attribute.value handler new (ap (λ (z : ItemAttribute). bare_value z.value) end.1 ∙ values) is value)) tells);
          }
    ]

-- the id of a handler of an element, by what its pair had
pub under-at : (count : ℕ) (was attributes walked : List ItemAttribute) (kept : List (Option ℕ)) → KeepsUnder was attributes kept → map bare_attribute walked ≡ map bare_attribute attributes → Follow count kept (flat_map id_of walked)
    → (k : ℕ) (a : ItemAttribute) (handler : ItemHandler) → slice_get walked k ≡ Some a → a.value ≡ held.Handler handler → AtAttribute count was a.name handler
under-at count was attributes [] kept (keeps_nothing was') same follow k a handler there is = absurd (cc)
under-at count was attributes (w ∷ walked) kept (keeps_nothing was') same follow k a handler there is = absurd (cc)
under-at count was attributes walked kept (keeps_text was' rest so_far attribute text keeps value) same follow k a handler there is =
    let parts = unsnoc bare_attribute walked rest attribute same in
    let less = parts.0 in
    let last = parts.1 in
    let values : bare_value last.value ≡ bare_value attribute.value = ap (λ (z : ItemAttribute). z.value) parts.4 in
    let ids : flat_map id_of walked ≡ flat_map id_of less =
    ap (flat_map id_of) parts.2 ∙ flat-one id_of less last ∙ ap (λ (xs : List ℕ). flat_map id_of less ++ xs) (is-text last.value attribute.value text values value) ∙ append-nil (flat_map id_of less) in
    elim (at-last less last a k (subst (λ (ws : List ItemAttribute). slice_get ws k ≡ Some a) parts.2 there)) [
      | inl first ↦ under-at count was' rest less so_far keeps parts.3 (subst (Follow count so_far) ids follow) k a handler first is
      | inr end ↦ absurd (no-handler last.value attribute.value handler text values (sym (ap (λ (z : ItemAttribute). z.value) end.1) ∙ is) value)
    ]
under-at count was attributes walked kept (keeps_id was' rest so_far attribute old new keeps value stays) same follow k a handler there is =
    one-attribute count was' rest walked so_far (Some old.id) attribute new (long-under was' rest so_far keeps) value (old, refl, stays)
    (λ less alike so_follow i b other at is_other. under-at count was' rest less so_far keeps alike so_follow i b other at is_other) same follow k a handler there is
under-at count was attributes walked kept (keeps_no_id was' rest so_far attribute new keeps value none) same follow k a handler there is =
    one-attribute count was' rest walked so_far None attribute new (long-under was' rest so_far keeps) value none
    (λ less alike so_follow i b other at is_other. under-at count was' rest less so_far keeps alike so_follow i b other at is_other) same follow k a handler there is

-- what is kept of one slot

pub record AtPlace (count : ℕ) (from : List (Option ℕ)) (olds : List Slot) (j : ℕ) (walked : Slot) : Type 0 where
  pub place : Option ℕ
  pub new : Slot
  pub more : List (Option ℕ)
  pub told : slice_get from j ≡ Some place
  pub same : bare_slot walked ≡ bare_slot new
  pub keeps : KeepsSlot place olds new.item more
  pub follow : Follow count more (ids_in walked.item)

slots-count : (walked news : List Slot) → map bare_slot walked ≡ map bare_slot news → length (flat_map slot_ids walked) ≡ length (flat_map slot_values news)
slots-count [] [] same = refl
slots-count [] (new ∷ news) same = absurd (cc)
slots-count (w ∷ walked) [] same = absurd (cc)
slots-count (w ∷ walked) (new ∷ news) same =
    let first : bare_slot w ≡ bare_slot new = cc in
    let rest : map bare_slot walked ≡ map bare_slot news = cc in
    length-append (ids_in w.item) (flat_map slot_ids walked)
    ∙ ap (λ n. n + length (flat_map slot_ids walked)) (same-count w.item new.item (ap (λ (s : Slot). s.item) first))
    ∙ ap (λ n. length (values_in new.item) + n) (slots-count walked news rest)
    ∙ sym (length-append (values_in new.item) (flat_map slot_values news))

keeps-long : (from : List (Option ℕ)) (olds news : List Slot) (kept : List (Option ℕ)) → KeepsSlots from olds news kept → length from ≡ length news
keeps-long from olds news kept (keeps_none olds') = refl
keeps-long from olds news kept (keeps_alone from' olds' rest new so_far keeps) = length-append from' (None ∷ []) ∙ ap (λ n. n + 1) (keeps-long from' olds' rest so_far keeps) ∙ sym (length-append rest (new ∷ []))
keeps-long from olds news kept (keeps_pair from' olds' rest new old place so_far more keeps there inner) =
    length-append from' (Some place ∷ []) ∙ ap (λ n. n + 1) (keeps-long from' olds' rest so_far keeps) ∙ sym (length-append rest (new ∷ []))

one-slot : (count : ℕ) (from : List (Option ℕ)) (olds rest walked : List Slot) (so_far more : List (Option ℕ)) (place : Option ℕ) (new : Slot) → length from ≡ length rest → length so_far ≡ length (flat_map slot_values rest) → KeepsSlot place olds new.item more
    → ((less : List Slot) → map bare_slot less ≡ map bare_slot rest → Follow count so_far (flat_map slot_ids less) → (j : ℕ) (w : Slot) → slice_get less j ≡ Some w → AtPlace count from olds j w)
    → map bare_slot walked ≡ map bare_slot (rest ++ new ∷ []) → Follow count (so_far ++ more) (flat_map slot_ids walked) → (j : ℕ) (w : Slot) → slice_get walked j ≡ Some w → AtPlace count (from ++ place ∷ []) olds j w
one-slot count from olds rest walked so_far more place new long as_many keeps before same follow j w there =
    let parts = unsnoc bare_slot walked rest new same in
    let less = parts.0 in
    let last = parts.1 in
    let ids : flat_map slot_ids walked ≡ flat_map slot_ids less ++ ids_in last.item = ap (flat_map slot_ids) parts.2 ∙ flat-one slot_ids less last in
    let split = follow-split count so_far more (flat_map slot_ids less) (ids_in last.item) (as_many ∙ sym (slots-count less rest parts.3)) (subst (Follow count (so_far ++ more)) ids follow) in
    elim (at-last less last w j (subst (λ (ws : List Slot). slice_get ws j ≡ Some w) parts.2 there)) [
      | inl first ↦
          let found = before less parts.3 split.0 j w first in
          record { place = found.place; new = found.new; more = found.more; told = get-front from (place ∷ []) j found.place found.told; same = found.same; keeps = found.keeps; follow = found.follow }
      | inr end ↦
          record {
            place = place;
            new = new;
            more = more;
            told = get-end from place j (end.0 ∙ as-long bare_slot less rest parts.3 ∙ sym long);
            same = ap bare_slot end.1 ∙ parts.4;
            keeps = keeps;
            follow = subst (λ (s : Slot). Follow count more (ids_in s.item)) (sym end.1) split.1;
          }
    ]

same-some : {X : Type 0} (x y : X) (o : Option X) → o ≡ Some x → o ≡ Some y → x ≡ y
same-some x y o a b = cc

-- what is kept of the slot at a place, and its ids
pub slots-at : (count : ℕ) (from : List (Option ℕ)) (olds news walked : List Slot) (kept : List (Option ℕ)) → KeepsSlots from olds news kept → map bare_slot walked ≡ map bare_slot news → Follow count kept (flat_map slot_ids walked)
    → (j : ℕ) (w : Slot) → slice_get walked j ≡ Some w → AtPlace count from olds j w
slots-at count from olds news [] kept (keeps_none olds') same follow j w there = absurd (cc)
slots-at count from olds news (v ∷ walked) kept (keeps_none olds') same follow j w there = absurd (cc)
slots-at count from olds news walked kept (keeps_alone from' olds' rest new so_far keeps) same follow j w there =
    one-slot count from' olds' rest walked so_far (none_kept new.item) None new (keeps-long from' olds' rest so_far keeps) (long-slots from' olds' rest so_far keeps) refl
    (λ less alike so_follow i one at. slots-at count from' olds' rest less so_far keeps alike so_follow i one at) same follow j w there
slots-at count from olds news walked kept (keeps_pair from' olds' rest new old place so_far more keeps here inner) same follow j w there =
    one-slot count from' olds' rest walked so_far more (Some place) new (keeps-long from' olds' rest so_far keeps) (long-slots from' olds' rest so_far keeps)
    (λ other at. subst (λ (z : Slot). KeepsIn z.item new.item more) (same-some old other (slice_get olds' place) here at) inner)
    (λ less alike so_follow i one at. slots-at count from' olds' rest less so_far keeps alike so_follow i one at) same follow j w there
