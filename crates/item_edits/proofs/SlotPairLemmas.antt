-- The edits of one new slot more.
use Rattle.std.proofs.Common.{◌≡◌, ◌∙◌, refl, ap, sym, subst, ℕ, zero, suc, ◌+◌, ◌<◌, ◌≤◌, List, [], ◌∷◌, ◌++◌, length, map, get_or, slice_get, Option, Some, None, Result, Ok, Err, IfOk, arith, append-nil}
use Rattle.frame_core.specs.declared.item.Item.{Item}
use Rattle.frame_core.specs.declared.wire_node.WireNode.{WireNode}
use Rattle.frame_core.specs.declared.edit.Edit.{Edit}
use Rattle.edit_meaning.specs.Counted.{counts_in}
use Rattle.pairing_meaning.specs.Labels.{Label, label_of}
use Rattle.pairing_meaning.specs.Slots.{Address, Slot, addresses, same_address}
use Rattle.pairing_meaning.specs.Pairs.{Pair}
use Rattle.pairing_meaning.specs.Births.{TellsSlots}
use Rattle.pairing_meaning.specs.Tallies.{Changed}
use Rattle.item_pairing.specs.declared.slots.Slot.{Slot as Held}
use Rattle.item_pairing.specs.Standing.{slot_of}
use Rattle.item_edits.specs.Steps.{Changes, Reached, Summed, IsLike, Inner}
use Rattle.item_edits.proofs.ReachLemmas.{reached-none, reached-some}
use Rattle.item_edits.proofs.CountLemmas.{summed-none, summed-some}

pub get-read : {X : Type 0} (xs : List X) (k : ℕ) (x : X) → k < length xs → x ≡ get_or xs k x → slice_get xs k ≡ Some x
get-read [] k x within is = absurd (omega arith)
get-read (y ∷ xs) zero x within is = ap Some (sym is)
get-read (y ∷ xs) (suc k) x within is = get-read xs k x (omega arith) is

pub get-beyond : {X : Type 0} (xs : List X) (k : ℕ) → length xs ≤ k → slice_get xs k ≡ None
get-beyond [] k beyond = refl
get-beyond (x ∷ xs) zero beyond = absurd (omega arith)
get-beyond (x ∷ xs) (suc k) beyond = get-beyond xs k (omega arith)

pub get-map : {X Y : Type 0} (f : X → Y) (xs : List X) (k : ℕ) (x : X) → slice_get xs k ≡ Some x → slice_get (map f xs) k ≡ Some (f x)
get-map f [] k x is = absurd (cc)
get-map f (y ∷ xs) zero x is = let same : y ≡ x = cc in ap (λ z. Some (f z)) same
get-map f (y ∷ xs) (suc k) x is = get-map f xs k x is

-- the slot that has an address
pub slot-there : (slots : List Slot) (place : ℕ) (address : Address) → slice_get (addresses slots) place ≡ Some address → (slot : Slot) × (slice_get slots place ≡ Some slot) × (slot.address ≡ address)
slot-there [] place address is = absurd (cc)
slot-there (slot ∷ slots) zero address is = (slot, refl, (let same : slot.address ≡ address = cc in same))
slot-there (slot ∷ slots) (suc place) address is = slot-there slots place address is

own-label : (slots : List Held) (place : ℕ) (slot : Slot) → slice_get (map slot_of slots) place ≡ Some slot → slot.address.label ≡ label_of slot.item
own-label [] place slot is = absurd (cc)
own-label (held ∷ slots) zero slot is = let same : slot_of held ≡ slot = cc in subst (λ (z : Slot). z.address.label ≡ label_of z.item) same refl
own-label (held ∷ slots) (suc place) slot is = own-label slots place slot is

same-some : {X : Type 0} (x y : X) (o : Option X) → o ≡ Some x → o ≡ Some y → x ≡ y
same-some x y o a b = cc

-- a pair is of one label
pub like-pair : (olds news : List Held) (from : List (Option ℕ)) (k : ℕ) (place : Option ℕ) (new : Slot) → TellsSlots (map slot_of olds) (map slot_of news) from
    → slice_get from k ≡ Some place → slice_get (map slot_of news) k ≡ Some new → IsLike place (map slot_of olds) (label_of new.item)
like-pair olds news from k place new tells is there i old some here =
    let pair : Pair same_address (addresses (map slot_of olds)) (addresses (map slot_of news)) i k = tells.paired i k (is ∙ ap Some some) in
    let one = slot-there (map slot_of olds) i pair.one pair.old in
    let other = slot-there (map slot_of news) k pair.one pair.new in
    let first : one.0 ≡ old = same-some one.0 old (slice_get (map slot_of olds) i) one.1 here in
    let second : other.0 ≡ new = same-some other.0 new (slice_get (map slot_of news) k) other.1 there in
    sym (own-label olds i old here)
    ∙ ap (λ (z : Slot). z.address.label) (sym first)
    ∙ ap (λ (a : Address). a.label) (one.2 ∙ sym other.2)
    ∙ ap (λ (z : Slot). z.address.label) second
    ∙ own-label news k new there

pub old-there : (olds news : List Slot) (from : List (Option ℕ)) (k i : ℕ) → TellsSlots olds news from → slice_get from k ≡ Some (Some i) → (old : Slot) × (slice_get olds i ≡ Some old)
old-there olds news from k i tells is =
    let pair : Pair same_address (addresses olds) (addresses news) i k = tells.paired i k is in
    let one = slot-there olds i pair.one pair.old in
    (one.0, one.1)

pub reached-more : (k : ℕ) (place : Option ℕ) (from : List (Option ℕ)) (olds news : List Slot) (wires : List WireNode) (edits more : List Edit) (new : Slot) (wire : WireNode) → TellsSlots olds news from → length wires ≡ length from
    → slice_get from k ≡ Some place → slice_get news k ≡ Some new → slice_get wires k ≡ Some wire → Inner k place olds new.item more
    → Reached k from olds news wires edits → Reached (k + 1) from olds news wires (edits ++ more)
reached-more k None from olds news wires edits more new wire tells long is there said inner reached =
    subst (λ (es : List Edit). Reached (k + 1) from olds news wires es) (sym (ap (λ (es : List Edit). edits ++ es) inner ∙ append-nil edits))
    (reached-none k from olds news wires edits new wire is there said reached)
reached-more k (Some i) from olds news wires edits more new wire tells long is there said inner reached =
    let old = old-there olds news from k i tells is in
    reached-some k i from olds news wires edits more old.0 new wire long is old.1 there said (inner old.0 old.1).0 reached

pub summed-more : (k : ℕ) (place : Option ℕ) (from to : List (Option ℕ)) (olds news : List Slot) (edits more : List Edit) (new : Slot) → TellsSlots olds news from
    → slice_get from k ≡ Some place → slice_get news k ≡ Some new → Inner k place olds new.item more
    → Summed k from to olds news edits → Summed (k + 1) from to olds news (edits ++ more)
summed-more k None from to olds news edits more new tells is there inner summed =
    subst (λ (es : List Edit). Summed (k + 1) from to olds news es) (sym (ap (λ (es : List Edit). edits ++ es) inner ∙ append-nil edits))
    (summed-none k from to olds news edits new is there summed)
summed-more k (Some i) from to olds news edits more new tells is there inner summed =
    let old = old-there olds news from k i tells is in
    summed-some k i from to olds news edits more old.0 new is old.1 there (inner old.0 old.1).1 summed

-- a place whose slot is changed so
pub inner-some : (sibling i : ℕ) (place : Option ℕ) (olds : List Slot) (new : Item) (edits : List Edit) (old : Slot) → place ≡ Some i → slice_get olds i ≡ Some old → Changes sibling old.item new edits → Changed old.item new (counts_in edits) → Inner sibling place olds new edits
inner-some sibling i place olds new edits old is there changes counts =
    subst (λ (p : Option ℕ). Inner sibling p olds new edits) (sym is)
    (λ other at. let same : old ≡ other = same-some old other (slice_get olds i) there at in
    (subst (λ (z : Slot). Changes sibling z.item new edits) same changes, subst (λ (z : Slot). Changed z.item new (counts_in edits)) same counts))

none-map : {X Y : Type 0} (f : X → Y) (xs : List X) (k : ℕ) → slice_get xs k ≡ None → slice_get (map f xs) k ≡ None
none-map f [] k is = refl
none-map f (x ∷ xs) zero is = absurd (cc)
none-map f (x ∷ xs) (suc k) is = none-map f xs k is

-- a place where there is no slot
pub inner-gone : (sibling i : ℕ) (place : Option ℕ) (olds : List Held) (new : Item) (edits : List Edit) → place ≡ Some i → slice_get olds i ≡ None → Inner sibling place (map slot_of olds) new edits
inner-gone sibling i place olds new edits is gone =
    subst (λ (p : Option ℕ). Inner sibling p (map slot_of olds) new edits) (sym is)
    (λ other at. let none : slice_get (map slot_of olds) i ≡ None = none-map slot_of olds i gone in absurd (cc))

pub both-ok : {E : Type 0} (r : Result (List Edit) E) (P Q R : List Edit → Type 0) → ((edits : List Edit) → P edits → Q edits → R edits) → IfOk r P → IfOk r Q → IfOk r R
both-ok (Ok edits) P Q R both p q = both edits p q
both-ok (Err e) P Q R both p q = tt
