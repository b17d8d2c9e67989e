-- The component items that pair, slot by slot.
use Rattle.std.proofs.Common.{◌≡◌, ◌∙◌, refl, ap, sym, subst, ℕ, zero, suc, ◌+◌, ◌-◌, ◌<◌, ◌≤◌, ◌^◌, ◌⊎◌, inl, inr, ◌↔◌, Bool, true, false, cond, List, [], ◌∷◌, ◌++◌, length, map, take, slice_get, Option, Some, None, arith, eqb}
use Rattle.std.proofs.lemmas.Option.{slice_get_within}
use Rattle.std.proofs.lemmas.Bool.{eqb-true, eqb-false}
use Rattle.cs_ast.specs.declared.value.Value.{Value}
use Rattle.frame_core.specs.declared.made.Made.{Made}
use Rattle.frame_core.specs.declared.item.Item.{Item}
use Rattle.frame_core.specs.declared.item.Item.TheViews.{out-Item}
use Rattle.frame_core.specs.declared.item.Item.TheOpen.{Item-F}
use Rattle.frame_core.specs.declared.item.Item.TheVariants as item
use Rattle.frame_core.specs.declared.item.ItemParameter.{ItemParameter}
use Rattle.frame_core.specs.declared.item_attribute.ItemAttribute.{ItemAttribute}
use Rattle.pairing_meaning.specs.Labels.{like}
use Rattle.pairing_meaning.specs.Slots.{Address, Slot, addresses, same_address, slots_of}
use Rattle.pairing_meaning.specs.Pairs.{Pair, Tells}
use Rattle.pairing_meaning.specs.Births.{TellsSlots}
use Rattle.pairing_meaning.specs.Components.{Retained, retained_here, retained_within}
use Rattle.item_pairing.specs.declared.slots.Slot.{Slot as Held}
use Rattle.item_pairing.specs.Standing.{slot_of}
use Rattle.item_pairing.proofs.LabelLemmas.{address_self}
use Rattle.item_edits.proofs.PairLemmas.{out-element, out-text, out-markup, out-component, out-region}
use Rattle.item_components.specs.Listed.{Has, Lists, Within, within_component, within_element, WithinSlot, Before}

more-by : (q x : Address) (xs : List Address) (i j : ℕ) (b : Bool) → same_address x q ≡ b → like same_address q (take i xs) + 1 ≤ like same_address q (take j xs) → like same_address q (take (suc i) (x ∷ xs)) + 1 ≤ like same_address q (take (suc j) (x ∷ xs))
more-by q x xs i j true is rest =
    let one : like same_address q (take (suc i) (x ∷ xs)) ≡ like same_address q (take i xs) + 1 = ap (λ b. cond b (like same_address q (take i xs) + 1) (like same_address q (take i xs))) is in
    let other : like same_address q (take (suc j) (x ∷ xs)) ≡ like same_address q (take j xs) + 1 = ap (λ b. cond b (like same_address q (take j xs) + 1) (like same_address q (take j xs))) is in
    omega arith
more-by q x xs i j false is rest =
    let one : like same_address q (take (suc i) (x ∷ xs)) ≡ like same_address q (take i xs) = ap (λ b. cond b (like same_address q (take i xs) + 1) (like same_address q (take i xs))) is in
    let other : like same_address q (take (suc j) (x ∷ xs)) ≡ like same_address q (take j xs) = ap (λ b. cond b (like same_address q (take j xs) + 1) (like same_address q (take j xs))) is in
    omega arith

-- what is the same stands once more before a later one
like-more : (q : Address) (xs : List Address) (i j : ℕ) → i < j → slice_get xs i ≡ Some q → like same_address q (take i xs) + 1 ≤ like same_address q (take j xs)
like-more q [] i j less there = absurd (cc)
like-more q (x ∷ xs) i zero less there = absurd (omega arith)
like-more q (x ∷ xs) zero (suc j) less there =
    let is : x ≡ q = cc in
    let hit : same_address x q ≡ true = subst (λ z. same_address z q ≡ true) (sym is) (address_self q) in
    let count : like same_address q (take (suc j) (x ∷ xs)) ≡ like same_address q (take j xs) + 1 = ap (λ b. cond b (like same_address q (take j xs) + 1) (like same_address q (take j xs))) hit in
    omega (arith, count)
like-more q (x ∷ xs) (suc i) (suc j) less there = more-by q x xs i j (same_address x q) refl (like-more q xs i j (omega arith) there)

once : (q : Address) (xs : List Address) (i j : ℕ) → slice_get xs i ≡ Some q → slice_get xs j ≡ Some q → like same_address q (take i xs) ≡ like same_address q (take j xs) → i ≡ j
once q xs i j one other same = elim (order i j) [
  | inl same_place ↦ same_place
  | inr apart ↦ elim apart [
    | inl less ↦ (let more = like-more q xs i j less one in absurd (omega arith))
    | inr less ↦ (let more = like-more q xs j i less other in absurd (omega arith))
  ]
]
  where
    order : (i j : ℕ) → (i ≡ j) ⊎ ((i < j) ⊎ (j < i))
    order zero zero = inl refl
    order zero (suc j) = inr (inl (omega arith))
    order (suc i) zero = inr (inr (omega arith))
    order (suc i) (suc j) = elim (order i j) [
      | inl same ↦ inl (ap suc same)
      | inr (inl less) ↦ inr (inl (omega arith))
      | inr (inr less) ↦ inr (inr (omega arith))
    ]

-- each pair is told
pub told-pair : (olds news : List Slot) (from : List (Option ℕ)) (i j : ℕ) → TellsSlots olds news from → Pair same_address (addresses olds) (addresses news) i j → slice_get from j ≡ Some (Some i)
told-pair olds news from i j tells pair = by_answer (slice_get from j) refl
  where
    beyond : {X : Type 0} (xs : List X) (k : ℕ) → slice_get xs k ≡ None → k < length xs → ⊥
    beyond [] k none within = omega arith
    beyond (x ∷ xs) zero none within = cc
    beyond (x ∷ xs) (suc k) none within = beyond xs k none (omega arith)

    by_answer : (answer : Option (Option ℕ)) → slice_get from j ≡ answer → slice_get from j ≡ Some (Some i)
    by_answer None is = absurd (beyond from j is (let long = tells.long in let within = slice_get_within (addresses news) j pair.one pair.new in omega arith))
    by_answer (Some None) is = absurd (tells.alone i j is pair)
    by_answer (Some (Some k)) is =
        let other = tells.paired k j is in
        let one : other.one ≡ pair.one = (let a = other.new in let b = pair.new in cc) in
        let same : k ≡ i = once pair.one (addresses olds) k i (subst (λ (z : Address). slice_get (addresses olds) k ≡ Some z) one other.old) pair.old
        (subst (λ (z : Address). like same_address z (take k (addresses olds)) ≡ like same_address z (take j (addresses news))) one other.before ∙ sym pair.before) in
        is ∙ ap (λ z. Some (Some z)) same

-- lists of pairs

front-at : (pairs more : List (ℕ × ℕ)) (first second k : ℕ) → slice_get pairs k ≡ Some (first, second) → slice_get (pairs ++ more) k ≡ Some (first, second)
front-at [] more first second k is = absurd (cc)
front-at (pair ∷ pairs) more first second zero is = is
front-at (pair ∷ pairs) more first second (suc k) is = front-at pairs more first second k is

has-front : (pairs more : List (ℕ × ℕ)) (first second : ℕ) → Has pairs first second → Has (pairs ++ more) first second
has-front pairs more first second has = (has.0, front-at pairs more first second has.0 has.1)

has-back : (pairs more : List (ℕ × ℕ)) (first second : ℕ) → Has more first second → Has (pairs ++ more) first second
has-back [] more first second has = has
has-back (pair ∷ pairs) more first second has = let rest = has-back pairs more first second has in (suc rest.0, rest.1)

either-at : (pairs more : List (ℕ × ℕ)) (first second k : ℕ) → slice_get (pairs ++ more) k ≡ Some (first, second) → Has pairs first second ⊎ Has more first second
either-at [] more first second k is = inr (k, is)
either-at (pair ∷ pairs) more first second zero is = inl (0, is)
either-at (pair ∷ pairs) more first second (suc k) is = elim (either-at pairs more first second k is) [
  | inl front ↦ inl (suc front.0, front.1)
  | inr back ↦ inr back
]

has-either : (pairs more : List (ℕ × ℕ)) (first second : ℕ) → Has (pairs ++ more) first second → Has pairs first second ⊎ Has more first second
has-either pairs more first second has = either-at pairs more first second has.0 has.1

has-none : (first second : ℕ) → Has [] first second → ⊥
has-none first second has = let e = has.1 in cc

pub lists-none : (Holds : ℕ → ℕ → Type 0) → ((first second : ℕ) → Holds first second → ⊥) → Lists [] Holds
lists-none Holds none first second = (λ has. absurd (has-none first second has), λ holds. absurd (none first second holds))

pub lists-start : (from : List (Option ℕ)) (olds news : List Slot) → Lists [] (Before 0 from olds news)
lists-start from olds news = lists-none (Before 0 from olds news) (λ first second before. let less = before.3 in omega arith)

same-some : {X : Type 0} (x y : X) (o : Option X) → o ≡ Some x → o ≡ Some y → x ≡ y
same-some x y o a b = cc

pub lists-more : (k : ℕ) (place : Option ℕ) (from : List (Option ℕ)) (olds news : List Slot) (new : Slot) (pairs more : List (ℕ × ℕ)) → slice_get from k ≡ Some place → slice_get news k ≡ Some new
    → Lists more (WithinSlot place olds new.item) → Lists pairs (Before k from olds news) → Lists (pairs ++ more) (Before (k + 1) from olds news)
lists-more k place from olds news new pairs more is there lists so_far first second = (to, back)
  where
    to : Has (pairs ++ more) first second → Before (k + 1) from olds news first second
    to has = elim (has-either pairs more first second has) [
      | inl front ↦ (let b = (so_far first second).0 front in (b.0, b.1, b.2, (let less = b.3 in omega arith), b.4, b.5, b.6))
      | inr last ↦ (k, place, new, omega arith, is, there, (lists first second).0 last)
    ]

    back : Before (k + 1) from olds news first second → Has (pairs ++ more) first second
    back b = by_place (eqb b.0 k) refl
      where
        by_place : (test : Bool) → eqb b.0 k ≡ test → Has (pairs ++ more) first second
        by_place true same =
            let at : b.0 ≡ k = eqb-true b.0 k same in
            let one : b.1 ≡ place = same-some b.1 place (slice_get from k) (subst (λ z. slice_get from z ≡ Some b.1) at b.4) is in
            let other : b.2 ≡ new = same-some b.2 new (slice_get news k) (subst (λ z. slice_get news z ≡ Some b.2) at b.5) there in
            has-back pairs more first second ((lists first second).1 (subst (λ (z : Slot). WithinSlot place olds z.item first second) other (subst (λ (z : Option ℕ). WithinSlot z olds b.2.item first second) one b.6)))
        by_place false apart =
            let off : b.0 ≡ k → ⊥ = λ z. eqb-false b.0 k apart z in
            has-front pairs more first second ((so_far first second).1 (b.0, b.1, b.2, (let less = b.3 in omega arith), b.4, b.5, b.6))

-- what pairs within two items

abbrev one_of : ℕ → ℕ → List (ℕ × ℕ)
one_of first second = (first, second) ∷ []

abbrev first_in : Option (ℕ × ℕ) → ℕ
first_in None = 0
first_in (Some pair) = pair.0

abbrev second_in : Option (ℕ × ℕ) → ℕ
second_in None = 0
second_in (Some pair) = pair.1

single-at : (first second one two k : ℕ) → slice_get (one_of first second) k ≡ Some (one, two) → (first ≡ one) × (second ≡ two)
single-at first second one two zero is = (ap first_in is, ap second_in is)
single-at first second one two (suc k) is = absurd (cc)

single : (first second one two : ℕ) → Has (one_of first second) one two → (first ≡ one) × (second ≡ two)
single first second one two has = single-at first second one two has.0 has.1

pub within-components : (it other_it : Item) (m n first second : ℕ) (what other : Made) (key later : Value) (given supplied : List ItemParameter) (pairs : List (ℕ × ℕ)) → it ≡ item.Component m first what key given → other_it ≡ item.Component n second other later supplied
    → pairs ≡ (first, second) ∷ [] → Lists pairs (Within it other_it)
within-components it other_it m n first second what other key later given supplied pairs is is' all one two = (to, back it other_it is is')
  where
    to : Has pairs one two → Within it other_it one two
    to has =
        let same = single first second one two (subst (λ (ps : List (ℕ × ℕ)). Has ps one two) all has) in
        subst (λ (z : Item). Within z other_it one two) (sym is) (subst (λ (z : Item). Within (item.Component m first what key given) z one two) (sym is')
        (subst (λ z. Within (item.Component m first what key given) (item.Component n second other later supplied) z two) same.0
        (subst (λ z. Within (item.Component m first what key given) (item.Component n second other later supplied) first z) same.1 (within_component m n first second what other key later given supplied))))

    back : (a b : Item) → a ≡ item.Component m first what key given → b ≡ item.Component n second other later supplied → Within a b one two → Has pairs one two
    back a b e f (within_component x y c d what' other' key' later' given' supplied') =
        let g : Item-F.Component x c what' key' given' ≡ Item-F.Component m first what key given = sym (out-component x c what' key' given') ∙ ap out-Item e ∙ out-component m first what key given in
        let h : Item-F.Component y d other' later' supplied' ≡ Item-F.Component n second other later supplied = sym (out-component y d other' later' supplied') ∙ ap out-Item f ∙ out-component n second other later supplied in
        let p : c ≡ first = cc in
        let q : d ≡ second = cc in
        subst (λ (ps : List (ℕ × ℕ)). Has ps c d) (sym all) (0, ap Some (ap (λ z. (z, second)) (sym p) ∙ ap (λ z. (c, z)) (sym q)))
    back a b e f (within_element x y c d name name' key' later' was attributes before after retained) =
        let g : Item-F.Element x name key' was before ≡ Item-F.Component m first what key given = sym (out-element x name key' was before) ∙ ap out-Item e ∙ out-component m first what key given in absurd (cc)

pub within-elements : (it other_it : Item) (m n : ℕ) (name other : List ℕ) (key later : Value) (was attributes : List ItemAttribute) (before after : List Item) (pairs : List (ℕ × ℕ)) → it ≡ item.Element m name key was before → other_it ≡ item.Element n other later attributes after
    → Lists pairs (Retained (slots_of before) (slots_of after)) → Lists pairs (Within it other_it)
within-elements it other_it m n name other key later was attributes before after pairs is is' lists first second = (to, back it other_it is is')
  where
    to : Has pairs first second → Within it other_it first second
    to has =
        subst (λ (z : Item). Within z other_it first second) (sym is) (subst (λ (z : Item). Within (item.Element m name key was before) z first second) (sym is')
        (within_element m n first second name other key later was attributes before after ((lists first second).0 has)))

    back : (one two : Item) → one ≡ item.Element m name key was before → two ≡ item.Element n other later attributes after → Within one two first second → Has pairs first second
    back one two e f (within_component a b c d what' other' key' later' given' supplied') =
        let g : Item-F.Component a c what' key' given' ≡ Item-F.Element m name key was before = sym (out-component a c what' key' given') ∙ ap out-Item e ∙ out-element m name key was before in absurd (cc)
    back one two e f (within_element a b c d name' other' key' later' was' attributes' before' after' retained) =
        let g : Item-F.Element a name' key' was' before' ≡ Item-F.Element m name key was before = sym (out-element a name' key' was' before') ∙ ap out-Item e ∙ out-element m name key was before in
        let h : Item-F.Element b other' later' attributes' after' ≡ Item-F.Element n other later attributes after = sym (out-element b other' later' attributes' after') ∙ ap out-Item f ∙ out-element n other later attributes after in
        let x : before' ≡ before = cc in
        let y : after' ≡ after = cc in
        (lists first second).1 (subst (λ (z : List Item). Retained (slots_of z) (slots_of after) first second) x (subst (λ (z : List Item). Retained (slots_of before') (slots_of z) first second) y retained))

-- neither an element nor a component
abbrev Other : Item-F Item → Type 0
Other (Item-F.Element number name key attributes children) = ⊥
Other (Item-F.Component number order made key parameters) = ⊥
Other _ = Unit {0}

none-within : (it other_it : Item) (first second : ℕ) → Other (out-Item it) → Within it other_it first second → ⊥
none-within it other_it first second other (within_component m n a b what made key later given supplied) = subst (λ (z : Item-F Item). Other z) (out-component m first what key given) other
none-within it other_it first second other (within_element m n a b name made key later was attributes before after retained) = subst (λ (z : Item-F Item). Other z) (out-element m name key was before) other

within-none : (it other_it : Item) (pairs : List (ℕ × ℕ)) → Other (out-Item it) → pairs ≡ [] → Lists pairs (Within it other_it)
within-none it other_it pairs other all = subst (λ (ps : List (ℕ × ℕ)). Lists ps (Within it other_it)) (sym all) (lists-none (Within it other_it) (λ first second within. none-within it other_it first second other within))

pub within-text : (it other_it : Item) (number : ℕ) (text : List ℕ) (pairs : List (ℕ × ℕ)) → it ≡ item.Text number text → pairs ≡ [] → Lists pairs (Within it other_it)
within-text it other_it number text pairs is all = within-none it other_it pairs (subst (λ (z : Item-F Item). Other z) (sym (ap out-Item is ∙ out-text number text)) tt) all

pub within-markup : (it other_it : Item) (number : ℕ) (text : List ℕ) (pairs : List (ℕ × ℕ)) → it ≡ item.Markup number text → pairs ≡ [] → Lists pairs (Within it other_it)
within-markup it other_it number text pairs is all = within-none it other_it pairs (subst (λ (z : Item-F Item). Other z) (sym (ap out-Item is ∙ out-markup number text)) tt) all

pub within-region : (it other_it : Item) (number : ℕ) (key : Value) (children : List Item) (pairs : List (ℕ × ℕ)) → it ≡ item.Region number key children → pairs ≡ [] → Lists pairs (Within it other_it)
within-region it other_it number key children pairs is all = within-none it other_it pairs (subst (λ (z : Item-F Item). Other z) (sym (ap out-Item is ∙ out-region number key children)) tt) all

-- a slot

pub slot-some : (i : ℕ) (place : Option ℕ) (olds : List Slot) (new : Item) (pairs : List (ℕ × ℕ)) (old : Slot) → place ≡ Some i → slice_get olds i ≡ Some old → Lists pairs (Within old.item new) → Lists pairs (WithinSlot place olds new)
slot-some i place olds new pairs old is there lists first second = (λ has. (i, old, is, there, (lists first second).0 has), back)
  where
    back : WithinSlot place olds new first second → Has pairs first second
    back w =
        let same : w.0 ≡ i = (let one = w.2 in cc) in
        let at : w.1 ≡ old = same-some w.1 old (slice_get olds i) (subst (λ z. slice_get olds z ≡ Some w.1) same w.3) there in
        (lists first second).1 (subst (λ (z : Slot). Within z.item new first second) at w.4)

none-map : {X Y : Type 0} (f : X → Y) (xs : List X) (k : ℕ) → slice_get xs k ≡ None → slice_get (map f xs) k ≡ None
none-map f [] k is = refl
none-map f (x ∷ xs) zero is = absurd (cc)
none-map f (x ∷ xs) (suc k) is = none-map f xs k is

pub slot-gone : (i : ℕ) (place : Option ℕ) (olds : List Held) (new : Item) (pairs : List (ℕ × ℕ)) → place ≡ Some i → slice_get olds i ≡ None → pairs ≡ [] → Lists pairs (WithinSlot place (map slot_of olds) new)
slot-gone i place olds new pairs is gone all =
    subst (λ (ps : List (ℕ × ℕ)). Lists ps (WithinSlot place (map slot_of olds) new)) (sym all)
    (lists-none (WithinSlot place (map slot_of olds) new) (λ first second w.
    let same : w.0 ≡ i = (let one = w.2 in cc) in
    let none : slice_get (map slot_of olds) i ≡ None = none-map slot_of olds i gone in
    let some : slice_get (map slot_of olds) i ≡ Some w.1 = subst (λ z. slice_get (map slot_of olds) z ≡ Some w.1) same w.3 in
    cc))

pub slot-none : (place : Option ℕ) (olds : List Slot) (new : Item) (pairs : List (ℕ × ℕ)) → place ≡ None → pairs ≡ [] → Lists pairs (WithinSlot place olds new)
slot-none place olds new pairs is all =
    subst (λ (ps : List (ℕ × ℕ)). Lists ps (WithinSlot place olds new)) (sym all)
    (lists-none (WithinSlot place olds new) (λ first second w. let some = w.2 in cc))

-- all slots together

pub lists-end : (k : ℕ) (from : List (Option ℕ)) (olds news : List Slot) (pairs : List (ℕ × ℕ)) → TellsSlots olds news from → k ≡ length from → Lists pairs (Before k from olds news) → Lists pairs (Retained olds news)
lists-end k from olds news pairs tells all lists first second = (λ has. to ((lists first second).0 has), λ retained. (lists first second).1 (back olds news first second retained tells all))
  where
    hold : (it other_it : Item) (i j : ℕ) (old new : Slot) (one two : ℕ) → Pair same_address (addresses olds) (addresses news) i j → slice_get olds i ≡ Some old → slice_get news j ≡ Some new
        → old.item ≡ it → new.item ≡ other_it → Within it other_it one two → Retained olds news one two
    hold it other_it i j old new one two pair e f is is' (within_component m n a b what made key later given supplied) =
        retained_here olds news i j m n one two old new what made key later given supplied pair e f is is'
    hold it other_it i j old new one two pair e f is is' (within_element m n a b name made key later was attributes before after retained) =
        retained_within olds news i j m n one two old new name made key later was attributes before after pair e f is is' retained

    to : Before k from olds news first second → Retained olds news first second
    to b =
        let w = b.6 in
        let pair : Pair same_address (addresses olds) (addresses news) w.0 b.0 = tells.paired w.0 b.0 (b.4 ∙ ap Some w.2) in
        hold w.1.item b.2.item w.0 b.0 w.1 b.2 first second pair w.3 b.5 refl refl w.4

    back : (olds news : List Slot) (first second : ℕ) → Retained olds news first second → TellsSlots olds news from → k ≡ length from → Before k from olds news first second
    back olds news first second (retained_here olds' news' i j m n one two old new what made key later given supplied pair e f is is') tells all =
        let at = told-pair olds news from i j tells pair in (
          j,
          Some i,
          new,
          (let within = slice_get_within from j (Some i) at in omega arith),
          at,
          f,
          (i, old, refl, e, subst (λ (z : Item). Within z new.item first second) (sym is) (subst (λ (z : Item). Within (item.Component m first what key given) z first second) (sym is') (within_component m n first second what made key later given supplied))),
        )
    back olds news first second (retained_within olds' news' i j m n one two old new name made key later was attributes before after pair e f is is' retained) tells all =
        let at = told-pair olds news from i j tells pair in (
          j,
          Some i,
          new,
          (let within = slice_get_within from j (Some i) at in omega arith),
          at,
          f,
          (i, old, refl, e, subst (λ (z : Item). Within z new.item first second) (sym is) (subst (λ (z : Item). Within (item.Element m name key was before) z first second) (sym is') (within_element m n first second name made key later was attributes before after retained))),
        )
