-- Names that differ, and items that are clear, one after the other.
use Rattle.std.proofs.Common.{◌≡◌, ◌∙◌, refl, ap, sym, subst, ℕ, zero, suc, ◌+◌, ◌<◌, ◌≤◌, ◌⊎◌, inl, inr, ◌↔◌, IsTrue, Bool, true, false, List, [], ◌∷◌, ◌++◌, length, take, drop, get_or, slice_get, Some, arith}
use Rattle.std.specs.List.{list_any}
use Rattle.std.proofs.lemmas.Bool.{false≢true}
use Rattle.std.proofs.lemmas.List.{take_more}
use Rattle.std.proofs.lemmas.Option.{slice_get_within}
use Rattle.std.proofs.lemmas.Slice.Eq.{bytes_eq-Decides}
use Rattle.std.proofs.lemmas.Map.Keys.{any_passes_from_place}
use Rattle.cs_ast.specs.declared.value.Value.{Value}
use Rattle.frame_core.specs.declared.item.Item.{Item}
use Rattle.frame_core.specs.declared.item.Item.TheVariants as item
use Rattle.frame_core.specs.declared.item_attribute.ItemAttribute.{ItemAttribute}
use Rattle.pairing_meaning.specs.Tallies.{same_name}
use Rattle.item_edits.specs.Renderings.{NamesDiffer, Clear, clear_element, clear_region, AllClear, none_unclear, clear_more}
use Rattle.item_edits.proofs.ChangedLemmas.{any-at}
use Rattle.item_edits.proofs.RenderingLemmas.{clear-element, clear-region}
use Rattle.item_edits.proofs.SlotPairLemmas.{get-read}

one-longer : {X : Type 0} (xs : List X) (k : ℕ) (x : X) → k < length xs → x ≡ get_or xs k x → take (k + 1) xs ≡ take k xs ++ x ∷ []
one-longer xs k x within is = take_more xs k x within ∙ ap (λ z. take k xs ++ z ∷ []) (sym is)

-- what stands in a list with one more is the last, or stood there before
pub at-last : {X : Type 0} (xs : List X) (x y : X) (i : ℕ) → slice_get (xs ++ x ∷ []) i ≡ Some y → (slice_get xs i ≡ Some y) ⊎ ((i ≡ length xs) × (y ≡ x))
at-last [] x y zero is = inr (refl, (let same : y ≡ x = cc in same))
at-last [] x y (suc i) is = absurd (cc)
at-last (z ∷ xs) x y zero is = inl is
at-last (z ∷ xs) x y (suc i) is = elim (at-last xs x y i is) [
  | inl before ↦ inl before
  | inr last ↦ inr (ap suc last.0, last.1)
]

at-first : {X : Type 0} (xs : List X) (n i : ℕ) (x : X) → slice_get (take n xs) i ≡ Some x → (i < n) × (slice_get xs i ≡ Some x)
at-first [] zero i x is = absurd (cc)
at-first [] (suc n) i x is = absurd (cc)
at-first (y ∷ xs) zero i x is = absurd (cc)
at-first (y ∷ xs) (suc n) zero x is = (omega arith, is)
at-first (y ∷ xs) (suc n) (suc i) x is = let rest = at-first xs n i x is in (omega (arith, rest.0), rest.1)

abbrev so_named : ItemAttribute → ItemAttribute → Bool
so_named one other = same_name other one

not-named : (attributes : List ItemAttribute) (one other : ItemAttribute) (i : ℕ) → list_any (so_named one) attributes ≡ false → slice_get attributes i ≡ Some other → other.name ≡ one.name → ⊥
not-named attributes one other i none is same =
    false≢true (sym none ∙ any_passes_from_place (so_named one) attributes i other is ((bytes_eq-Decides other.name one.name).1 same))

differ-last : (attributes : List ItemAttribute) (last : ItemAttribute) → list_any (so_named last) attributes ≡ false → NamesDiffer attributes → NamesDiffer (attributes ++ last ∷ [])
differ-last attributes last none differ i j one other e f same = elim (at-last attributes last one i e) [
  | inl first ↦ elim (at-last attributes last other j f) [
    | inl second ↦ differ i j one other first second same
    | inr end ↦ absurd (not-named attributes last one i none first (same ∙ ap (λ (a : ItemAttribute). a.name) end.1))
  ]
  | inr end ↦ elim (at-last attributes last other j f) [
    | inl second ↦ absurd (not-named attributes last other j none second (sym same ∙ ap (λ (a : ItemAttribute). a.name) end.1))
    | inr too ↦ end.0 ∙ sym too.0
  ]
]

-- one more, whose name none before it has
pub differ-more : (attributes : List ItemAttribute) (k : ℕ) (one : ItemAttribute) → k < length attributes → one ≡ get_or attributes k one
    → list_any (λ new. same_name new one) (take k attributes) ≡ false → NamesDiffer (take k attributes) → NamesDiffer (take (k + 1) attributes)
differ-more attributes k one within is none differ = subst NamesDiffer (sym (one-longer attributes k one within is)) (differ-last (take k attributes) one none differ)

-- one whose name one before it has
pub differ-not : (attributes : List ItemAttribute) (k : ℕ) (one : ItemAttribute) → k < length attributes → one ≡ get_or attributes k one
    → list_any (λ new. same_name new one) (take k attributes) ≡ true → NamesDiffer attributes → ⊥
differ-not attributes k one within is some differ =
    let found = any-at (so_named one) (take k attributes) some in
    let before = at-first attributes k found.0 found.1 found.2 in
    let same : found.0 ≡ k = differ found.0 k found.1 one before.1 (get-read attributes k one within is) ((bytes_eq-Decides found.1.name one.name).0 found.3) in
    omega (arith, before.0)

pub first-clear : (it : Item) (items them : List Item) → AllClear them → them ≡ it ∷ items → Clear it × AllClear items
first-clear it items them none_unclear is = absurd (cc)
first-clear it items them (clear_more one rest clear each) is =
    let a : one ≡ it = cc in
    let b : rest ≡ items = cc in
    (subst Clear a clear, subst AllClear b each)

clear-last : (items : List Item) (last : Item) → AllClear items → Clear last → AllClear (items ++ last ∷ [])
clear-last [] last each clear = clear_more last [] clear none_unclear
clear-last (it ∷ items) last each clear =
    let parts = first-clear it items (it ∷ items) each refl in clear_more it (items ++ last ∷ []) parts.0 (clear-last items last parts.1 clear)

-- one more that is clear
pub clear-longer : (items : List Item) (k : ℕ) (it : Item) → k < length items → it ≡ get_or items k it → Clear it → AllClear (take k items) → AllClear (take (k + 1) items)
clear-longer items k it within is clear each = subst AllClear (sym (one-longer items k it within is)) (clear-last (take k items) it each clear)

-- each one is clear
pub clear-at : (items : List Item) (k : ℕ) (it : Item) → k < length items → it ≡ get_or items k it → AllClear items → Clear it
clear-at [] k it within is each = absurd (omega arith)
clear-at (one ∷ items) zero it within is each = subst Clear (sym is) (first-clear one items (one ∷ items) each refl).0
clear-at (one ∷ items) (suc k) it within is each = clear-at items k it (omega arith) is (first-clear one items (one ∷ items) each refl).1

-- an element by its attributes and its children
pub element-clear : (it : Item) (n : ℕ) (name : List ℕ) (key : Value) (attributes was : List ItemAttribute) (children them : List Item) (differ all : Bool) → it ≡ item.Element n name key attributes children → was ≡ attributes → them ≡ children
    → (IsTrue differ ↔ NamesDiffer was) → (IsTrue all ↔ AllClear them) → IsTrue differ → IsTrue all ↔ Clear it
element-clear it n name key attributes was children them differ all is own inner names each differs = (
  λ yes. subst Clear (sym is) (clear_element n name key attributes children (subst NamesDiffer own (names.0 differs)) (subst AllClear inner (each.0 yes))),
  λ clear. each.1 (subst AllClear (sym inner) (clear-element it n name key attributes children clear is).1),
)

-- an element whose names do not differ
pub element-unclear : (it : Item) (n : ℕ) (name : List ℕ) (key : Value) (attributes was : List ItemAttribute) (children : List Item) (differ : Bool) → it ≡ item.Element n name key attributes children → was ≡ attributes
    → (IsTrue differ ↔ NamesDiffer was) → differ ≡ false → Clear it → ⊥
element-unclear it n name key attributes was children differ is own names none clear =
    let yes : IsTrue differ = names.1 (subst NamesDiffer (sym own) (clear-element it n name key attributes children clear is).0) in
    false≢true (sym none ∙ yes)

-- a region by its children
pub region-clear : (it : Item) (n : ℕ) (key : Value) (children them : List Item) (all : Bool) → it ≡ item.Region n key children → them ≡ children → (IsTrue all ↔ AllClear them) → IsTrue all ↔ Clear it
region-clear it n key children them all is inner each = (
  λ yes. subst Clear (sym is) (clear_region n key children (subst AllClear inner (each.0 yes))),
  λ clear. each.1 (subst AllClear (sym inner) (clear-region it n key children clear is)),
)
