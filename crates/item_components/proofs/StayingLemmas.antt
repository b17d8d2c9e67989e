-- The component items that pair, from the first slot to the last.
use Rattle.std.proofs.Common.{◌≡◌, ◌∙◌, refl, ap, sym, subst, ℕ, ◌+◌, ◌<◌, ◌^◌, List, [], ◌∷◌, ◌++◌, length, map, get_or, slice_get, Option, Some, None, arith}
use Rattle.cs_ast.specs.declared.value.Value.{Value}
use Rattle.frame_core.specs.declared.item.Item.{Item}
use Rattle.frame_core.specs.declared.item.Item.TheVariants as item
use Rattle.frame_core.specs.declared.item_attribute.ItemAttribute.{ItemAttribute}
use Rattle.pairing_meaning.specs.Slots.{Slot, slots_of}
use Rattle.pairing_meaning.specs.Births.{TellsSlots}
use Rattle.pairing_meaning.specs.Components.{Retained}
use Rattle.item_pairing.specs.declared.slots.Slot.{Slot as Held}
use Rattle.item_pairing.specs.Standing.{slot_of}
use Rattle.item_edits.specs.Renderings.{size_of, sizes}
use Rattle.item_edits.proofs.RenderingLemmas.{size-element, slot-size}
use Rattle.item_edits.proofs.TurnsLemmas.{as_long, told, there-new}
use Rattle.item_components.specs.Listed.{Lists, WithinSlot, AllSmall, Before}
use Rattle.item_components.proofs.ListedLemmas.{lists-more, lists-end}

-- an element has fewer children than itself has items
pub few-children : (it : Item) (n : ℕ) (name : List ℕ) (key : Value) (attributes : List ItemAttribute) (children : List Item) → it ≡ item.Element n name key attributes children → size_of it ≡ 1 + sizes children
few-children it n name key attributes children is = ap size_of is ∙ size-element n name key attributes children

module _ (olds news : List Item) (olds_held news_held : List Held) (from : List (Option ℕ)) (is_old : map slot_of olds_held ≡ slots_of olds) (is_new : map slot_of news_held ≡ slots_of news)
    (tells : TellsSlots (map slot_of olds_held) (map slot_of news_held) from) where
  pub small-olds : sizes olds < 2 ^ 31 → AllSmall (map slot_of olds_held)
  small-olds few place slot is =
      let less = slot-size olds place slot (subst (λ (s : List Slot). slice_get s place ≡ Some slot) is_old is) in
      omega arith

  pub goes_on : (k : ℕ) (place : Option ℕ) (new : Held) (pairs more after : List (ℕ × ℕ)) → k < length news_held → new ≡ get_or news_held k new → slice_get from k ≡ Some place → Lists more (WithinSlot place (map slot_of olds_held) new.item.now)
      → after ≡ pairs ++ more → Lists pairs (Before k from (slots_of olds) (slots_of news)) → Lists after (Before (k + 1) from (slots_of olds) (slots_of news))
  goes_on k place new pairs more after within is at made all lists =
      let there : slice_get (slots_of news) k ≡ Some (slot_of new) = subst (λ (s : List Slot). slice_get s k ≡ Some (slot_of new)) is_new (there-new olds news olds_held news_held from is_old is_new tells k new within is) in
      let inside : Lists more (WithinSlot place (slots_of olds) new.item.now) = subst (λ (s : List Slot). Lists more (WithinSlot place s new.item.now)) is_old made in
      subst (λ (ps : List (ℕ × ℕ)). Lists ps (Before (k + 1) from (slots_of olds) (slots_of news))) (sym all) (lists-more k place from (slots_of olds) (slots_of news) (slot_of new) pairs more at there inside lists)

  pub all-listed : (k : ℕ) (pairs : List (ℕ × ℕ)) → k ≡ length news_held → Lists pairs (Before k from (slots_of olds) (slots_of news)) → Lists pairs (Retained (slots_of olds) (slots_of news))
  all-listed k pairs all lists =
      lists-end k from (slots_of olds) (slots_of news) pairs (told olds news olds_held news_held from is_old is_new tells) (all ∙ sym (as_long olds news olds_held news_held from is_old is_new tells)) lists
