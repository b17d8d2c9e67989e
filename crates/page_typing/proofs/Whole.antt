-- Items without components show a page.
use Rattle.std.proofs.Common.{◌≡◌, ℕ, List, [], ◌∷◌, ◌++◌, map, refl, sym, ap, ◌∙◌}
use Rattle.std.specs.Prelude.{Bool, Some, Option}
use Rattle.cs_typing.specs.Types.{Types}
use Rattle.frame_core.specs.declared.item.Item.{Item, Item-F}
use Rattle.frame_core.specs.declared.item.Item.TheFolds.{fold-roll-Item}
use Rattle.frame_core.specs.declared.item.Item.TheVariants as item
use Rattle.page_meaning.specs.Fresh.{Shown, Shows, shown_layer, shown_item, items_shown, all_shown, then_all, in_element, dressed}
use Rattle.page_typing.specs.Drawings.{IsWhole, AreWhole, WholeUnless}
use Rattle.page_typing.specs.Drawings as whole

-- one list behind another
pub whole_append : (types : Types) (xs ys : List Item) → AreWhole types xs → AreWhole types ys → AreWhole types (xs ++ ys)
whole_append types xs ys whole.none g = g
whole_append types xs ys (whole.more one others h hs) g = whole.more one (others ++ ys) h (whole_append types others ys hs g)

pub unless_none : (types : Types) (components : Bool) → WholeUnless types components []
unless_none types components e = whole.none

pub unless_append : (types : Types) (components : Bool) (xs ys : List Item) → WholeUnless types components xs → WholeUnless types components ys → WholeUnless types components (xs ++ ys)
unless_append types components xs ys h g e = whole_append types xs ys (h e) (g e)

pub unless_more : (types : Types) (components : Bool) (x : Item) (xs : List Item) → WholeUnless types components (x ∷ []) → WholeUnless types components xs → WholeUnless types components (x ∷ xs)
unless_more types components x xs h g = unless_append types components (x ∷ []) xs h g

-- what shows something, whatever is shown before it
abbrev ShowsPage : Shows → Type 0
ShowsPage shows = (given : ℕ) → (it : Shown) × (shows given ≡ Some it)

then_shows : (first : Option Shown) (next : Shows) → (it : Shown) × (first ≡ Some it) → ShowsPage next → (it : Shown) × (then_all first next ≡ Some it)
then_shows first next h g = let k = g h.0.given in (_, ap (λ z. then_all z next) h.1 ∙ ap (λ z. then_all (Some h.0) (λ n. z)) k.1)

module _ (types : Types) (born : ℕ) where
  mutual
    pub item_shows : (one : Item) → IsWhole types one → ShowsPage (shown_item born one)
    item_shows one (whole.element number name key attributes children _ h) given =
        let k = layer_shows children h (dressed given attributes).given in
        let e : shown_item born (item.Element number name key attributes children) ≡ shown_layer born (Item-F.Element number name key attributes (map (shown_item born) children)) =
        ap (shown_item born) (sym (item.rolls-Element number name key attributes children)) ∙ fold-roll-Item Shows (shown_layer born) (Item-F.Element number name key attributes children) in
        (_, ap (λ (f : Shows). f given) e ∙ ap (in_element born name (dressed given attributes)) k.1)
    item_shows one (whole.text number said) given =
        (_, ap (λ (f : Shows). f given) (ap (shown_item born) (sym (item.rolls-Text number said)) ∙ fold-roll-Item Shows (shown_layer born) (Item-F.Text number said)))
    item_shows one (whole.markup number said) given =
        (_, ap (λ (f : Shows). f given) (ap (shown_item born) (sym (item.rolls-Markup number said)) ∙ fold-roll-Item Shows (shown_layer born) (Item-F.Markup number said)))
    item_shows one (whole.region number key children h) given =
        let k = layer_shows children h given in
        (k.0, ap (λ (f : Shows). f given) (ap (shown_item born) (sym (item.rolls-Region number key children)) ∙ fold-roll-Item Shows (shown_layer born) (Item-F.Region number key children)) ∙ k.1)

    layer_shows : (items : List Item) → AreWhole types items → ShowsPage (all_shown (map (shown_item born) items))
    layer_shows items whole.none given = (_, refl)
    layer_shows items (whole.more one others h hs) given = then_shows (shown_item born one given) (all_shown (map (shown_item born) others)) (item_shows one h given) (layer_shows others hs)

  pub items_show : (items : List Item) → AreWhole types items → ShowsPage (items_shown born items)
  items_show items whole.none given = (_, refl)
  items_show items (whole.more one others h hs) given = then_shows (shown_item born one given) (items_shown born others) (item_shows one h given) (items_show others hs)
