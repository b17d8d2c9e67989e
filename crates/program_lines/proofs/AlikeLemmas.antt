-- Items have lines exactly where they show a page: where no component is in them.
use Rattle.std.proofs.Common.{◌≡◌, refl, sym, ap, subst, ℕ, List, [], ◌∷◌, map}
use Rattle.std.specs.Prelude.{Option, Some, None, ⊤}
use Rattle.page_core.specs.declared.node.Node.{Node}
use Rattle.frame_core.specs.declared.item.Item.{Item}
use Rattle.frame_core.specs.declared.item.Item.TheOpen.{Item-F, Element, Text, Markup, Component, Region}
use Rattle.frame_core.specs.declared.item.Item.TheViews.{roll-Item}
use Rattle.frame_core.specs.declared.item.Item.TheFolds.{map-Item, fold-roll-Item, ind-Item}
use Rattle.frame_core.specs.declared.item_attribute.ItemAttribute.{ItemAttribute}
use Rattle.frame_text.specs.Frames as lines
use Rattle.frame_text.specs.Frames.{Listed, Lists, all_listed, attributes_listed, headed, item_listed, items_listed, listed_layer}
use Rattle.frame_text.specs.Lines.{attribute_line, element_line, region_line}
use Rattle.page_meaning.specs.Fresh as page
use Rattle.page_meaning.specs.Fresh.{Dressed, Shown, Shows, all_shown, and_also, dressed, in_element, items_shown, shown_item, shown_layer}

-- both are there, or neither is
abbrev pub Alike : Option Listed → Option Shown → Type 0
Alike None None = ⊤
Alike (Some one) (Some other) = ⊤
Alike one other = ⊥

abbrev pub AlikeFrom : Lists → Shows → Type 0
AlikeFrom one other = (given count : ℕ) → Alike (one given) (other count)

behind-alike : (here : List (List ℕ)) (nodes : List Node) (one : Option Listed) (other : Option Shown) → Alike one other → Alike (lines.behind here one) (and_also nodes other)
behind-alike here nodes None None same = tt
behind-alike here nodes (Some one) (Some other) same = tt
behind-alike here nodes None (Some other) same = same
behind-alike here nodes (Some one) None same = same

then-alike : (one : Option Listed) (other : Option Shown) (next : Lists) (further : Shows) → Alike one other → AlikeFrom next further → Alike (lines.then_all one next) (page.then_all other further)
then-alike None None next further same more = tt
then-alike (Some one) (Some other) next further same more = behind-alike one.lines other.nodes (next one.given) (further other.given) (more one.given other.given)
then-alike None (Some other) next further same more = absurd same
then-alike (Some one) None next further same more = absurd same

attributes-there : (worn : List ItemAttribute) (given : ℕ) → (it : Listed) × (attributes_listed worn given ≡ Some it)
attributes-there [] given = (lines.listed [] given, refl)
attributes-there (one ∷ others) given =
    let more = attributes-there others (lines.given_behind one.value given) in
    (lines.listed (attribute_line one given ∷ more.0.lines) more.0.given, ap (λ (x : Option Listed). lines.behind (attribute_line one given ∷ []) x) more.1)

behind-one : (here : List (List ℕ)) (one : Option Listed) (other : Option Shown) → Alike one other → Alike (lines.behind here one) other
behind-one here None None same = tt
behind-one here (Some one) (Some other) same = tt
behind-one here None (Some other) same = same
behind-one here (Some one) None same = same

-- attributes always have lines, so those of content behind them are there where the content's are
behind-attributes : (worn : List ItemAttribute) (given : ℕ) (next : Lists) (other : Option Shown) → ((from : ℕ) → Alike (next from) other) → Alike (lines.then_all (attributes_listed worn given) next) other
behind-attributes worn given next other same =
    let it = attributes-there worn given in
    subst (λ (x : Option Listed). Alike (lines.then_all x next) other) (sym it.1) (behind-one it.0.lines (next it.0.given) other (same it.0.given))

headed-alike : (head : ℕ → List ℕ) (one : Option Listed) (other : Option Shown) → Alike one other → Alike (headed head one) other
headed-alike head None None same = tt
headed-alike head (Some one) (Some other) same = tt
headed-alike head None (Some other) same = same
headed-alike head (Some one) None same = same

element-alike : (born : ℕ) (name : List ℕ) (it : Dressed) (one : Option Listed) (other : Option Shown) → Alike one other → Alike one (in_element born name it other)
element-alike born name it None None same = tt
element-alike born name it (Some one) (Some other) same = tt
element-alike born name it None (Some other) same = same
element-alike born name it (Some one) None same = same

module _ (born : ℕ) where
  abbrev AlikeItem : Item → Type 0
  AlikeItem it = AlikeFrom (item_listed it) (shown_item born it)

  abbrev Such : Type 0
  Such = (it : Item) × AlikeItem it

  abbrev plain : List Such → List Item
  plain items = map (λ it. it.0) items

  all-alike : (items : List Such) → AlikeFrom (all_listed (map item_listed (plain items))) (all_shown (map (shown_item born) (plain items)))
  all-alike [] given count = tt
  all-alike (it ∷ items) given count =
      then-alike (item_listed it.0 given) (shown_item born it.0 count) (all_listed (map item_listed (plain items))) (all_shown (map (shown_item born) (plain items))) (it.1 given count) (all-alike items)

  layer-alike : (y : Item-F Such) (given count : ℕ)
      → Alike (listed_layer (map-Item Item Lists item_listed (map-Item Such Item (λ it. it.0) y)) given) (shown_layer born (map-Item Item Shows (shown_item born) (map-Item Such Item (λ it. it.0) y)) count)
  layer-alike (Element number name key worn children) given count =
      headed-alike (element_line number name) (lines.then_all (attributes_listed worn given) (all_listed (map item_listed (plain children))))
      (in_element born name (dressed count worn) (all_shown (map (shown_item born) (plain children)) (dressed count worn).given))
      (element-alike born name (dressed count worn) (lines.then_all (attributes_listed worn given) (all_listed (map item_listed (plain children))))
      (all_shown (map (shown_item born) (plain children)) (dressed count worn).given)
      (behind-attributes worn given (all_listed (map item_listed (plain children))) (all_shown (map (shown_item born) (plain children)) (dressed count worn).given)
      (λ from. all-alike children from (dressed count worn).given)))
  layer-alike (Text number text) given count = tt
  layer-alike (Markup number text) given count = tt
  layer-alike (Component number order made key parameters) given count = tt
  layer-alike (Region number key children) given count =
      headed-alike (region_line number) (all_listed (map item_listed (plain children)) given) (all_shown (map (shown_item born) (plain children)) count) (all-alike children given count)

  step : (x : Item-F Item) (y : Item-F Such) → map-Item Such Item (λ it. it.0) y ≡ x → AlikeItem (roll-Item x)
  step x y e =
      subst (λ (z : Item-F Item). AlikeItem (roll-Item z)) e
      (λ given count.
      subst (λ (f : Lists). Alike (f given) (shown_item born (roll-Item (map-Item Such Item (λ it. it.0) y)) count)) (sym (fold-roll-Item Lists listed_layer (map-Item Such Item (λ it. it.0) y)))
      (subst (λ (f : Shows). Alike (listed_layer (map-Item Item Lists item_listed (map-Item Such Item (λ it. it.0) y)) given) (f count)) (sym (fold-roll-Item Shows (shown_layer born) (map-Item Such Item (λ it. it.0) y)))
      (layer-alike y given count)))

  one-alike : (it : Item) → AlikeItem it
  one-alike it = ind-Item AlikeItem step it

  pub items-alike : (items : List Item) → AlikeFrom (items_listed items) (items_shown born items)
  items-alike [] given count = tt
  items-alike (it ∷ items) given count =
      then-alike (item_listed it given) (shown_item born it count) (items_listed items) (items_shown born items) (one-alike it given count) (items-alike items)
