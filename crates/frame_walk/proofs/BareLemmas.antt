-- Items that differ in ids alone are of one size, and as clear.
use Rattle.std.proofs.Common.{◌≡◌, ◌∙◌, refl, ap, sym, subst, ℕ, zero, suc, ◌+◌, List, [], ◌∷◌, ◌++◌, map, sum, slice_get, Option, Some, None, arith}
use Rattle.cs_ast.specs.declared.value.Value.{Value}
use Rattle.frame_core.specs.declared.item.Item.{Item}
use Rattle.frame_core.specs.declared.item.Item.TheViews.{out-Item, roll-Item, out-roll-Item}
use Rattle.frame_core.specs.declared.item.Item.TheOpen.{Item-F, Element, Text, Markup, Component, Region}
use Rattle.frame_core.specs.declared.item.Item.TheVariants as item
use Rattle.frame_core.specs.declared.item.Item.TheFolds.{fold-Item, map-Item, fold-roll-Item, ind-Item}
use Rattle.frame_core.specs.declared.item_attribute.ItemAttribute.{ItemAttribute}
use Rattle.item_edits.specs.Renderings.{size_layer, size_of, sizes, NamesDiffer, Clear, clear_element, clear_text, clear_markup, clear_component, clear_region, AllClear, none_unclear, clear_more}
use Rattle.item_edits.proofs.RenderingLemmas.{sizes-more, size-element, size-region, clear-element, clear-region}
use Rattle.frame_walk.specs.Ids.{bare_attribute, bare_layer, bare}

get-of-map : {X Y : Type 0} (f : X → Y) (xs : List X) (k : ℕ) (y : Y) → slice_get (map f xs) k ≡ Some y → (x : X) × (slice_get xs k ≡ Some x) × (f x ≡ y)
get-of-map f [] k y is = absurd (cc)
get-of-map f (x ∷ xs) zero y is = (x, refl, (let same : f x ≡ y = cc in same))
get-of-map f (x ∷ xs) (suc k) y is = get-of-map f xs k y is

get-map : {X Y : Type 0} (f : X → Y) (xs : List X) (k : ℕ) (x : X) → slice_get xs k ≡ Some x → slice_get (map f xs) k ≡ Some (f x)
get-map f [] k x is = absurd (cc)
get-map f (y ∷ xs) zero x is = let same : y ≡ x = cc in ap (λ z. Some (f z)) same
get-map f (y ∷ xs) (suc k) x is = get-map f xs k x is

names-bare : (attributes : List ItemAttribute) → NamesDiffer attributes → NamesDiffer (map bare_attribute attributes)
names-bare attributes differ i j one other e f same =
    let a = get-of-map bare_attribute attributes i one e in
    let b = get-of-map bare_attribute attributes j other f in
    differ i j a.0 b.0 a.1 b.1 (ap (λ (z : ItemAttribute). z.name) a.2 ∙ same ∙ ap (λ (z : ItemAttribute). z.name) (sym b.2))

names-full : (attributes : List ItemAttribute) → NamesDiffer (map bare_attribute attributes) → NamesDiffer attributes
names-full attributes differ i j one other e f same =
    differ i j (bare_attribute one) (bare_attribute other) (get-map bare_attribute attributes i one e) (get-map bare_attribute attributes j other f) same

-- as large as it is bare, and as clear
pub record Alike (it : Item) : Type 0 where
  pub size : size_of (bare it) ≡ size_of it
  pub forth : Clear it → Clear (bare it)
  pub back : Clear (bare it) → Clear it

abbrev Such : Type 0
Such = (it : Item) × Alike it

abbrev plain : List Such → List Item
plain items = map (λ it. it.0) items

abbrev known : Item-F Such → Item-F Item
known y = map-Item Such Item (λ it. it.0) y

all-sizes : (items : List Such) → sizes (map bare (plain items)) ≡ sizes (plain items)
all-sizes [] = refl
all-sizes (it ∷ items) =
    sizes-more (bare it.0) (map bare (plain items)) ∙ ap (λ n. n + sizes (map bare (plain items))) it.1.size ∙ ap (λ n. size_of it.0 + n) (all-sizes items) ∙ sym (sizes-more it.0 (plain items))

first-clear : (it : Item) (items them : List Item) → AllClear them → them ≡ it ∷ items → Clear it × AllClear items
first-clear it items them none_unclear is = absurd (cc)
first-clear it items them (clear_more one rest clear each) is =
    let a : one ≡ it = cc in
    let b : rest ≡ items = cc in
    (subst Clear a clear, subst AllClear b each)

all-forth : (items : List Such) → AllClear (plain items) → AllClear (map bare (plain items))
all-forth [] each = none_unclear
all-forth (it ∷ items) each =
    let w = first-clear it.0 (plain items) (it.0 ∷ plain items) each refl in
    clear_more (bare it.0) (map bare (plain items)) (it.1.forth w.0) (all-forth items w.1)

all-back : (items : List Such) → AllClear (map bare (plain items)) → AllClear (plain items)
all-back [] each = none_unclear
all-back (it ∷ items) each =
    let w = first-clear (bare it.0) (map bare (plain items)) (bare it.0 ∷ map bare (plain items)) each refl in
    clear_more it.0 (plain items) (it.1.back w.0) (all-back items w.1)

alike-leaf : (it : Item) → bare it ≡ it → Alike it
alike-leaf it same = record { size = ap size_of same; forth = λ clear. subst Clear (sym same) clear; back = λ clear. subst Clear same clear }

layer-alike : (y : Item-F Such) → Alike (roll-Item (known y))
layer-alike (Element number name key attributes children) =
    let it = roll-Item (known (Element number name key attributes children)) in
    let own : it ≡ item.Element number name key attributes (plain children) = item.rolls-Element number name key attributes (plain children) in
    let is : bare it ≡ item.Element number name key (map bare_attribute attributes) (map bare (plain children)) = fold-roll-Item Item bare_layer (Element number name key attributes (plain children)) in
    record {
      size = ap size_of is ∙ size-element number name key (map bare_attribute attributes) (map bare (plain children)) ∙ ap (λ n. 1 + n) (all-sizes children) ∙ sym (size-element number name key attributes (plain children)) ∙ ap size_of (sym own);
      forth = λ clear.
          let w = clear-element it number name key attributes (plain children) clear own in
          subst Clear (sym is) (clear_element number name key (map bare_attribute attributes) (map bare (plain children)) (names-bare attributes w.0) (all-forth children w.1));
      back = λ clear.
          let w = clear-element (bare it) number name key (map bare_attribute attributes) (map bare (plain children)) clear is in
          subst Clear (sym own) (clear_element number name key attributes (plain children) (names-full attributes w.0) (all-back children w.1));
    }
layer-alike (Text number text) = alike-leaf (roll-Item (Text number text)) (fold-roll-Item Item bare_layer (Text number text) ∙ sym (item.rolls-Text number text))
layer-alike (Markup number text) = alike-leaf (roll-Item (Markup number text)) (fold-roll-Item Item bare_layer (Markup number text) ∙ sym (item.rolls-Markup number text))
layer-alike (Component number order made key parameters) =
    alike-leaf (roll-Item (Component number order made key parameters)) (fold-roll-Item Item bare_layer (Component number order made key parameters) ∙ sym (item.rolls-Component number order made key parameters))
layer-alike (Region number key children) =
    let it = roll-Item (known (Region number key children)) in
    let own : it ≡ item.Region number key (plain children) = item.rolls-Region number key (plain children) in
    let is : bare it ≡ item.Region number key (map bare (plain children)) = fold-roll-Item Item bare_layer (Region number key (plain children)) in
    record {
      size = ap size_of is ∙ size-region number key (map bare (plain children)) ∙ ap (λ n. 1 + n) (all-sizes children) ∙ sym (size-region number key (plain children)) ∙ ap size_of (sym own);
      forth = λ clear. subst Clear (sym is) (clear_region number key (map bare (plain children)) (all-forth children (clear-region it number key (plain children) clear own)));
      back = λ clear. subst Clear (sym own) (clear_region number key (plain children) (all-back children (clear-region (bare it) number key (map bare (plain children)) clear is)));
    }

step : (x : Item-F Item) (y : Item-F Such) → known y ≡ x → Alike (roll-Item x)
step x y e = subst (λ (z : Item-F Item). Alike (roll-Item z)) e (layer-alike y)

one-alike : (it : Item) → Alike it
one-alike it = ind-Item Alike step it

such : List Item → List Such
such [] = []
such (it ∷ items) = (it, one-alike it) ∷ such items

plain-such : (items : List Item) → plain (such items) ≡ items
unfolding such
plain-such [] = refl
plain-such (it ∷ items) = ap (λ (rest : List Item). it ∷ rest) (plain-such items)

-- what differs in ids alone is of one size
pub same-sizes : (items others : List Item) → map bare items ≡ map bare others → sizes items ≡ sizes others
same-sizes items others same =
    let sized : (them : List Item) → sizes (map bare them) ≡ sizes them = λ them. subst (λ (z : List Item). sizes (map bare z) ≡ sizes z) (plain-such them) (all-sizes (such them)) in
    sym (sized items) ∙ ap sizes same ∙ sized others

-- and as clear
pub same-clear : (items others : List Item) → map bare items ≡ map bare others → AllClear items → AllClear others
same-clear items others same clear =
    let there : AllClear (map bare items) = subst (λ (z : List Item). AllClear z → AllClear (map bare z)) (plain-such items) (all-forth (such items)) clear in
    subst (λ (z : List Item). AllClear (map bare z) → AllClear z) (plain-such others) (all-back (such others)) (subst AllClear same there)
