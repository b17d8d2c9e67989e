-- How many handlers and items there are in an item.
use Rattle.std.proofs.Common.{◌≡◌, ◌∙◌, refl, ap, sym, ℕ, ◌+◌, List, [], ◌∷◌, ◌++◌, length, arith, length-append}
use Rattle.std.specs.List.{flat_map}
use Rattle.cs_ast.specs.declared.value.Value.{Value}
use Rattle.frame_core.specs.declared.item.Item.{Item}
use Rattle.frame_core.specs.declared.item.Item.TheOpen.{Element, Region}
use Rattle.frame_core.specs.declared.item.Item.TheVariants as item
use Rattle.frame_core.specs.declared.item.Item.TheFolds.{fold-roll-Item}
use Rattle.frame_core.specs.declared.item_attribute.ItemAttribute.{ItemAttribute}
use Rattle.handler_ids.specs.declared.handler_value.HandlerValue.{HandlerValue}
use Rattle.item_edits.specs.Renderings.{size_of, sizes}
use Rattle.item_edits.proofs.RenderingLemmas.{sizes-more, size-element, size-region}
use Rattle.frame_walk.specs.Ids.{value_of, values_layer, values_in, values_of}

pub sizes-last : (less : List Item) (last : Item) → sizes (less ++ last ∷ []) ≡ sizes less + size_of last
sizes-last [] last =
    let one = sizes-more last [] in
    let none : sizes [] ≡ 0 = refl in
    omega arith
sizes-last (it ∷ less) last =
    let one = sizes-more it (less ++ last ∷ []) in
    let two = sizes-more it less in
    let rest = sizes-last less last in
    omega arith

pub element-size : (it : Item) (n : ℕ) (name : List ℕ) (key : Value) (attributes : List ItemAttribute) (children : List Item) → it ≡ item.Element n name key attributes children → size_of it ≡ 1 + sizes children
element-size it n name key attributes children is = ap size_of is ∙ size-element n name key attributes children

pub region-size : (it : Item) (n : ℕ) (key : Value) (children : List Item) → it ≡ item.Region n key children → size_of it ≡ 1 + sizes children
region-size it n key children is = ap size_of is ∙ size-region n key children

pub element-count : (it : Item) (n : ℕ) (name : List ℕ) (key : Value) (attributes : List ItemAttribute) (children : List Item) → it ≡ item.Element n name key attributes children → length (values_in it) ≡ length (flat_map value_of attributes) + length (values_of children)
element-count it n name key attributes children is =
    ap length (ap values_in (is ∙ sym (item.rolls-Element n name key attributes children)) ∙ fold-roll-Item (List HandlerValue) values_layer (Element n name key attributes children))
    ∙ length-append (flat_map value_of attributes) (values_of children)

pub region-count : (it : Item) (n : ℕ) (key : Value) (children : List Item) → it ≡ item.Region n key children → length (values_in it) ≡ length (values_of children)
region-count it n key children is = ap length (ap values_in (is ∙ sym (item.rolls-Region n key children)) ∙ fold-roll-Item (List HandlerValue) values_layer (Region n key children))
