-- Keys of items, and items with the same.
use Rattle.std.proofs.Common.{◌≡◌, ℕ, List, [], ◌∷◌, true, false, refl, sym, ap, ◌∙◌}
use Rattle.std.specs.Prelude.{◌||◌, ◌&&◌, not, Bool, Option, Some, None}
use Rattle.std.specs.List.{list_any, filter_map, cons_option}
use Rattle.cs_ast.specs.declared.value.Value.{Value}
use Rattle.frame_core.specs.declared.item.Item.{Item, out-Item}
use Rattle.frame_core.specs.declared.item.Item.TheVariants as item
use Rattle.frame_core.specs.declared.item.Item.TheOpen.{Item-F}
use Rattle.frame_core.specs.declared.item.Item.TheViews.{roll-Item, out-roll-Item}
use Rattle.frame_core.specs.declared.item.ItemParameter.{ItemParameter}
use Rattle.frame_core.specs.declared.item_attribute.ItemAttribute.{ItemAttribute}
use Rattle.frame_core.specs.declared.made.Made.{Made}
use Rattle.drawing_meaning.specs.Keys.{if_key, key_level, key_of, same_key, are_distinct}
use Rattle.frame_run.specs.Clashes.{clash, repeats}

opened : (x : Item) (y : Item-F Item) → roll-Item y ≡ x → key_of x ≡ key_level y
opened x y e = ap (λ (it : Item). key_of it) (sym e) ∙ ap key_level (out-roll-Item y)

pub element_key : (number : ℕ) (name : List ℕ) (key : Value) (attributes : List ItemAttribute) (children : List Item) → key_of (item.Element number name key attributes children) ≡ if_key number key
element_key number name key attributes children = opened (item.Element number name key attributes children) (Item-F.Element number name key attributes children) (item.rolls-Element number name key attributes children)

pub text_key : (number : ℕ) (text : List ℕ) → key_of (item.Text number text) ≡ None
text_key number text = opened (item.Text number text) (Item-F.Text number text) (item.rolls-Text number text)

pub markup_key : (number : ℕ) (text : List ℕ) → key_of (item.Markup number text) ≡ None
markup_key number text = opened (item.Markup number text) (Item-F.Markup number text) (item.rolls-Markup number text)

pub component_key : (number order : ℕ) (made : Made) (key : Value) (parameters : List ItemParameter) → key_of (item.Component number order made key parameters) ≡ if_key number key
component_key number order made key parameters = opened (item.Component number order made key parameters) (Item-F.Component number order made key parameters) (item.rolls-Component number order made key parameters)

pub region_key : (number : ℕ) (key : Value) (children : List Item) → key_of (item.Region number key children) ≡ if_key number key
region_key number key children = opened (item.Region number key children) (Item-F.Region number key children) (item.rolls-Region number key children)

-- no key is no other's
pub none_clashes : (items : List Item) → list_any (λ other. clash None (key_of other)) items ≡ false
none_clashes [] = refl
none_clashes (one ∷ others) = none_clashes others

-- a key among those of items
key_among : (key : ℕ × Value) (items : List Item) → list_any (same_key key) (filter_map key_of items) ≡ list_any (λ other. clash (Some key) (key_of other)) items
key_among key [] = refl
key_among key (one ∷ others) = by (key_of one) ∙ ap (λ (b : Bool). clash (Some key) (key_of one) || b) (key_among key others)
  where
    by : (o : Option (ℕ × Value)) → list_any (same_key key) (cons_option o (filter_map key_of others)) ≡ (clash (Some key) o || list_any (same_key key) (filter_map key_of others))
    by None = refl
    by (Some other) = refl

distinct_step : (one : Item) (others : List Item) → are_distinct (filter_map key_of (one ∷ others)) ≡ (not (list_any (λ other. clash (key_of one) (key_of other)) others) && are_distinct (filter_map key_of others))
distinct_step one others = by (key_of one)
  where
    by : (o : Option (ℕ × Value)) → are_distinct (cons_option o (filter_map key_of others)) ≡ (not (list_any (λ other. clash o (key_of other)) others) && are_distinct (filter_map key_of others))
    by None = ap (λ (b : Bool). not b && are_distinct (filter_map key_of others)) (sym (none_clashes others))
    by (Some key) = ap (λ (b : Bool). not b && are_distinct (filter_map key_of others)) (key_among key others)

-- an item in front of others, of which none has its key
pub distinct_more : (one : Item) (others : List Item) → repeats one others ≡ false → are_distinct (filter_map key_of (one ∷ others)) ≡ are_distinct (filter_map key_of others)
unfolding repeats
distinct_more one others h = distinct_step one others ∙ ap (λ (b : Bool). not b && are_distinct (filter_map key_of others)) h

-- or of which one has it
pub distinct_no_more : (one : Item) (others : List Item) → repeats one others ≡ true → are_distinct (filter_map key_of (one ∷ others)) ≡ false
unfolding repeats
distinct_no_more one others h = distinct_step one others ∙ ap (λ (b : Bool). not b && are_distinct (filter_map key_of others)) h
