-- The handlers of a rendering in document order, and the ids that they get.
use Rattle.std.specs.Prelude.{◌≡◌, ℕ, ◌==◌, not, List, [], ◌∷◌, ◌++◌, map, Option, Some, None}
use Rattle.std.specs.List.{flat_map, filter, list_any}
use Rattle.cs_ast.specs.declared.value.Value.{Value}
use Rattle.frame_core.specs.declared.item.Item.{Item}
use Rattle.frame_core.specs.declared.item.Item.TheOpen.{Item-F, Element, Text, Markup, Component, Region}
use Rattle.frame_core.specs.declared.item.Item.TheVariants as item
use Rattle.frame_core.specs.declared.item.Item.TheFolds.{fold-Item}
use Rattle.frame_core.specs.declared.item_attribute.ItemAttribute.{ItemAttribute}
use Rattle.frame_core.specs.declared.item_attribute.ItemValue.{ItemValue}
use Rattle.frame_core.specs.declared.item_attribute.ItemValue.TheVariants as held
use Rattle.handler_ids.specs.declared.handler_value.HandlerValue.{HandlerValue}
use Rattle.handler_ids.specs.History.{Past, disposed_by}
use Rattle.handler_ids.specs.What.{What, found, live}
use Rattle.handler_ids.specs.Naming.{IsGiven}

-- what the handler of an attribute stands for, if it has one
abbrev pub value_under : List ℕ → ItemValue → List HandlerValue
value_under name (held.Text text) = []
value_under name (held.Handler handler) = record { who = handler.who; place = handler.place; event = name; captures = handler.captures } ∷ []

abbrev pub value_of : ItemAttribute → List HandlerValue
value_of attribute = value_under attribute.name attribute.value

abbrev pub values_layer : Item-F (List HandlerValue) → List HandlerValue
values_layer (Element number name key attributes children) = flat_map value_of attributes ++ flat_map (λ values. values) children
values_layer (Text number text) = []
values_layer (Markup number text) = []
values_layer (Component number order made key parameters) = []
values_layer (Region number key children) = flat_map (λ values. values) children

-- what the handlers in an item stand for, in document order
abbrev pub values_in : Item → List HandlerValue
values_in = fold-Item (List HandlerValue) values_layer

abbrev pub values_of : List Item → List HandlerValue
values_of items = flat_map (λ values. values) (map values_in items)

abbrev pub id_under : ItemValue → List ℕ
id_under (held.Text text) = []
id_under (held.Handler handler) = handler.id ∷ []

abbrev pub id_of : ItemAttribute → List ℕ
id_of attribute = id_under attribute.value

abbrev pub ids_layer : Item-F (List ℕ) → List ℕ
ids_layer (Element number name key attributes children) = flat_map id_of attributes ++ flat_map (λ ids. ids) children
ids_layer (Text number text) = []
ids_layer (Markup number text) = []
ids_layer (Component number order made key parameters) = []
ids_layer (Region number key children) = flat_map (λ ids. ids) children

-- the ids of the handlers in an item, in document order
abbrev pub ids_in : Item → List ℕ
ids_in = fold-Item (List ℕ) ids_layer

abbrev pub ids_of : List Item → List ℕ
ids_of items = flat_map (λ ids. ids) (map ids_in items)

abbrev pub bare_value : ItemValue → ItemValue
bare_value (held.Text text) = held.Text text
bare_value (held.Handler handler) = held.Handler (record handler { id = 0 })

abbrev pub bare_attribute : ItemAttribute → ItemAttribute
bare_attribute attribute = record attribute { value = bare_value attribute.value }

abbrev pub bare_layer : Item-F Item → Item
bare_layer (Element number name key attributes children) = item.Element number name key (map bare_attribute attributes) children
bare_layer (Text number text) = item.Text number text
bare_layer (Markup number text) = item.Markup number text
bare_layer (Component number order made key parameters) = item.Component number order made key parameters
bare_layer (Region number key children) = item.Region number key children

-- the item, all whose handlers have no id
abbrev pub bare : Item → Item
bare = fold-Item Item bare_layer

-- the id of a handler: the one that it keeps, or the next one, which this batch gives
abbrev pub IsNumbered : ℕ → Option ℕ → HandlerValue → ℕ → List Past → List Past → Type 0
IsNumbered batch (Some kept) value id history next = (id ≡ kept) × (next ≡ history)
IsNumbered batch None value id history next = IsGiven value batch id history next

-- handlers get their ids one after the other
pub data Numbered : ℕ → List (Option ℕ) → List HandlerValue → List ℕ → List Past → List Past → Type 0 where
  numbered_none : (batch : ℕ) (history : List Past) → Numbered batch [] [] [] history history
  numbered_more : (batch id : ℕ) (kept : List (Option ℕ)) (place : Option ℕ) (values : List HandlerValue) (value : HandlerValue) (ids : List ℕ) (history next last : List Past)
      → Numbered batch kept values ids history next → IsNumbered batch place value id next last → Numbered batch (kept ++ place ∷ []) (values ++ value ∷ []) (ids ++ id ∷ []) history last

-- an id is disposed, where it is live
pub record IsDisposed (batch released id : ℕ) (history next : List Past) : Type 0 where
  pub if_live : (value : HandlerValue) → found history id released ≡ live value → next ≡ disposed_by batch id history
  pub if_not : ((value : HandlerValue) → found history id released ≡ live value → ⊥) → next ≡ history

-- ids are disposed one after the other, where they are live
pub data Disposed : ℕ → ℕ → List ℕ → List Past → List Past → Type 0 where
  disposed_none : (batch released : ℕ) (history : List Past) → Disposed batch released [] history history
  disposed_more : (batch released id : ℕ) (ids : List ℕ) (history next last : List Past)
      → Disposed batch released ids history next → IsDisposed batch released id next last → Disposed batch released (ids ++ id ∷ []) history last

-- the ids of the first list that the second does not have
abbrev pub gone_from : List ℕ → List ℕ → List ℕ
gone_from olds news = filter (λ id. not (list_any (λ new. new == id) news)) olds
