-- What becomes of the nodes that show the items of an old rendering: the node of a pair keeps its birth, and no other node does.
use Rattle.std.specs.Prelude.{◌≡◌, ℕ, List, [], ◌∷◌, ◌++◌, slice_get, Option, Some, None}
use Rattle.cs_ast.specs.declared.value.Value.{Value}
use Rattle.frame_core.specs.declared.item.Item.{Item}
use Rattle.frame_core.specs.declared.item.Item.TheVariants as item
use Rattle.frame_core.specs.declared.item.ItemParameter.{ItemParameter}
use Rattle.frame_core.specs.declared.made.Made.{Made}
use Rattle.frame_core.specs.declared.item_attribute.ItemAttribute.{ItemAttribute}
use Rattle.frame_core.specs.declared.wire_node.WireNode.{WireNode}
use Rattle.edit_meaning.specs.declared.browser_node.BrowserNode.{BrowserNode}
use Rattle.edit_meaning.specs.declared.browser_node.BrowserNode.TheVariants as node
use Rattle.edit_meaning.specs.Made.{made}
use Rattle.pairing_meaning.specs.Slots.{Slot, slots_of, addresses, same_address}
use Rattle.pairing_meaning.specs.Pairs.{Tells}
use Rattle.pairing_meaning.specs.Wires.{names_of, wires_of}

mutual
  -- the node shows the item, with any births, and with components of any numbers
  pub data Shows : Item → BrowserNode → Type 0 where
    shows_element : (number : ℕ) (name : List ℕ) (key : Value) (attributes : List ItemAttribute) (children : List Item) (born : ℕ) (nodes : List BrowserNode)
        → ShowEach (slots_of children) nodes → Shows (item.Element number name key attributes children) (node.Element born name (names_of attributes) nodes)
    shows_text : (number : ℕ) (text : List ℕ) (born : ℕ) → Shows (item.Text number text) (node.Text born text)
    shows_markup : (number : ℕ) (text : List ℕ) (born : ℕ) → Shows (item.Markup number text) (node.Markup born text)
    shows_component : (number order : ℕ) (what : Made) (key : Value) (parameters : List ItemParameter) (shown : ℕ) → Shows (item.Component number order what key parameters) (node.Component shown)

  -- a node for each slot
  pub data ShowEach : List Slot → List BrowserNode → Type 0 where
    show_none : ShowEach [] []
    show_more : (slot : Slot) (shown : BrowserNode) (slots : List Slot) (nodes : List BrowserNode) → Shows slot.item shown → ShowEach slots nodes → ShowEach (slot ∷ slots) (shown ∷ nodes)

-- for each new slot the old one that it pairs with
abbrev pub TellsSlots : List Slot → List Slot → List (Option ℕ) → Type 0
TellsSlots olds news from = Tells same_address (addresses olds) (addresses news) from

mutual
  -- what a batch makes of the node of an item that pairs with another
  pub data Becomes : ℕ → Item → Item → BrowserNode → BrowserNode → Type 0 where
    becomes_element : (batch m n : ℕ) (name : List ℕ) (key other : Value) (was attributes : List ItemAttribute) (olds news : List Item) (from : List (Option ℕ)) (born : ℕ) (before after : List BrowserNode)
        → TellsSlots (slots_of olds) (slots_of news) from → Places batch from (slots_of olds) (slots_of news) (wires_of news) before after
        → Becomes batch (item.Element m name key was olds) (item.Element n name other attributes news) (node.Element born name (names_of was) before) (node.Element born name (names_of attributes) after)
    becomes_text : (batch m n : ℕ) (old new : List ℕ) (born : ℕ) → Becomes batch (item.Text m old) (item.Text n new) (node.Text born old) (node.Text born new)
    becomes_markup : (batch m n : ℕ) (old new : List ℕ) (born : ℕ) → Becomes batch (item.Markup m old) (item.Markup n new) (node.Markup born old) (node.Markup born new)
    becomes_component : (batch m n first second : ℕ) (what other : Made) (key later : Value) (old new : List ItemParameter) (shown : ℕ)
        → Becomes batch (item.Component m first what key old) (item.Component n second other later new) (node.Component shown) (node.Component shown)

  -- each new slot has what became of the node of its pair, or the node that the batch makes of what it says
  pub data Places : ℕ → List (Option ℕ) → List Slot → List Slot → List WireNode → List BrowserNode → List BrowserNode → Type 0 where
    places_none : (batch : ℕ) (olds : List Slot) (before : List BrowserNode) → Places batch [] olds [] [] before []
    places_new : (batch : ℕ) (from : List (Option ℕ)) (olds news : List Slot) (wires : List WireNode) (before after : List BrowserNode) (new : Slot) (wire : WireNode)
        → Places batch from olds news wires before after
        → Places batch (from ++ None ∷ []) olds (news ++ new ∷ []) (wires ++ wire ∷ []) before (after ++ made batch wire ∷ [])
    places_kept : (batch : ℕ) (from : List (Option ℕ)) (olds news : List Slot) (wires : List WireNode) (before after : List BrowserNode) (new old : Slot) (wire : WireNode) (place : ℕ) (was is : BrowserNode)
        → Places batch from olds news wires before after
        → slice_get olds place ≡ Some old → slice_get before place ≡ Some was → Becomes batch old.item new.item was is
        → Places batch (from ++ Some place ∷ []) olds (news ++ new ∷ []) (wires ++ wire ∷ []) before (after ++ is ∷ [])
