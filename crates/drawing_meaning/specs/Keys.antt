-- Keys among siblings.
use Rattle.std.specs.Prelude.{ℕ, ◌==◌, ◌&&◌, not, Bool, true, List, [], ◌∷◌, Option, Some, None, if◌then◌else◌}
use Rattle.std.specs.List.{list_any, filter_map}
use Rattle.cs_ast.specs.declared.value.Value.{Value}
use Rattle.cs_ast.specs.declared.value.Value.TheVariants as v
use Rattle.cs_meaning.specs.Kinds.{is_null}
use Rattle.cs_meaning.specs.Equality.{is_same}
use Rattle.drawing_meaning.specs.declared.fault.PageFault.TheVariants.{DuplicateKey}
use Rattle.frame_core.specs.declared.item.Item.{Item, Item-F, out-Item}
use Rattle.drawing_meaning.specs.Drawing.{Draws, gives, faults}

-- a key that isn't null, by the number of its item
abbrev pub if_key : ℕ → Value → Option (ℕ × Value)
if_key number key = if is_null key then None else Some (number, key)

abbrev pub key_level : Item-F Item → Option (ℕ × Value)
key_level (Item-F.Element number name key attributes children) = if_key number key
key_level (Item-F.Text number text) = None
key_level (Item-F.Markup number text) = None
key_level (Item-F.Component number order made key parameters) = if_key number key
key_level (Item-F.Region number key children) = if_key number key

-- the key of an item, if it has one
abbrev pub key_of : Item → Option (ℕ × Value)
key_of item = key_level (out-Item item)

abbrev pub same_key : ℕ × Value → ℕ × Value → Bool
same_key one other = (one.0 == other.0) && is_same one.1 other.1

abbrev pub are_distinct : List (ℕ × Value) → Bool
are_distinct [] = true
are_distinct (one ∷ others) = not (list_any (same_key one) others) && are_distinct others

-- siblings are whole: no two have one number and one key
unfoldable pub siblings : List Item → Draws (List Item)
siblings items d = if are_distinct (filter_map key_of items) then gives items d else faults DuplicateKey d

-- the key that the item of a number has among siblings; null where there is none
abbrev pub key_at : ℕ → List (ℕ × Value) → Value
key_at number [] = v.Null
key_at number (one ∷ others) = if one.0 == number then one.1 else key_at number others

-- the key of a turn: that of the item made by the node of this number, if there is such a node
abbrev pub key_of_turn : Option ℕ → List Item → Value
key_of_turn None items = v.Null
key_of_turn (Some number) items = key_at number (filter_map key_of items)
