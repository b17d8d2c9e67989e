-- Items that have one number and one key.
use Rattle.std.specs.Prelude.{ℕ, Bool, false, List, Option, Some, None}
use Rattle.std.specs.List.{list_any}
use Rattle.cs_ast.specs.declared.value.Value.{Value}
use Rattle.drawing_meaning.specs.Keys.{key_of, same_key}
use Rattle.frame_core.specs.declared.item.Item.{Item}
use Rattle.frame_run.specs.declared.keys.Key.{Key}

-- a key with the number of its item
abbrev pub key_seen : Key → ℕ × Value
key_seen key = (key.number, key.value.now)

-- whether two items have one number and one key, by what they have
abbrev pub clash : Option (ℕ × Value) → Option (ℕ × Value) → Bool
clash (Some one) (Some other) = same_key one other
clash _ _ = false

-- whether an item has the number and the key of one of others
unfoldable pub repeats : Item → List Item → Bool
repeats one others = list_any (λ other. clash (key_of one) (key_of other)) others
