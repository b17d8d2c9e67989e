-- What an item has in common with the item that it pairs with: its number, its kind and its key.
use Rattle.std.specs.Prelude.{ℕ, ◌+◌, ◌==◌, Bool, true, false, ◌&&◌, if◌then◌else◌, List, [], ◌∷◌, Option, Some, None}
use Rattle.std.specs.Str.{bytes_eq}
use Rattle.cs_ast.specs.declared.value.Value.{Value}
use Rattle.cs_ast.specs.declared.value.Value.TheVariants as value
use Rattle.cs_meaning.specs.Equality.{is_same}
use Rattle.cs_rules.specs.Types.{same_type}
use Rattle.frame_core.specs.declared.made.Made.{Made}
use Rattle.frame_core.specs.declared.made.Made.TheVariants as made
use Rattle.frame_core.specs.declared.item.Item.{Item}
use Rattle.frame_core.specs.declared.item.Item.TheViews.{out-Item}
use Rattle.frame_core.specs.declared.item.Item.TheOpen.{Item-F, Element, Text, Markup, Component, Region}

-- two elements are of one kind where they have one name, two components where they are made of the same
pub data Kind : Type 0 where
  element : List ℕ → Kind
  text : Kind
  markup : Kind
  component : Made → Kind
  region : Kind

-- a key that is null is no key
pub record Label : Type 0 where
  pub number : ℕ
  pub kind : Kind
  pub key : Value

abbrev pub label_by : {X : Type 0} → Item-F X → Label
label_by (Element number name key attributes children) = record { number = number; kind = element name; key = key }
label_by (Text number content) = record { number = number; kind = text; key = value.Null }
label_by (Markup number content) = record { number = number; kind = markup; key = value.Null }
label_by (Component number order what key parameters) = record { number = number; kind = component what; key = key }
label_by (Region number key children) = record { number = number; kind = region; key = key }

abbrev pub label_of : Item → Label
label_of item = label_by (out-Item item)

abbrev pub same_named : Option (List ℕ) → Option (List ℕ) → Bool
same_named None None = true
same_named (Some name) (Some other) = bytes_eq name other
same_named _ _ = false

-- the same component of the program, or providers of one type and one name, or of none
abbrev pub same_made : Made → Made → Bool
same_made (made.Component place) (made.Component other) = place == other
same_made (made.Provider of name) (made.Provider other named) = same_type of other && same_named name named
same_made _ _ = false

abbrev pub same_kind : Kind → Kind → Bool
same_kind (element name) (element other) = bytes_eq name other
same_kind text text = true
same_kind markup markup = true
same_kind (component what) (component other) = same_made what other
same_kind region region = true
same_kind _ _ = false

abbrev pub same_label : Label → Label → Bool
same_label one other = one.number == other.number && same_kind one.kind other.kind && is_same one.key other.key

-- how many of these are the same as one of them
abbrev pub like : {X : Type 0} → (X → X → Bool) → X → List X → ℕ
like same one [] = 0
like same one (x ∷ xs) = if same x one then like same one xs + 1 else like same one xs
