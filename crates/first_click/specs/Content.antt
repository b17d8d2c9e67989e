-- The trees that parts of content spell.
use Rattle.std.specs.Prelude.{◌≡◌, ℕ, suc, Bool, true, false, List, [], ◌∷◌, ◌++◌, Option, if◌then◌else◌}
use Rattle.std.specs.List.{list_all}
use Rattle.first_click.specs.declared.characters.Class.TheVariants as class
use Rattle.first_click.specs.declared.component.Field.{Field}
use Rattle.first_click.specs.declared.component.Item.{Item}
use Rattle.first_click.specs.declared.component.Item.TheVariants as item
use Rattle.first_click.specs.declared.component.Item.TheFolds.{fold-Item}
use Rattle.first_click.specs.declared.component.Item.TheOpen.{Item-F}
use Rattle.first_click.specs.declared.component.Item.TheOpen as layer
use Rattle.first_click.specs.declared.parts.Part.{Part}
use Rattle.first_click.specs.declared.parts.Part.TheVariants as part
use Rattle.first_click.specs.Characters.{is_in}
use Rattle.first_click.specs.Fields.{has_field}
use Rattle.first_click.specs.Names.{is_element_name}

-- of one layer: whether it is a text of white space alone
abbrev pub blank_step : Item-F Bool → Bool
blank_step (layer.Element name handler children) = false
blank_step (layer.Literal text) = list_all (is_in class.White) text
blank_step (layer.Shown name) = false

-- a literal text of white space alone
abbrev pub is_blank : Item → Bool
is_blank = fold-Item Bool blank_step

-- the items but the first, where that is white space alone
abbrev pub without_first_blank : List Item → List Item
without_first_blank [] = []
without_first_blank (first ∷ items) = if is_blank first then items else first ∷ items

-- the items but the last, where that is white space alone
abbrev pub without_last_blank : List Item → List Item
without_last_blank [] = []
without_last_blank (last ∷ []) = if is_blank last then [] else last ∷ []
without_last_blank (first ∷ second ∷ items) = first ∷ without_last_blank (second ∷ items)

-- a literal text of white space alone is dropped where it is first or last in its list
abbrev pub trimmed : List Item → List Item
trimmed items = without_last_blank (without_first_blank items)

-- over these fields, with elements nested so deep at most, the parts spell these items
pub data Spelled (fields : List Field) : ℕ → List Part → List Item → Type 0 where
  nothing : (depth : ℕ) → Spelled fields depth [] []
  literal : (depth : ℕ) (text : List ℕ) (parts : List Part) (items : List Item) →
      Spelled fields depth parts items → Spelled fields depth (part.Literal text ∷ parts) (item.Literal text ∷ items)
  shown : (depth : ℕ) (name : List ℕ) (parts : List Part) (items : List Item) → has_field fields name ≡ true →
      Spelled fields depth parts items → Spelled fields depth (part.Shown name ∷ parts) (item.Shown name ∷ items)
  element : (depth : ℕ) (name : List ℕ) (handler : Option ℕ) (inside parts : List Part) (children items : List Item) →
      is_element_name name ≡ true → Spelled fields depth inside children → Spelled fields (suc depth) parts items →
      Spelled fields (suc depth) (part.Start name handler ∷ (inside ++ part.End name ∷ parts))
      (item.Element name handler (trimmed children) ∷ items)

-- the parts spell these items but for the white space at their ends
pub record SpellsTree (fields : List Field) (parts : List Part) (tree : List Item) : Type 0 where
  pub items : List Item
  pub spelled : Spelled fields 100 parts items
  pub ends : tree ≡ trimmed items
