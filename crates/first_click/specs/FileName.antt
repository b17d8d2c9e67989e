-- The name that a component's file has.
use Rattle.std.specs.Prelude.{◌≡◌, ℕ, Bool, true, not, ◌&&◌, ◌==◌, List, [], ◌∷◌, ◌++◌, codes, if◌then◌else◌}
use Rattle.std.specs.List.{list_any, list_all}
use Rattle.std.specs.Str.{bytes_eq}
use Rattle.first_click.specs.declared.characters.Class.TheVariants as class
use Rattle.first_click.specs.Characters.{is_in, begins_with}

-- `/`
abbrev pub is_slash : ℕ → Bool
is_slash c = c == 47

-- the longest end of a path without a slash
abbrev pub base_name : List ℕ → List ℕ
base_name [] = []
base_name (c ∷ path) = if list_any is_slash (c ∷ path) then base_name path else c ∷ path

-- a letter A to Z, and then letters, digits and `_`, but not the name of the component that is built in
abbrev pub is_component_name : List ℕ → Bool
is_component_name name =
    begins_with class.Upper name && list_all (is_in class.Word) name && not (bytes_eq name (codes "CascadingValue"))

-- behind the folders a component's name and `.razor`
pub record NamesComponent (path : List ℕ) : Type 0 where
  pub name : List ℕ
  pub base : base_name path ≡ name ++ codes ".razor"
  pub named : is_component_name name ≡ true
