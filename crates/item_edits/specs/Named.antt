-- The edits of an element's attributes as they are made.
use Rattle.std.specs.Prelude.{ℕ, List, ◌++◌, map}
use Rattle.std.specs.List.{filter}
use Rattle.frame_core.specs.declared.item_attribute.ItemAttribute.{ItemAttribute}
use Rattle.frame_core.specs.declared.edit.Edit.{Edit}
use Rattle.frame_core.specs.declared.edit.Edit.TheVariants.{Set, Unset}
use Rattle.pairing_meaning.specs.Wires.{wire_attribute}
use Rattle.pairing_meaning.specs.Tallies.{is_set, is_unset}

abbrev pub unset_of : ℕ → ItemAttribute → Edit
unset_of sibling attribute = Unset sibling attribute.name

abbrev pub set_of : ℕ → ItemAttribute → Edit
set_of sibling attribute = Set sibling (wire_attribute attribute)

abbrev pub names_planned : ℕ → List ItemAttribute → List ItemAttribute → List Edit
names_planned sibling olds news = map (unset_of sibling) (filter (is_unset news) olds) ++ map (set_of sibling) (filter (is_set olds) news)
