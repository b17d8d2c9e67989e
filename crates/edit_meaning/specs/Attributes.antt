-- What an element has under its names: attributes with their texts, and handlers of events with their ids.
use Rattle.std.specs.Prelude.{ℕ, Bool, ◌||◌, List, [], is_some}
use Rattle.std.specs.List.{fold}
use Rattle.std.specs.BTreeMap.{insert_entry}
use Rattle.page_core.specs.ByName.{by_characters, value_of, without}
use Rattle.edit_meaning.specs.declared.names.Names.{Names}
use Rattle.frame_core.specs.declared.wire_node.WireAttribute.{WireAttribute}
use Rattle.frame_core.specs.declared.wire_node.WireValue.{WireValue}
use Rattle.frame_core.specs.declared.wire_node.WireValue.TheVariants.{Text, Handler}

-- what a name is set to takes the place of what the name had, an attribute's text or a handler
abbrev pub set_to : Names → List ℕ → WireValue → Names
set_to names name (Text text) = record { attributes = insert_entry by_characters names.attributes name text; handlers = without names.handlers name }
set_to names name (Handler id) = record { attributes = without names.attributes name; handlers = insert_entry by_characters names.handlers name id }

abbrev pub set_under : Names → WireAttribute → Names
set_under names attribute = set_to names attribute.name attribute.value

-- nothing is set
abbrev pub nothing_set : Names
nothing_set = record { attributes = []; handlers = [] }

-- one after the other, so of several with one name the last stands
abbrev pub all_set : List WireAttribute → Names
all_set attributes = fold set_under nothing_set attributes

-- whether there is an attribute or a handler of this name
abbrev pub has_name : Names → List ℕ → Bool
has_name names name = is_some (value_of names.attributes name) || is_some (value_of names.handlers name)

abbrev pub unset_under : Names → List ℕ → Names
unset_under names name = record { attributes = without names.attributes name; handlers = without names.handlers name }
