-- A line for each kind of frame.
use Rattle.std.specs.Prelude.{ℕ, ◌+◌, List, [], ◌∷◌, ◌++◌, codes, if◌then◌else◌, ◌==◌}
use Rattle.std.specs.Fmt.{decimal}
use Rattle.std.specs.List.{flat_map}
use Rattle.frame_core.specs.declared.item_attribute.ItemAttribute.{ItemAttribute}
use Rattle.frame_core.specs.declared.item_attribute.ItemValue.{ItemValue}
use Rattle.frame_core.specs.declared.item_attribute.ItemValue.TheVariants.{Text, Handler}

-- a backslash, a line feed and a carriage return are written so that a line stays one line
abbrev pub escaped_character : ℕ → List ℕ
escaped_character c =
    if c == 92 then codes "\\\\"
    else if c == 10 then codes "\\n"
    else if c == 13 then codes "\\r"
    else c ∷ []

abbrev pub escaped : List ℕ → List ℕ
escaped = flat_map escaped_character

-- a kind of frame, the number of the template node that made it, and what is said of it
abbrev pub frame_line : List ℕ → ℕ → List ℕ → List ℕ
frame_line kind number said = kind ++ codes " " ++ decimal number ++ codes " " ++ said

-- an element, which is so many frames with what is in it
abbrev pub element_line : ℕ → List ℕ → ℕ → List ℕ
element_line number name count = frame_line (codes "element") number (decimal count ++ codes " " ++ escaped name)

abbrev pub region_line : ℕ → ℕ → List ℕ
region_line number count = frame_line (codes "region") number (decimal count)

abbrev pub text_line : ℕ → List ℕ → List ℕ
text_line number text = frame_line (codes "text") number (escaped text)

abbrev pub markup_line : ℕ → List ℕ → List ℕ
markup_line number text = frame_line (codes "markup") number (escaped text)

-- what an attribute says behind its name; a handler has the next id
abbrev pub value_text : ItemValue → ℕ → List ℕ
value_text (Text text) given = codes "=" ++ escaped text
value_text (Handler handler) given = codes " #" ++ decimal (given + 1)

-- an attribute or a handler, where so many handlers have ids already
abbrev pub attribute_line : ItemAttribute → ℕ → List ℕ
attribute_line one given = frame_line (codes "attribute") one.number (escaped one.name ++ value_text one.value given)

-- the lines begin with the instance, the first of the page, and the name of its component
abbrev pub component_line : List ℕ → List ℕ
component_line name = codes "component 1 " ++ escaped name
