-- How the code reads the bytes of a page. This is no part of what a screen promises.
use Rattle.std.specs.Prelude.{ℕ, zero, suc, List, [], ◌∷◌, drop, ◌==◌, if◌then◌else◌, Option, Some, None, option_map, option_and_then, Result, Ok, Err}
use Rattle.text_core.specs.declared.wire_fault.WireFault.{WireFault}
use Rattle.text_core.specs.Words.{u64_at}
use Rattle.text_core.specs.TextBytes.{text_at}
use Rattle.page_core.specs.declared.node.Node.{Node, roll-Node}
use Rattle.page_core.specs.declared.node.Node.TheOpen.{Element, Text}
use Rattle.plain_page.specs.Click.{onclick}

-- what bytes begin with, and the bytes behind it
abbrev pub Reads : Type 0 → Type 0
Reads X = List ℕ → Option (X × List ℕ)

-- a number of eight bytes
unfoldable pub word_at : Reads ℕ
word_at bytes = option_map (λ word. (word, drop 8 bytes)) (u64_at bytes)

-- the text that was taken, if one was
abbrev pub text_taken : Result (List ℕ × List ℕ) WireFault → Option (List ℕ × List ℕ)
text_taken (Ok taken) = Some taken
text_taken (Err fault) = None

-- a birth, a text and the bytes behind them
unfoldable pub front_at : List ℕ → Option (ℕ × List ℕ × List ℕ)
front_at bytes =
    option_and_then (λ born. option_map (λ taken. (born, taken.0, taken.1)) (text_taken (text_at (drop 8 bytes)))) (u64_at bytes)

-- the handlers of an element that has this one of clicks, if any
abbrev pub handlers_of : Option ℕ → List (List ℕ × ℕ)
handlers_of None = []
handlers_of (Some id) = (onclick, id) ∷ []

-- a text
abbrev pub text_node : ℕ → List ℕ → Node
text_node born text = roll-Node (Text born text)

-- an element
abbrev pub element : ℕ → List ℕ → Option ℕ → List Node → Node
element born name handler children = roll-Node (Element born name [] (handlers_of handler) children)

-- an element whose children these bytes begin with
abbrev pub element_at : Reads (List Node) → ℕ → List ℕ → Option ℕ → Reads Node
element_at read born name handler bytes = option_map (λ found. (element born name handler found.0, found.1)) (read bytes)

-- a node of this kind behind its birth and text
abbrev pub kind_at : Reads (List Node) → ℕ → ℕ → List ℕ → Reads Node
kind_at read kind born text bytes =
    if kind == 1 then Some (text_node born text, bytes)
    else if kind == 2 then element_at read born text None bytes
    else if kind == 3 then option_and_then (λ id. element_at read born text (Some id.0) id.1) (word_at bytes)
    else None

-- a node of this kind, whose children are read so
unfoldable pub node_at : Reads (List Node) → ℕ → Reads Node
node_at read kind bytes = option_and_then (λ front. kind_at read kind front.0 front.1 front.2) (front_at bytes)

-- a node before others
abbrev pub before : Node → List Node × List ℕ → List Node × List ℕ
before node found = (node ∷ found.0, found.1)

-- siblings, whose children and those behind them are read so
abbrev pub siblings_at : Reads (List Node) → Reads (List Node)
siblings_at read [] = None
siblings_at read (kind ∷ bytes) =
    if kind == 0 then Some ([], bytes)
    else option_and_then (λ found. option_map (before found.0) (read found.1)) (node_at read kind bytes)

-- siblings, of which so many may be read and go so deep
unfoldable pub nodes_at : ℕ → Reads (List Node)
nodes_at zero bytes = None
nodes_at (suc fuel) bytes = siblings_at (nodes_at fuel) bytes
