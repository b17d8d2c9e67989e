-- The one event that plain pages know.
use Rattle.std.specs.Prelude.{ℕ, List, codes, Option}
use Rattle.page_core.specs.ByName.{value_of}

-- its name
abbrev pub onclick : List ℕ
onclick = codes "onclick"

-- the handler of clicks among an element's handlers
abbrev pub click_handler : List (List ℕ × ℕ) → Option ℕ
click_handler handlers = value_of handlers onclick
