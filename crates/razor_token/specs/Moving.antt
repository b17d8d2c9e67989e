-- How far a piece goes, so that a text comes to its end.
use Rattle.std.specs.Prelude.{◌≡◌, ℕ, ◌<◌, ◌≤◌, List, length, Option, Some, None}
use Rattle.razor_token.specs.declared.found.CodeFront.{CodeFront}
use Rattle.razor_token.specs.declared.found.Found.{Found}
use Rattle.razor_token.specs.Contexts.{leaves}

-- the token has a character or more, within the text
abbrev pub TakesCode : List ℕ → Option CodeFront → Type 0
TakesCode text None = Unit {0}
TakesCode text (Some front) = (0 < front.count) × (front.count ≤ length text)

-- the piece has a character or more, within the text
abbrev pub Takes : List ℕ → Option Found → Type 0
Takes text None = Unit {0}
Takes text (Some found) = (0 < found.count) × (found.count ≤ length text)

-- the piece lies within the text, and where it is empty, the innermost context is left
abbrev pub Moves : List ℕ → Option Found → Type 0
Moves text None = Unit {0}
Moves text (Some found) = (found.count ≤ length text) × (found.count ≡ 0 → found.change ≡ leaves)
