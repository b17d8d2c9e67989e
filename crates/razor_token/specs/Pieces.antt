-- Pieces by what stands at the front of a text.
use Rattle.std.specs.Prelude.{ℕ, ◌==◌, List, take, Option, Some, None, if◌then◌else◌}
use Rattle.razor_token.specs.declared.context.Change.{Change}
use Rattle.razor_token.specs.declared.found.Found.{Found}
use Rattle.razor_token.specs.declared.piece.PieceKind.{PieceKind}
use Rattle.razor_token.specs.declared.piece.PieceKind.TheVariants as k
use Rattle.razor_token.specs.Contexts.{stays}

-- a piece of so many characters that changes this
abbrev pub piece : PieceKind → ℕ → Change → Option Found
piece kind count change = Some (record { kind = kind; count = count; change = change })

-- so many characters as literal text, if there are any
abbrev pub literal : ℕ → List ℕ → Option Found
literal count text = if count == 0 then None else piece (k.Literal (take count text)) count stays

-- white space of a tag
abbrev pub space : ℕ → Option Found
space count = piece k.Space count stays
