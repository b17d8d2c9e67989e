-- What stands at the front of a tag behind its name.
use Rattle.std.specs.Prelude.{ℕ, ◌+◌, ◌==◌, Bool, not, List, take, drop, codes, Option, None, if◌then◌else◌}
use Rattle.razor_token.specs.declared.context.Context.TheVariants as x
use Rattle.razor_token.specs.declared.context.Change.{Change}
use Rattle.razor_token.specs.declared.found.Found.{Found}
use Rattle.razor_token.specs.declared.piece.PieceKind.TheVariants as k
use Rattle.razor_token.specs.declared.runs.RunKind.TheVariants as r
use Rattle.razor_token.specs.Runs.{run, begins}
use Rattle.razor_token.specs.Tags.{held_by}
use Rattle.razor_token.specs.Contexts.{stays, leaves, enters, becomes}
use Rattle.razor_token.specs.Pieces.{piece, space}

-- how many characters the name of an attribute has: an at sign may stand first
abbrev pub name_count : List ℕ → ℕ
name_count text = if begins (codes "@") text then run r.AttributeName (drop 1 text) + 1 else run r.AttributeName text

-- a value follows the name, or none
abbrev pub name_change : Bool → List ℕ → List ℕ → Change
name_change component name behind = if begins (codes "=") behind then enters (x.Named (held_by component name)) else stays

-- the name of an attribute
abbrev pub attribute_of : Bool → ℕ → List ℕ → Option Found
attribute_of component count text =
    if count == 0 then None
    else piece (k.AttributeName (take count text)) count (name_change component (take count text) (drop count text))

-- in a start tag: white space, its end, or an attribute
unfoldable pub start_tag_at : Bool → Bool → List ℕ → Option Found
start_tag_at component void text =
    let white = run r.White text in
    if not (white == 0) then space white
    else if begins (codes "/>") text then piece k.EmptyTagEnd 2 leaves
    else if begins (codes ">") text then (if void then piece k.EmptyTagEnd 1 leaves else piece k.ContentStart 1 (becomes x.Element))
    else attribute_of component (name_count text) text

-- in an end tag: white space, or its end
unfoldable pub end_tag_at : List ℕ → Option Found
end_tag_at text =
    let white = run r.White text in
    if not (white == 0) then space white
    else if begins (codes ">") text then piece k.EndTagEnd 1 leaves
    else None
