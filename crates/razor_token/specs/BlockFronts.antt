-- What stands at the front of code with markup.
use Rattle.std.specs.Prelude.{ℕ, Bool, true, false, ◌&&◌, ◌==◌, List, drop, codes, Option, Some, None, if◌then◌else◌}
use Rattle.std.specs.Str.{bytes_eq}
use Rattle.cs_token.specs.declared.around.Around.{Around}
use Rattle.cs_token.specs.declared.token.Sign.{Sign}
use Rattle.cs_token.specs.declared.token.Sign.TheVariants as s
use Rattle.cs_token.specs.declared.token.TokenKind.{TokenKind}
use Rattle.cs_token.specs.declared.token.TokenKind.TheVariants as t
use Rattle.cs_token.specs.declared.token.Word.TheVariants as w
use Rattle.razor_token.specs.declared.context.Context.TheVariants as x
use Rattle.razor_token.specs.declared.context.Change.{Change}
use Rattle.razor_token.specs.declared.context.Point.{Point}
use Rattle.razor_token.specs.declared.context.Point.TheVariants as point
use Rattle.razor_token.specs.declared.found.CodeFront.{CodeFront}
use Rattle.razor_token.specs.declared.found.Found.{Found}
use Rattle.razor_token.specs.declared.piece.PieceKind.TheVariants as k
use Rattle.razor_token.specs.declared.runs.RunKind.TheVariants as r
use Rattle.razor_token.specs.Runs.{run, begins}
use Rattle.razor_token.specs.Contexts.{stays, leaves, enters, becomes, becomes_both}
use Rattle.razor_token.specs.Pieces.{piece}
use Rattle.razor_token.specs.CodeFronts.{code_front, code_piece}
use Rattle.razor_token.specs.ContentFronts.{shown_at, is_code_word, word_behind, tag_of}

-- what a token changes in the head of code with markup: a brace begins its block, and `else` may follow that of an `if`
abbrev pub head_change : Bool → TokenKind → Change
head_change with_else (t.Sign s.OpenBrace) = becomes (x.Block point.Begins with_else)
head_change with_else (t.Sign s.OpenRound) = enters (x.Bracket None false)
head_change with_else (t.Sign s.OpenSquare) = enters (x.Bracket None false)
head_change with_else (t.Word w.If) = becomes (x.Head true)
head_change with_else (t.Word w.Else) = becomes (x.Head false)
head_change with_else _ = stays

-- the same for white space and comments, and inside an interpolated text
abbrev pub head_change_of : Bool → Option Around → Option TokenKind → Change
head_change_of with_else None (Some kind) = head_change with_else kind
head_change_of with_else _ _ = stays

-- in a head
abbrev pub head_piece : Bool → Option Around → Option CodeFront → Option Found
head_piece with_else around None = None
head_piece with_else around (Some front) = code_piece front (head_change_of with_else around front.token)

unfoldable pub head_at : Bool → Option Around → List ℕ → Option Found
head_at with_else around text = head_piece with_else around (code_front around text)

-- the word `else` follows behind white space
abbrev pub else_follows : List ℕ → Bool
else_follows text =
    let rest = drop (run r.White text) text in
    begins (codes "else") rest && (run r.Word rest == 4)

-- a block ends before this text; behind that of an `if` the word `else` goes on
abbrev pub end_change : Bool → List ℕ → Change
end_change with_else behind = if with_else && else_follows behind then becomes (x.Head false) else leaves

-- what a brace begins: a statement's block, or the parts behind `with`
abbrev pub brace_change : Point → Bool → Change
brace_change point.BehindWith with_else = becomes_both (x.Block point.Within with_else) (x.Bracket None false)
brace_change _ with_else = becomes_both (x.Block point.Begins with_else) (x.Block point.Begins false)

-- what a sign changes in a block, with this text behind it: a statement begins behind `;`, a colon and a block
abbrev pub block_sign : Point → Bool → Sign → List ℕ → Change
block_sign at with_else s.OpenBrace behind = brace_change at with_else
block_sign at with_else s.CloseBrace behind = end_change with_else behind
block_sign at with_else s.OpenRound behind = becomes_both (x.Block point.Within with_else) (x.Bracket None false)
block_sign at with_else s.OpenSquare behind = becomes_both (x.Block point.Within with_else) (x.Bracket None false)
block_sign at with_else s.Semicolon behind = becomes (x.Block point.Begins with_else)
block_sign at with_else s.Colon behind = becomes (x.Block point.Begins with_else)
block_sign at with_else _ behind = becomes (x.Block point.Within with_else)

-- the point behind a name
abbrev pub behind_name : List ℕ → Point
behind_name name = if bytes_eq name (codes "with") then point.BehindWith else point.Within

-- what a token changes in a block
abbrev pub block_change : Point → Bool → TokenKind → List ℕ → Change
block_change at with_else (t.Sign sign) behind = block_sign at with_else sign behind
block_change at with_else (t.Name name) behind = becomes (x.Block (behind_name name) with_else)
block_change at with_else _ behind = becomes (x.Block point.Within with_else)

-- the same for white space and comments, and inside an interpolated text
abbrev pub block_change_of : Point → Bool → Option Around → Option TokenKind → List ℕ → Change
block_change_of at with_else None (Some kind) behind = block_change at with_else kind behind
block_change_of at with_else _ _ behind = stays

-- code of a statement
abbrev pub statement_piece : Point → Bool → Option Around → List ℕ → Option CodeFront → Option Found
statement_piece at with_else around text None = None
statement_piece at with_else around text (Some front) =
    code_piece front (block_change_of at with_else around front.token (drop front.count text))

unfoldable pub statement_at : Point → Bool → Option Around → List ℕ → Option Found
statement_at at with_else around text = statement_piece at with_else around text (code_front around text)

-- an at sign where a statement begins: a line, which doesn't stand in a line, code with markup, or an expression
unfoldable pub block_at_sign : Bool → List ℕ → Option Found
block_at_sign in_line text =
    if begins (codes "@:") text then (if in_line then None else piece k.LineStart 2 (enters x.Line))
    else if is_code_word (word_behind text) then piece k.CodeAt 1 stays
    else shown_at text

-- a statement begins here
abbrev pub is_beginning : Point → Bool
is_beginning point.Begins = true
is_beginning _ = false

-- in a block; markup stands where a statement begins
unfoldable pub block_at : Bool → Point → Bool → Option Around → List ℕ → Option Found
block_at in_line at with_else around text =
    if is_beginning at && begins (codes "@") text then block_at_sign in_line text
    else if is_beginning at && begins (codes "<") text then tag_of (run r.TagName (drop 1 text)) text
    else statement_at at with_else around text
