-- How deeply pieces nest, and where a list of pieces first nests too deeply.
use Rattle.std.specs.Prelude.{ℕ, List, [], ◌∷◌, sum, nat_lt, Option, Some, None, if◌then◌else◌}
use Rattle.text_core.specs.declared.place.Place.{Place}
use Rattle.cs_grammar.specs.Nesting as code
use Rattle.razor_token.specs.declared.piece.Piece.{Piece}
use Rattle.razor_token.specs.declared.piece.PieceKind.{PieceKind}
use Rattle.razor_token.specs.declared.piece.PieceKind.TheVariants as k

-- What the open brackets, blocks and tags count behind a piece, innermost first. A tag is open from its `<` to its end or to its end tag;
-- code counts as it does by itself.
abbrev pub behind : PieceKind → List ℕ → List ℕ
behind (k.Code kind) open_ones = code.behind kind open_ones
behind (k.TagStart name) open_ones = 1 ∷ open_ones
behind k.EmptyTagEnd open_ones = code.closed open_ones
behind (k.EndTagStart name) open_ones = code.closed open_ones
behind _ open_ones = open_ones

-- the first place behind which the sum is above 200, with these open
abbrev pub too_deep_from : List ℕ → List Piece → Option Place
too_deep_from open_ones [] = None
too_deep_from open_ones (p ∷ ps) =
    if nat_lt 200 (sum (behind p.kind open_ones)) then Some p.place else too_deep_from (behind p.kind open_ones) ps

-- the first place of the pieces at which the nesting is above 200
unfoldable pub too_deep : List Piece → Option Place
too_deep ps = too_deep_from [] ps

-- what is open behind all pieces that begin before this character
abbrev pub open_before : ℕ → List ℕ → List Piece → List ℕ
open_before start open_ones [] = open_ones
open_before start open_ones (p ∷ ps) = if nat_lt p.start start then open_before start (behind p.kind open_ones) ps else open_ones

-- what is open at a piece
unfoldable pub open_at : List Piece → Piece → List ℕ
open_at ps p = open_before p.start [] ps
