-- Literal text: neighbouring pieces are one, and white space is dropped at the edges of lists and of code.
use Rattle.std.specs.Prelude.{ℕ, Bool, true, false, not, ◌&&◌, ◌||◌, ◌==◌, List, [], ◌∷◌, ◌++◌, Option, Some, None, if◌then◌else◌}
use Rattle.std.specs.List.{list_all, list_any}
use Rattle.text_core.specs.declared.place.Place.{Place}
use Rattle.cs_token.specs.declared.characters.Class.TheVariants as class
use Rattle.cs_token.specs.Characters.{is_in}
use Rattle.cs_token.specs.Places.{first_place}
use Rattle.razor_token.specs.declared.piece.Piece.{Piece}
use Rattle.razor_token.specs.declared.piece.PieceKind.{PieceKind}
use Rattle.razor_token.specs.declared.piece.PieceKind.TheVariants as k
use Rattle.razor_ast.specs.declared.node.TNode.{TNode}
use Rattle.razor_ast.specs.declared.node.TNode.TheVariants as nd

-- what a literal piece says
abbrev pub literal_of : PieceKind → Option (List ℕ)
literal_of (k.Literal text) = Some text
literal_of _ = None

-- one literal piece more, if it is one
abbrev pub with_literal : Option (List ℕ) → Piece → List Piece → List ℕ × List Piece → List ℕ × List Piece
with_literal (Some text) p ps run = (text ++ run.0, run.1)
with_literal None p ps run = ([], p ∷ ps)

-- what the literal pieces at the front say together, and the pieces behind them
abbrev pub literal_run : List Piece → List ℕ × List Piece
literal_run [] = ([], [])
literal_run (p ∷ ps) = with_literal (literal_of p.kind) p ps (literal_run ps)

-- where the first piece stands
abbrev pub place_of : List Piece → Place
place_of [] = first_place
place_of (p ∷ ps) = p.place

-- code with markup, `@code` and directives, beside which white space is dropped
abbrev pub is_edge : PieceKind → Bool
is_edge k.CodeAt = true
is_edge k.MembersAt = true
is_edge k.Directive = true
is_edge k.Implements = true
is_edge _ = false

-- white space alone
abbrev pub is_white : List ℕ → Bool
is_white text = list_all (is_in class.White) text

-- there is a text, and it stays: it isn't white space alone with an edge right before it or right behind it
abbrev pub is_kept : Bool → Bool → List ℕ → Bool
is_kept before behind [] = false
is_kept before behind (c ∷ text) = not (is_white (c ∷ text) && (before || behind))

-- an ampersand stands in it
abbrev pub is_raw : List ℕ → Bool
is_raw text = list_any (λ c. c == 38) text

-- the node of a literal text
abbrev pub text_node : ℕ → Place → List ℕ → TNode
text_node n p text = if is_raw text then nd.Raw n p text else nd.Text n p text

-- the node of the text between two edges, or none
abbrev pub text_nodes : Bool → Bool → ℕ → Place → List ℕ → List TNode
text_nodes before behind n p text = if is_kept before behind text then text_node n p text ∷ [] else []
