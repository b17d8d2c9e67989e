-- How items of content are read, over the frames that wait for their parts.
use Rattle.std.specs.Prelude.{◌≡◌, ℕ, zero, suc, ◌+◌, ◌*◌, List, [], ◌∷◌, length, Option, Some, None, Result, Ok, Err}
use Rattle.std.specs.Borrow.{Bor}
use Rattle.razor_token.specs.declared.piece.Piece.{Piece}
use Rattle.razor_ast.specs.declared.node.TNode.{TNode}
use Rattle.razor_reader.specs.declared.frame.Frame.{Frame}
use Rattle.razor_reader.specs.declared.frame.Next.{Next}
use Rattle.razor_reader.specs.declared.frame.Next.TheVariants as nx
use Rattle.razor_reader.specs.declared.frame.Wanted.TheVariants as w
use Rattle.razor_reader.specs.declared.item.Turn.{Turn}
use Rattle.razor_reader.specs.declared.item.Turn.TheVariants as t
use Rattle.razor_reader.specs.declared.unread.Unread.{Unread}
use Rattle.razor_reader.specs.Reading.{Numbered, ◌>>=◌}
use Rattle.razor_reader.specs.BeginReading.{begin}
use Rattle.razor_reader.specs.ContentReading.{content}
use Rattle.razor_reader.specs.GoingReading.{block, section_on, switch, resume}

-- what a function returned goes on
abbrev pub Goes : Result (Next × ℕ × Bor (List Piece)) Unread → Result (Turn × ℕ × Bor (List Piece)) Unread → Type 0
Goes (Ok x) going = going ≡ Ok (t.Goes x.0, x.1, x.2)
Goes (Err e) going = going ≡ Err e

-- the frames round what follows, the innermost first, and what a turn comes to
abbrev pub Turned : Type 0
Turned = Option (List Frame × Turn × ℕ × List Piece)

-- the frames stay, and what is read goes on
abbrev pub over : List Frame → Numbered Next → Turned
over frames read = read >>= λ x. Some (frames, t.Goes x.0, x.1, x.2)

-- where a part is whole: what waits for it goes on
abbrev pub whole : List Frame → TNode → ℕ → List Piece → Turned
whole [] a n ps = Some ([], t.Whole a, n, ps)
whole (f ∷ frames) a n ps = over frames (resume f a n ps)

-- a turn
abbrev pub turn : List Piece → List Frame → Next → ℕ → List Piece → Turned
turn all frames (nx.Done a) n ps = whole frames a n ps
turn all frames (nx.Inside f wanted) n ps = over (f ∷ frames) (begin all wanted n ps)
turn all frames (nx.Content o) n ps = over frames (content o n ps)
turn all frames (nx.Block o) n ps = over frames (block o n ps)
turn all frames (nx.Switch o) n ps = over frames (switch o n ps)
turn all frames (nx.Section o) n ps = over frames (section_on o n ps)

-- what at most so many turns give
unfoldable pub turns : List Piece → ℕ → List Frame → Next → ℕ → List Piece → Numbered TNode
turns all zero frames next n ps = None
turns all (suc left) frames next n ps = turn all frames next n ps >>= λ x. elim x.1 [
  | t.Whole a ↦ Some (a, x.2, x.3)
  | t.Goes following ↦ turns all left x.0 following x.2 x.3
]

-- more turns than reading these pieces takes
abbrev pub turns_for : List Piece → ℕ
turns_for ps = 4 * length ps + 4

-- the part of content that stands first and isn't literal text
unfoldable pub item_first : List Piece → ℕ → List Piece → Numbered TNode
item_first all n ps = begin all w.Item n ps >>= λ x. turns all (turns_for ps) [] x.0 x.1 x.2
