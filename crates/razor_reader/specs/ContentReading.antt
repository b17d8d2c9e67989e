-- How content goes on.
use Rattle.std.specs.Prelude.{ℕ, ◌+◌, Bool, true, false, if◌then◌else◌, codes, List, [], ◌∷◌, ◌++◌, Option, Some, None}
use Rattle.std.specs.Str.{bytes_eq}
use Rattle.text_core.specs.declared.place.Place.{Place}
use Rattle.razor_token.specs.declared.piece.Piece.{Piece}
use Rattle.razor_token.specs.declared.piece.PieceKind.{PieceKind}
use Rattle.razor_token.specs.declared.piece.PieceKind.TheVariants as k
use Rattle.razor_ast.specs.declared.node.TNode.{TNode}
use Rattle.razor_ast.specs.declared.node.TNode.TheVariants as nd
use Rattle.razor_ast.specs.Literals.{literal_run, place_of, is_kept, text_node}
use Rattle.razor_reader.specs.declared.frame.Frame.TheVariants as fr
use Rattle.razor_reader.specs.declared.frame.Next.{Next}
use Rattle.razor_reader.specs.declared.frame.Next.TheVariants as nx
use Rattle.razor_reader.specs.declared.frame.OpenContent.{OpenContent}
use Rattle.razor_reader.specs.declared.frame.OpenTag.{OpenTag}
use Rattle.razor_reader.specs.declared.frame.Owner.{Owner}
use Rattle.razor_reader.specs.declared.frame.Owner.TheVariants as owner
use Rattle.razor_reader.specs.declared.frame.Wanted.TheVariants as w
use Rattle.razor_reader.specs.declared.mark.Mark.{Mark}
use Rattle.razor_reader.specs.declared.mark.Mark.TheVariants as m
use Rattle.razor_reader.specs.Marks.{mark_of}
use Rattle.razor_reader.specs.Reading.{Numbered, ◌>>=◌, after, past_space}
use Rattle.razor_reader.specs.BeginReading.{tag_node}

-- the nodes with that of a text between two edges, where it stays, and the next number
abbrev pub with_text : List TNode → Bool × Bool → ℕ → Place → List ℕ → List TNode × ℕ
with_text found edges n p text = if is_kept edges.0 edges.1 text then (found ++ text_node n p text ∷ [], n + 1) else (found, n)

-- an item of content by its mark, and whether it is an edge
abbrev pub edge_of : Mark → Option Bool
edge_of m.TagStart = Some false
edge_of m.At = Some false
edge_of m.CodeAt = Some true
edge_of _ = None

abbrev pub item_edge : List Piece → Option Bool
item_edge [] = None
item_edge (p ∷ ps) = edge_of (mark_of p.kind)

-- the pieces behind an end tag of this name
abbrev pub end_tag_by : List ℕ → PieceKind → List Piece → Option (List Piece)
end_tag_by name (k.EndTagStart found) ps = if bytes_eq found name then after m.EndTagEnd (past_space ps) else None
end_tag_by name _ ps = None

abbrev pub end_tag : List ℕ → List Piece → Option (List Piece)
end_tag name [] = None
end_tag name (p ∷ ps) = end_tag_by name p.kind ps

abbrev pub end_of_tag : OpenTag → List TNode → ℕ → List Piece → Numbered Next
end_of_tag o found n ps = end_tag o.name.name ps >>= λ rest. Some (nx.Done (tag_node o found), n, rest)

abbrev pub is_text_end : PieceKind → Bool
is_text_end (k.EndTagStart name) = bytes_eq name (codes "text")
is_text_end _ = false

abbrev pub end_of_group : Place → List TNode → ℕ → List Piece → Numbered Next
end_of_group p items n [] = None
end_of_group p items n (c ∷ ps) =
    if is_text_end c.kind then (after m.EndTagEnd (past_space ps) >>= λ rest. Some (nx.Done (nd.Group p items), n, rest)) else None

abbrev pub end_of_line : Place → List TNode → ℕ → List Piece → Numbered Next
end_of_line p items n ps = after m.LineEnd ps >>= λ rest. Some (nx.Done (nd.Group p items), n, rest)

-- the end of content
abbrev pub end_of : Owner → List TNode → ℕ → List Piece → Numbered Next
end_of (owner.Tag o) found n ps = end_of_tag o found n ps
end_of (owner.Group p) found n ps = end_of_group p found n ps
end_of (owner.Line p) found n ps = end_of_line p found n ps

-- behind a literal text: an item, which is an edge or not, or the end
abbrev pub content_by : Option Bool → OpenContent → ℕ → Place → List ℕ → List Piece → Numbered Next
content_by (Some behind) o n p text rest =
    let x = with_text o.found (o.edge, behind) n p text in
    Some (nx.Inside (fr.Content (record { owner = o.owner; edge = behind; found = x.0 })) w.Item, x.1, rest)
content_by None o n p text rest = let x = with_text o.found (o.edge, true) n p text in end_of o.owner x.0 x.1 rest

-- in content: a literal text, and then an item or the end
abbrev pub content : OpenContent → ℕ → List Piece → Numbered Next
content o n ps = content_by (item_edge (literal_run ps).1) o n (place_of ps) (literal_run ps).0 (literal_run ps).1
