-- How tags and what else stands in content and in code begin.
use Rattle.std.specs.Prelude.{ℕ, ◌+◌, Bool, true, false, not, ◌&&◌, if◌then◌else◌, codes, List, [], ◌∷◌, Option, Some, None}
use Rattle.std.specs.Str.{bytes_eq}
use Rattle.text_core.specs.declared.place.Place.{Place}
use Rattle.razor_token.specs.Tags.{is_component}
use Rattle.razor_token.specs.declared.piece.Piece.{Piece}
use Rattle.razor_token.specs.declared.piece.PieceKind.{PieceKind}
use Rattle.razor_token.specs.declared.piece.PieceKind.TheVariants as k
use Rattle.razor_ast.specs.declared.attribute.Attribute.{Attribute}
use Rattle.razor_ast.specs.declared.node.TNode.{TNode}
use Rattle.razor_ast.specs.declared.node.TNode.TheVariants as nd
use Rattle.razor_ast.specs.Literals.{place_of}
use Rattle.razor_ast.specs.Nodes.{name_at}
use Rattle.razor_reader.specs.declared.frame.Jumps.{Jumps}
use Rattle.razor_reader.specs.declared.frame.Next.{Next}
use Rattle.razor_reader.specs.declared.frame.Next.TheVariants as nx
use Rattle.razor_reader.specs.declared.frame.OpenTag.{OpenTag}
use Rattle.razor_reader.specs.declared.frame.Owner.{Owner}
use Rattle.razor_reader.specs.declared.frame.Owner.TheVariants as owner
use Rattle.razor_reader.specs.declared.frame.Wanted.{Wanted}
use Rattle.razor_reader.specs.declared.frame.Wanted.TheVariants as w
use Rattle.razor_reader.specs.declared.mark.Mark.TheVariants as m
use Rattle.razor_reader.specs.Reading.{Numbered, ◌>>=◌, has, after, past_space}
use Rattle.razor_reader.specs.NameReading.{is_element_name}
use Rattle.razor_reader.specs.AttributeReading.{shown_first, attributes_first}
use Rattle.razor_reader.specs.StatementReading.{nowhere, statement}

-- a content expression
abbrev pub shown : ℕ → Place → List Piece → Numbered Next
shown n p ps = shown_first ps >>= λ x. Some (nx.Done (nd.Content n p x.0), n + 1, x.1)

-- a tag with what stands in it
abbrev pub node_of : Bool → OpenTag → List TNode → TNode
node_of true o children = nd.Child o.number o.place o.name o.attributes children
node_of false o children = nd.Element o.number o.place o.name o.attributes children

abbrev pub tag_node : OpenTag → List TNode → TNode
tag_node o children = node_of o.component o children

-- content begins
abbrev pub content_in : Owner → Next
content_in o = nx.Content (record { owner = o; edge = true; found = [] })

-- a tag behind its attributes and white space: its end, or its content
abbrev pub ended_or : OpenTag → ℕ → List Piece → Option (List Piece) → Numbered Next
ended_or o n ps (Some rest) = Some (nx.Done (tag_node o []), n, rest)
ended_or o n ps None = after m.ContentStart ps >>= λ rest. Some (content_in (owner.Tag o), n, rest)

abbrev pub opened : OpenTag → ℕ → List Piece → Numbered Next
opened o n ps = ended_or o n (past_space ps) (after m.EmptyTagEnd (past_space ps))

-- a tag of this name with these attributes
abbrev pub open_tag : ℕ → Piece → List ℕ → List Attribute → OpenTag
open_tag n p name attributes = record { number = n; place = p.place; name = name_at p name; component = is_component name; attributes = attributes }

-- a tag of this name behind it
abbrev pub tag : List Piece → ℕ → Piece → List ℕ → List Piece → Numbered Next
tag all n p name ps =
    if not (is_element_name name) then None
    else (attributes_first all (is_component name) (n + 1) ps >>= λ x. opened (open_tag n p name x.0) x.1 x.2)

-- content behind `<text` in code
abbrev pub group : ℕ → Place → List Piece → Numbered Next
group n p ps = after m.ContentStart (past_space ps) >>= λ rest. Some (content_in (owner.Group p), n, rest)

-- a tag in code, or `<text>`
abbrev pub tag_in_code : List Piece → ℕ → Piece → List ℕ → List Piece → Numbered Next
tag_in_code all n p name ps = if bytes_eq name (codes "text") then group n p.place ps else tag all n p name ps

-- a part of content that isn't literal text, by its first piece
abbrev pub item_by : List Piece → ℕ → PieceKind → Piece → List Piece → Numbered Next
item_by all n (k.TagStart name) p ps = tag all n p name ps
item_by all n k.At p ps = shown n p.place (p ∷ ps)
item_by all n k.CodeAt p ps = statement true p.place nowhere n ps
item_by all n _ p ps = None

abbrev pub item : List Piece → ℕ → List Piece → Numbered Next
item all n [] = None
item all n (p ∷ ps) = item_by all n p.kind p ps

-- a statement of a block, or what besides may stand there
abbrev pub line_by : List Piece → Jumps → ℕ → PieceKind → Piece → List Piece → Numbered Next
line_by all j n (k.TagStart name) p ps = tag_in_code all n p name ps
line_by all j n k.At p ps = shown n p.place (p ∷ ps)
line_by all j n k.LineStart p ps = Some (content_in (owner.Line p.place), n, ps)
line_by all j n k.CodeAt p ps = statement false p.place j n ps
line_by all j n (k.Code kind) p ps = statement false p.place j n (p ∷ ps)
line_by all j n _ p ps = None

abbrev pub line : List Piece → Jumps → ℕ → List Piece → Numbered Next
line all j n [] = None
line all j n (p ∷ ps) = line_by all j n p.kind p ps

-- the body of a statement
abbrev pub body : Bool → Jumps → ℕ → List Piece → Numbered Next
body braced j n ps = if braced && not (has m.OpenBrace ps) then None else statement braced (place_of ps) j n ps

-- what stands behind `else`
abbrev pub otherwise : Bool → Jumps → ℕ → List Piece → Numbered Next
otherwise braced j n ps = if has m.If ps then statement braced (place_of ps) j n ps else body braced j n ps

-- what is wanted
abbrev pub begin : List Piece → Wanted → ℕ → List Piece → Numbered Next
begin all w.Item n ps = item all n ps
begin all (w.Line j) n ps = line all j n ps
begin all (w.Body braced j) n ps = body braced j n ps
begin all (w.Otherwise braced j) n ps = otherwise braced j n ps
