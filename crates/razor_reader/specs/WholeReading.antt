-- How the content of a whole file is read.
use Rattle.std.specs.Prelude.{ℕ, zero, suc, ◌==◌, Bool, true, false, if◌then◌else◌, List, [], ◌∷◌, ◌++◌, length, Option, Some, None}
use Rattle.text_core.specs.declared.place.Place.{Place}
use Rattle.razor_token.specs.declared.piece.Piece.{Piece}
use Rattle.razor_ast.specs.Literals.{literal_run, place_of}
use Rattle.razor_reader.specs.declared.mark.Mark.{Mark}
use Rattle.razor_reader.specs.declared.mark.Mark.TheVariants as m
use Rattle.razor_reader.specs.declared.whole.Parts.{Parts}
use Rattle.razor_reader.specs.Marks.{mark_of}
use Rattle.razor_reader.specs.Reading.{Read, ◌>>=◌, after}
use Rattle.razor_reader.specs.TokenReading.{code_run}
use Rattle.razor_reader.specs.CodeReading.{members}
use Rattle.razor_reader.specs.ContentReading.{with_text, item_edge}
use Rattle.razor_reader.specs.ItemReading.{item_first}

-- the parts with an item more
abbrev pub item : List Piece → Parts → List Piece → Read Parts
item all parts ps = item_first all parts.number ps >>= λ x. Some (record parts { nodes = parts.nodes ++ x.0 ∷ []; number = x.1 }, x.2)

-- the parts with the members of `@code` behind its at sign
abbrev pub code : Parts → List Piece → Read Parts
code parts ps =
    after m.ExpressionEnd (code_run ps).1 >>= λ rest. (members (code_run ps).0 >>= λ found. Some (record parts { members = parts.members ++ found }, rest))

-- the pieces behind a directive
abbrev pub past_directive : List Piece → Option (List Piece)
past_directive ps = after m.DirectiveEnd (code_run ps).1

-- the parts with `@code` or a directive, by its mark
abbrev pub edge_by : Mark → Parts → List Piece → Read Parts
edge_by m.MembersAt parts ps = code parts ps
edge_by m.Directive parts ps = past_directive ps >>= λ rest. Some (parts, rest)
edge_by m.Implements parts ps = Some (record parts { disposes = true }, ps)
edge_by _ parts ps = None

abbrev pub edge : Parts → List Piece → Read Parts
edge parts [] = None
edge parts (p ∷ ps) = edge_by (mark_of p.kind) parts ps

-- the parts with a literal text before what stands behind it
abbrev pub text : Parts → Bool → Place → List ℕ → Parts
text parts behind p said =
    let x = with_text parts.nodes (parts.edge, behind) parts.number p said in
    record parts { nodes = x.0; number = x.1; edge = behind }

-- the parts with a literal text and what stands behind it
abbrev pub turn_by : Option Bool → List Piece → Parts → Place → List ℕ → List Piece → Read Parts
turn_by (Some behind) all parts p said rest = item all (text parts behind p said) rest
turn_by None all parts p said [] = Some (text parts true p said, [])
turn_by None all parts p said (q ∷ rest) = edge (text parts true p said) (q ∷ rest)

abbrev pub turn : List Piece → Parts → List Piece → Read Parts
turn all parts ps = turn_by (item_edge (literal_run ps).1) all parts (place_of ps) (literal_run ps).0 (literal_run ps).1

-- what at most so many turns give
unfoldable pub parts_in : List Piece → ℕ → Parts → List Piece → Option Parts
parts_in all n parts [] = Some parts
parts_in all zero parts (p ∷ ps) = None
parts_in all (suc n) parts (p ∷ ps) = turn all parts (p ∷ ps) >>= λ x. parts_in all n x.0 x.1

-- nothing yet
abbrev pub no_parts : Parts
no_parts = record { disposes = false; members = []; nodes = []; number = 0; edge = true }

-- the parts of a file
unfoldable pub parts : List Piece → Option Parts
parts all = parts_in all (length all) no_parts all
