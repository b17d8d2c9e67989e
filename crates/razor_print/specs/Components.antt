-- What is printed of a component.
use Rattle.std.specs.Prelude.{ℕ, Bool, true, false, ◌&&◌, if◌then◌else◌, List, [], ◌∷◌, ◌++◌, map, codes}
use Rattle.cs_ast.specs.declared.member.Member.{Member}
use Rattle.cs_print.specs.PrintedMembers.{members_kinds}
use Rattle.razor_token.specs.declared.piece.PieceKind.TheVariants as k
use Rattle.razor_ast.specs.declared.component.Component.{Component}
use Rattle.razor_print.specs.declared.before.Before.{Before}
use Rattle.razor_print.specs.declared.before.Before.TheVariants as before
use Rattle.razor_print.specs.Parts.{Parts, piece, tokens, in_block, expression_end, parts_text}
use Rattle.razor_print.specs.Nodes.{Printed, is_text, is_parted, parted, item, node}

-- the directive, with its line's end
abbrev pub implements : Bool → Parts
implements true = piece k.Implements (codes "@implements IDisposable" ++ 10 ∷ []) ∷ []
implements false = []

-- `@code` with these members, behind such a node
abbrev pub code_section : Before → List Member → Parts
code_section behind members =
    parted (is_parted behind true false) (piece k.MembersAt (codes "@code") ∷ (in_block (tokens (members_kinds members)) ++ expression_end ∷ []))

-- it, where there are members
abbrev pub members_section : Before → List Member → Parts
members_section behind [] = []
members_section behind (member ∷ members) = code_section behind (member ∷ members)

-- two texts of which one stands right behind the other are parted by an empty `@code`
abbrev pub parting : Before → Before → Parts
parting behind next = if is_text behind && is_text next then code_section behind [] else []

-- nodes of a file one behind another, the first behind such a node
abbrev pub file_from : Before → List Printed → Parts
file_from behind [] = []
file_from behind (x ∷ xs) = parting behind x.leaves ++ item behind x ++ file_from x.leaves xs

-- what the last of them is to what stands behind it
abbrev pub behind_all : Before → List Printed → Before
behind_all behind [] = behind
behind_all behind (x ∷ xs) = behind_all x.leaves xs

-- the parts of a file: the directive, the nodes, the members
unfoldable pub component_parts : Component → Parts
component_parts a =
    implements a.disposes
    ++ (file_from before.Other (map node a.nodes) ++ members_section (behind_all before.Other (map node a.nodes)) a.members)

-- the printed text
abbrev pub component_text : Component → List ℕ
component_text a = parts_text (component_parts a)
