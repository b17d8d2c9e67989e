-- How code with markup goes on.
use Rattle.std.specs.Prelude.{ℕ, ◌-◌, Bool, true, false, not, ◌||◌, nat_lt, if◌then◌else◌, List, [], ◌∷◌, ◌++◌, Option, Some, None}
use Rattle.text_core.specs.declared.place.Place.{Place}
use Rattle.cs_ast.specs.declared.expression.Label.{Label}
use Rattle.cs_ast.specs.declared.expression.Stmt.{Stmt}
use Rattle.cs_ast.specs.declared.expression.StmtKind.{StmtKind-F, out-StmtKind}
use Rattle.cs_grammar.specs.Statements.{defaults}
use Rattle.razor_token.specs.declared.piece.Piece.{Piece}
use Rattle.razor_ast.specs.declared.node.TNode.{TNode, TNode-F, out-TNode}
use Rattle.razor_ast.specs.declared.node.TNode.TheVariants as nd
use Rattle.razor_ast.specs.Statements.{section}
use Rattle.razor_reader.specs.declared.frame.Frame.{Frame}
use Rattle.razor_reader.specs.declared.frame.Frame.TheVariants as fr
use Rattle.razor_reader.specs.declared.frame.Next.{Next}
use Rattle.razor_reader.specs.declared.frame.Next.TheVariants as nx
use Rattle.razor_reader.specs.declared.frame.OpenBlock.{OpenBlock}
use Rattle.razor_reader.specs.declared.frame.OpenContent.{OpenContent}
use Rattle.razor_reader.specs.declared.frame.OpenSection.{OpenSection}
use Rattle.razor_reader.specs.declared.frame.OpenSwitch.{OpenSwitch}
use Rattle.razor_reader.specs.declared.frame.Wanted.TheVariants as w
use Rattle.razor_reader.specs.declared.go_on.Branch.{Branch}
use Rattle.razor_reader.specs.declared.mark.Mark.TheVariants as m
use Rattle.razor_reader.specs.Reading.{Numbered, ◌>>=◌, has, after}
use Rattle.razor_reader.specs.HeadReading.{has_label, labels_first}

-- a list of statements ends here
abbrev pub ends : List Piece → Bool
ends ps = has m.CloseBrace ps || has_label ps

-- in a block: a statement, or its end
abbrev pub block : OpenBlock → ℕ → List Piece → Numbered Next
block o n ps =
    if not (ends ps) then Some (nx.Inside (fr.Block o) (w.Line o.jumps), n, ps)
    else (after m.CloseBrace ps >>= λ rest. Some (nx.Done (nd.Block o.place o.found), n, rest))

-- a `break` or a `return`
abbrev pub leaves_by : Stmt → Bool
leaves_by a = elim (out-StmtKind a.kind) [ StmtKind-F.Break ↦ true | StmtKind-F.Return value ↦ true | _ ↦ false ]

abbrev pub node_leaves : TNode → Bool
node_leaves node = elim (out-TNode node) [ TNode-F.Statement a ↦ leaves_by a | _ ↦ false ]

-- the last of the nodes is one
abbrev pub leaves : List TNode → Bool
leaves [] = false
leaves (a ∷ []) = node_leaves a
leaves (a ∷ b ∷ others) = leaves (b ∷ others)

-- the `switch` with the section that ends
abbrev pub switch_with : OpenSection → OpenSwitch
switch_with o = record o.before { sections = o.before.sections ++ section o.labels o.found ∷ [] }

-- in a section: a statement, or its end
abbrev pub section_on : OpenSection → ℕ → List Piece → Numbered Next
section_on o n ps =
    if not (ends ps) then Some (nx.Inside (fr.Section o) (w.Line o.before.jumps), n, ps)
    else if not (leaves o.found) then None else Some (nx.Switch (switch_with o), n, ps)

-- a section that begins
abbrev pub section_of : OpenSwitch → List Label → OpenSection
section_of o labels = record { before = record o { room = o.room - defaults labels }; labels = labels; found = [] }

abbrev pub labelled : OpenSwitch → ℕ → List Piece → Numbered Next
labelled o n ps = labels_first ps >>= λ x. if nat_lt o.room (defaults x.0) then None else Some (nx.Section (section_of o x.0), n, x.1)

-- in a `switch`: a section, or its end
abbrev pub switch : OpenSwitch → ℕ → List Piece → Numbered Next
switch o n ps =
    if has_label ps then labelled o n ps
    else (after m.CloseBrace ps >>= λ rest. Some (nx.Done (nd.Switch o.place o.value o.sections), n, rest))

-- behind the first branch of an `if`
abbrev pub branched_by : Option (List Piece) → Branch → ℕ → List Piece → Numbered Next
branched_by (Some rest) b n ps = Some (nx.Inside (fr.No b.place b.condition b.first) (w.Otherwise b.braced b.jumps), n, rest)
branched_by None b n ps = Some (nx.Done (nd.If b.place b.condition b.first None), n, ps)

abbrev pub branched : Branch → ℕ → List Piece → Numbered Next
branched b n ps = branched_by (after m.Else ps) b n ps

-- a part more
abbrev pub content_with : OpenContent → TNode → Next
content_with o a = nx.Content (record o { found = o.found ++ a ∷ [] })

abbrev pub block_with : OpenBlock → TNode → Next
block_with o a = nx.Block (record o { found = o.found ++ a ∷ [] })

abbrev pub section_with : OpenSection → TNode → Next
section_with o a = nx.Section (record o { found = o.found ++ a ∷ [] })

-- behind a part inside another one
abbrev pub resume : Frame → TNode → ℕ → List Piece → Numbered Next
resume (fr.Content o) a n ps = Some (content_with o a, n, ps)
resume (fr.Block o) a n ps = Some (block_with o a, n, ps)
resume (fr.Section o) a n ps = Some (section_with o a, n, ps)
resume (fr.Yes braced p j x) a n ps = branched (record { braced = braced; place = p; jumps = j; condition = x; first = a }) n ps
resume (fr.No p x first) a n ps = Some (nx.Done (nd.If p x first (Some a)), n, ps)
resume (fr.While i p x) a n ps = Some (nx.Done (nd.While i p x a), n, ps)
resume (fr.For i p start condition step) a n ps = Some (nx.Done (nd.For i p start condition step a), n, ps)
resume (fr.ForEach i p name list) a n ps = Some (nx.Done (nd.ForEach i p name list a), n, ps)
