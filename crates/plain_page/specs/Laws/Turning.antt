-- Bytes take a page to one page, with one list of counts.
use Rattle.std.proofs.Common.{◌≡◌, ℕ, ◌≤◌, List, [], length, Option, Some, arith, sym, ◌∙◌, ap, append-nil}
use Rattle.page_core.specs.declared.counts.Counts.{Counts}
use Rattle.page_core.specs.declared.node.Node.{Node}
use Rattle.page_core.specs.declared.node.Page.{Page}
use Rattle.plain_page.specs.declared.page_tree.PageTree.{PageTree}
use Rattle.plain_page.specs.Reading.{nodes_at}
use Rattle.plain_page.specs.Spelling.{spelled_nodes, Spells}
use Rattle.plain_page.specs.Turning.{counts_between, Turned}
use Rattle.plain_page.specs.Laws.Reading.{nodes_complete}

-- what bytes spell is read from them
pub read_of-Spells : (bytes : List ℕ) (nodes : List Node) → Spells bytes nodes → nodes_at (length bytes) bytes ≡ Some (nodes, [])
read_of-Spells bytes nodes spells =
    let enough : length (spelled_nodes nodes) ≤ length bytes = omega (arith, ap length spells.bytes_are) in
    ap (nodes_at (length bytes)) (spells.bytes_are ∙ sym (append-nil (spelled_nodes nodes)))
    ∙ nodes_complete (length bytes) nodes [] spells.plain spells.stored enough

-- bytes spell one page
pub Spells-one : (bytes : List ℕ) (nodes others : List Node) → Spells bytes nodes → Spells bytes others → nodes ≡ others
Spells-one bytes nodes others one other =
    let both : (let found : Option (List Node × List ℕ) = Some (nodes, []) in found) ≡ Some (others, []) =
    sym (read_of-Spells bytes nodes one) ∙ read_of-Spells bytes others other in
    let parts : (nodes, []) ≡ (others, []) = cc in
    ap (λ (x : List Node × List ℕ). x.0) parts

pub one_tree : (number : ℕ) (bytes : List ℕ) (before after other : PageTree) (counts others : Counts) →
    Turned number bytes before after counts → Turned number bytes before other others → after ≡ other
one_tree number bytes before after other counts others one two =
    let tree : List Node → PageTree = λ nodes. let page : Page = record { nodes = nodes } in record { page = page } in
    ap tree (Spells-one bytes after.page.nodes other.page.nodes one.spelled two.spelled)

pub one_count : (number : ℕ) (bytes : List ℕ) (before after other : PageTree) (counts others : Counts) →
    Turned number bytes before after counts → Turned number bytes before other others → counts ≡ others
one_count number bytes before after other counts others one two =
    let same = Spells-one bytes after.page.nodes other.page.nodes one.spelled two.spelled in
    let both : Some counts ≡ Some others = sym one.counted ∙ ap (counts_between number before.page.nodes) same ∙ two.counted in
    cc
