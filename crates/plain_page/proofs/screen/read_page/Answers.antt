use Rattle.std.proofs.Common.{sym, ◌∙◌, ap, arith, ℕ, List, Some, Option}
use Rattle.std.proofs.lemmas.List.{nil_from_length}
use Rattle.page_core.specs.declared.node.Node.{Node}
use Rattle.plain_page.proofs.TurningLemmas.{Spells-read, read_before, unread}
use Rattle.plain_page.proofs.screen.read_page.Goals as goal

pub returns-in_default : goal.returns-in_default
returns-in_default c nodes = unread c.args.bytes.now nodes (sym (rw c.in_default.is at c.in_ok-nodes.ensures))

pub returns-in-empty : goal.returns-in-empty
returns-in-empty c =
    let rest = c.in-Some.rest.now in
    let none = nil_from_length c.in-Some.rest.now (omega arith) in
    let found = rw c.in-Some.is at c.in_ok-nodes.ensures in
    Spells-read c.args.bytes.now c.in-Some.nodes (λ i. omega (arith, c.type_inv.bytes i)) (omega arith)
    (sym found ∙ ap (λ (more : List ℕ). let all : Option (List Node × List ℕ) = Some (c.in-Some.nodes, more) in all) none)

pub returns-in-len1-up : goal.returns-in-len1-up
returns-in-len1-up c others spells =
    read_before c.args.bytes.now c.in-Some.nodes others c.in-Some.rest.now (sym (rw c.in-Some.is at c.in_ok-nodes.ensures)) c.in-len1-up.len_at_least spells
