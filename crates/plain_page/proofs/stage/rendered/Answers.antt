use Rattle.std.proofs.Common.{◌≡◌, true, ◌≤◌, length}
use Rattle.std.specs.Coded.{le_prop}
use Rattle.std.proofs.Math.Logic.{∥∥₁_elim}
use Rattle.std.proofs.Math.Bool.{Bool-set}
use Rattle.first_click.specs.Rendering.{fresh_nodes}
use Rattle.plain_page.specs.Plain.{are_plain}
use Rattle.plain_page.specs.Spelling.{spelled_nodes}
use Rattle.plain_page.proofs.FreshLemmas.{fresh_plain, fresh_few}
use Rattle.plain_page.proofs.stage.rendered.Goals as goal

pub put_nodes-requires-clause-plain : goal.put_nodes-requires-clause-plain
put_nodes-requires-clause-plain c =
    rw (c.as_slice.ensures, c.in_ok-nodes.ensures)
    (∥∥₁_elim c.requires.able (Bool-set _ _) (λ numbers. fresh_plain c.args.items.now c.args.fields.now numbers c.requires.light))

pub returns : goal.returns
returns c =
    let few : length (spelled_nodes (fresh_nodes 1 c.args.fields.now c.args.items.now)) ≤ 33554368 =
    ∥∥₁_elim c.requires.able le_prop (λ numbers. fresh_few c.args.items.now c.args.fields.now numbers c.requires.light) in
    let plain : are_plain (fresh_nodes 1 c.args.fields.now c.args.items.now) ≡ true =
    ∥∥₁_elim c.requires.able (Bool-set _ _) (λ numbers. fresh_plain c.args.items.now c.args.fields.now numbers c.requires.light) in
    let put = rw (c.new-bytes.ensures.items, c.as_slice.ensures, c.in_ok-nodes.ensures) at c.in_ok-put_nodes.ensures.put in
    let stored = rw (c.as_slice.ensures, c.in_ok-nodes.ensures) at c.in_ok-put_nodes.ensures.stored in
    record { bytes_are = put; plain = plain; stored = stored; few = rw put few }
