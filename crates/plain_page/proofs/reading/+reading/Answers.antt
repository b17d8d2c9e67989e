use Rattle.std.proofs.Common.{sym, ap, ◌∙◌, arith, option_map}
use Rattle.std.proofs.lemmas.List.{nil_from_length}
use Rattle.plain_page.specs.Reading.{nodes_at}
use Rattle.plain_page.specs.Laws.Reading.{behind, ends_siblings, no_sibling, one_sibling, no_bytes, nodes_at-none}
use Rattle.plain_page.proofs.reading.+reading.Goals as goal

pub nodes_at-returns-in_default : goal.nodes_at-returns-in_default
nodes_at-returns-in_default t c =
    let l = c.loop-left in
    let empty = nil_from_length l.rest.now c.in_default.ensures.cases in
    sym (no_bytes l.left l.nodes c.loop-left-test.true) ∙ ap (λ bytes. option_map (behind l.nodes) (nodes_at l.left bytes)) (sym empty) ∙ l.invariant.read

pub nodes_at-returns-then-kind-eq-END : goal.nodes_at-returns-then-kind-eq-END
nodes_at-returns-then-kind-eq-END t c =
    let l = c.loop-left in
    let e = c.in-Some in
    sym (ends_siblings l.left l.nodes e.kind.now e.behind.now c.loop-left-test.true c.if-kind-eq-END.true)
    ∙ ap (λ bytes. option_map (behind l.nodes) (nodes_at l.left bytes)) (sym e.ensures.cases.0) ∙ l.invariant.read

pub nodes_at-returns-in_default-2 : goal.nodes_at-returns-in_default-2
nodes_at-returns-in_default-2 t c =
    let l = c.loop-left in
    let e = c.in-Some in
    let none = rw c.in_default-2.is at c.in_ok-node.ensures in
    sym (no_sibling l.left l.nodes e.kind.now e.behind.now c.loop-left-test.true c.if-kind-eq-END.false (sym none))
    ∙ ap (λ bytes. option_map (behind l.nodes) (nodes_at l.left bytes)) (sym e.ensures.cases.0) ∙ l.invariant.read

pub nodes_at-loop-left-preserved : goal.nodes_at-loop-left-preserved
nodes_at-loop-left-preserved t c =
    let l = c.loop-left in
    let e = c.in-Some in
    let found = rw c.in-Some-2.is at c.in_ok-node.ensures in
    record {
      read = rw c.in_ok-push.ensures.ok
          (sym (one_sibling l.left l.nodes e.kind.now e.behind.now c.in-Some-2.node c.in-Some-2.behind.now c.loop-left-test.true c.if-kind-eq-END.false (sym found))
          ∙ ap (λ bytes. option_map (behind l.nodes) (nodes_at l.left bytes)) (sym e.ensures.cases.0) ∙ l.invariant.read);
      left = omega arith;
    }

pub nodes_at-returns : goal.nodes_at-returns
nodes_at-returns t c =
    let l = c.loop-left in
    sym (ap (option_map (behind l.nodes)) (nodes_at-none l.left l.rest.now (omega arith))) ∙ l.invariant.read
