use Rattle.std.proofs.Common.{length, rules, arith, sym, ◌∙◌}
use Rattle.cs_forms.proofs.ComparingLemmas.{step, stop}
use Rattle.cs_forms.proofs.comparing.last_table.Goals as goal

pub loop-depth-preserved : goal.loop-depth-preserved
loop-depth-preserved c =
    step c.loop-depth._depth c.args.records.now c.loop-depth.flags.items c.as_slice.result.now c.in_ok-next.next.items
    c.loop-depth.invariant c.as_slice.ensures.value c.in_ok-next.ensures

pub returns-then-same_table : goal.returns-then-same_table
returns-then-same_table c =
    stop c.loop-depth._depth (length c.args.records.now) c.args.records.now c.loop-depth.flags.items c.as_slice.result.now c.in_ok-next.next.items (omega arith)
    c.loop-depth.invariant c.as_slice.ensures.value c.in_ok-next.ensures
    (sym c.as_slice-in-loop-depth.ensures.value ∙ c.same_table.ensures.0 (search rules) ∙ c.as_slice-in-loop-depth-2.ensures.value)
