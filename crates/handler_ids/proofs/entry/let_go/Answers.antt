use Rattle.std.proofs.Common.{arith, ap, sym, ◌∙◌}
use Rattle.handler_ids.specs.Kept.{without_value}
use Rattle.handler_ids.proofs.KeptLemmas.{mapped_more}
use Rattle.handler_ids.proofs.entry.let_go.Goals as goal

pub loop-entry-preserved : goal.loop-entry-preserved
loop-entry-preserved c = mapped_more (without_value c.args.released) c.loop-entry.entries c.args.entries.now c.loop-entry.entry-index c.entry-item.result c.let_one_go.new.entry (omega arith) c.loop-entry.auto.entries c.entry-item.is (c.let_one_go.ensures ∙ ap (without_value c.args.released) (sym c.entry-item.is)) c.loop-entry.invariant.0 c.loop-entry.invariant.1
