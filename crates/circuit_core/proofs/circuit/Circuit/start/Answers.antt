use Rattle.std.proofs.Common.{refl}
use Rattle.circuit_meaning.specs.Circuit.State.{started}
use Rattle.circuit_core.proofs.MakingLemmas.{stands_first, made_first}
use Rattle.circuit_core.proofs.circuit.Circuit.start.Goals as goal

pub returns : goal.returns
returns g c = λ first is_first st.
    made_first g.S.Stage.machine g.S.Stage.stands (started first c.args.window c.args.connection) _ _ _ c.new-replies.ensures.items
    (c.in_ok-make_batch.ensures.step _ (stands_first g.S.Stage.machine g.S.Stage.stands first c.args.window c.args.connection _ st refl c.new.ensures.items c.new-2.ensures.items))
