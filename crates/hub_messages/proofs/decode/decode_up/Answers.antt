use Rattle.std.proofs.Common.{arith}
use Rattle.hub_messages.proofs.UpLemmas.{up_spelled, up_only, up_malformed}
use Rattle.hub_messages.proofs.decode.decode_up.Goals as goal

pub returns-clause-spelled : goal.returns-clause-spelled
returns-clause-spelled c =
    up_spelled c.args.bytes.now c.read_up.result (λ i. (c.type_inv.bytes i).fits) (omega arith) c.read_up.ensures

pub returns-clause-malformed : goal.returns-clause-malformed
returns-clause-malformed c = up_malformed c.args.bytes.now c.read_up.result c.read_up.ensures

pub returns-clause-only : goal.returns-clause-only
returns-clause-only c =
    up_only c.args.bytes.now c.read_up.result
    (up_spelled c.args.bytes.now c.read_up.result (λ i. (c.type_inv.bytes i).fits) (omega arith) c.read_up.ensures)
