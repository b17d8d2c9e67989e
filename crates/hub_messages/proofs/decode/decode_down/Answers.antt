use Rattle.std.proofs.Common.{arith}
use Rattle.hub_messages.proofs.DownLemmas.{down_spelled, down_only, down_malformed}
use Rattle.hub_messages.proofs.decode.decode_down.Goals as goal

pub returns-clause-spelled : goal.returns-clause-spelled
returns-clause-spelled c =
    down_spelled c.args.bytes.now c.read_down.result (λ i. (c.type_inv.bytes i).fits) (omega arith) c.read_down.ensures

pub returns-clause-malformed : goal.returns-clause-malformed
returns-clause-malformed c = down_malformed c.args.bytes.now c.read_down.result c.read_down.ensures

pub returns-clause-only : goal.returns-clause-only
returns-clause-only c =
    down_only c.args.bytes.now c.read_down.result
    (down_spelled c.args.bytes.now c.read_down.result (λ i. (c.type_inv.bytes i).fits) (omega arith) c.read_down.ensures)
