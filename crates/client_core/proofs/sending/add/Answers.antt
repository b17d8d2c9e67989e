use Rattle.client_core.proofs.PieceLemmas.{spelled_more}
use Rattle.client_core.proofs.sending.add.Goals as goal

pub returns : goal.returns
returns c =
    λ before spelled. spelled_more c.args.ups.now c.push.new.self before c.in_ok-encode_up.field-0 c.args.up.now c.in_ok-push.ensures.items spelled c.in_ok-encode_up.ensures
