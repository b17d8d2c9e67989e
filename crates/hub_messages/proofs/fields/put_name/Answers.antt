use Rattle.std.proofs.Common.{[], ◌++◌, drop, length}
use Rattle.std.proofs.lemmas.Result.{on_ok_weaker}
use Rattle.text_core.proofs.TextByteLemmas.{scalars-text_at}
use Rattle.hub_messages.proofs.fields.put_name.Goals as goal

pub returns-clause-sayable : goal.returns-clause-sayable
returns-clause-sayable c =
    on_ok_weaker c.put_text.result
    (λ e. record {
      scalars = scalars-text_at (drop (length c.args.out.now.items) (c.put_text.new.out.items ++ [])) c.args.name.now [] e;
      short = c.requires;
    })
    (c.put_text.ensures.reads_back [])
