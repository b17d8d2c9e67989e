use Rattle.std.proofs.Common.{◌≡◌, ◌++◌, ◌∙◌, ap}
use Rattle.std.proofs.lemmas.Result.{on_ok_weaker}
use Rattle.text_core.specs.TextBytes.{text_bytes, text_at}
use Rattle.text_core.proofs.TextByteLemmas.{text_at-text_bytes}
use Rattle.text_core.proofs.WordLemmas.{behind_front}
use Rattle.text_core.proofs.text_bytes.put_text.Goals as goal

pub returns-else-is_err-clause-reads_back : goal.returns-else-is_err-clause-reads_back
unfolding text_bytes
returns-else-is_err-clause-reads_back c = λ rest.
    on_ok_weaker c.append_content-put.result
    (λ e.
    let same : c.append_content-put.new.out.items ≡ c.args.out.now.items ++ text_bytes c.args.text.now = rw (c.as_bytes.ensures.value, c.as_str.ensures.bytes) at e in
    ap text_at (behind_front c.args.out.now.items c.append_content-put.new.out.items (text_bytes c.args.text.now) rest same)
    ∙ text_at-text_bytes c.args.text.now rest c.as_str.ensures.scalars c.requires)
    c.append_content-put.ensures.ok
