use Rattle.std.proofs.Common.{◌≡◌, ℕ, ◌∙◌, ap, length, List, rules}
use Rattle.std.proofs.lemmas.Result.{IfOk-weaker}
use Rattle.pairing_meaning.specs.Order.{list_M, merged, numbered, partners}
use Rattle.sibling_edits.proofs.OnceLemmas.{M-short}
use Rattle.sibling_edits.proofs.order.belonging.Goals as goal

pub returns : goal.returns
returns c =
    let same : c.as_slice.result.now ≡ partners c.args.to.now = search rules in
    IfOk-weaker c.merge.result (λ them. them ≡ merged c.args.from.now (numbered 0 c.args.from.now) c.as_slice.result.now) _
    (λ them e. let is : them ≡ list_M c.args.from.now c.args.to.now = e ∙ ap (λ (ts : List ℕ). merged c.args.from.now (numbered 0 c.args.from.now) ts) same in
    (is, ap length is ∙ M-short c.args.from.now c.args.to.now c.requires.matched))
    c.merge.ensures
