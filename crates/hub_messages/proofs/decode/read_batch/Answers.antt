use Rattle.std.proofs.Common.{◌≤◌, length, sym, ◌∙◌, rules}
use Rattle.hub_messages.proofs.FieldLemmas.{long_u32_at}
use Rattle.hub_messages.proofs.decode.read_batch.Goals as goal

pub slice_bounds-batch-count : goal.slice_bounds-batch-count
slice_bounds-batch-count c =
    long_u32_at c.in_ok-number.rest.now c.in_ok-size.size (sym c.take_u32.ensures ∙ c.in_ok-size.ensures.ok_part)

pub slice_bounds-batch-start : goal.slice_bounds-batch-start
slice_bounds-batch-start c =
    let long : 4 ≤ length c.in_ok-number.rest.now = long_u32_at c.in_ok-number.rest.now c.in_ok-size.size (sym c.take_u32.ensures ∙ c.in_ok-size.ensures.ok_part) in
    search rules
