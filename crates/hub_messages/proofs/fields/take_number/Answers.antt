use Rattle.std.proofs.Common.{◌≤◌, length, sym, ◌∙◌, rules}
use Rattle.hub_messages.proofs.FieldLemmas.{long_u64_at}
use Rattle.hub_messages.proofs.fields.take_number.Goals as goal

pub slice_bounds-result-count : goal.slice_bounds-result-count
slice_bounds-result-count c =
    long_u64_at c.args.bytes.now c.in_ok-value.value (sym c.take_u64.ensures ∙ c.in_ok-value.ensures.ok_part)

pub slice_bounds-result-start : goal.slice_bounds-result-start
slice_bounds-result-start c =
    let long : 8 ≤ length c.args.bytes.now = long_u64_at c.args.bytes.now c.in_ok-value.value (sym c.take_u64.ensures ∙ c.in_ok-value.ensures.ok_part) in
    search rules
