use Rattle.std.proofs.Common.{◌≡◌, ℕ, List, Bor, refl, ◌<◌, true, get_or, arith, ap, ◌∙◌}
use Rattle.std.proofs.lemmas.List.{take_rest}
use Rattle.text_core.proofs.LengthGroupLemmas.{grows, least, behind_group, none_first, more_first, over_first, last_first, zero_first}
use Rattle.text_core.proofs.TextByteLemmas.{gives_fault, behind_group_fails}
use Rattle.text_core.proofs.text_bytes.+take_length.Goals as goal
use Rattle.text_core.proofs.text_bytes.+take_length.Goals.{else-several-via-then-several+else-group-eq0, else-several-via-else-several}

pub returns-in_default-clause-value : goal.returns-in_default-clause-value
returns-in_default-clause-value t c = none_first c.args.more c.args.several c.args.bytes.now c.in_default.len_below

pub returns-then-group-eq0-clause-value : goal.returns-then-group-eq0-clause-value
returns-then-group-eq0-clause-value t c =
    rw c.if-several.true (zero_first c.args.more c.args.bytes.now c.in-len1-up.len_at_least c.if-group-eq0.true)

pub returns-then-group-lt128-clause-value : goal.returns-then-group-lt128-clause-value
returns-then-group-lt128-clause-value t c =
    let some : c.args.several ≡ true → 0 < get_or c.args.bytes.now 0 0 =
    elim c.else-several.branch [
      | else-several-via-then-several+else-group-eq0 w ↦ (λ _. omega arith)
      | else-several-via-else-several w ↦ (λ e. absurd (cc))
    ] in
    rw (take_rest c.args.bytes.now 1, c.from.ensures)
    (last_first c.args.more c.args.several c.args.bytes.now c.in-len1-up.len_at_least c.if-group-lt128.true some)

pub returns-then-group-lt128-clause-small : goal.returns-then-group-lt128-clause-small
returns-then-group-lt128-clause-small t c = omega (arith, least c.args.more c.requires, c.from.ensures)

pub returns-then-more-eq0-clause-value : goal.returns-then-more-eq0-clause-value
returns-then-more-eq0-clause-value t c =
    rw c.if-more-eq0.true (over_first c.args.several c.args.bytes.now c.in-len1-up.len_at_least c.if-group-lt128.false)

pub returns-in_err-size-clause-value : goal.returns-in_err-size-clause-value
returns-in_err-size-clause-value t c =
    let more : 0 < c.args.more = omega arith in
    let fails = rw (take_rest c.args.bytes.now 1) at c.in_err-size.ensures.value in
    gives_fault (λ (found : ℕ × Bor (List ℕ)). (found.0, found.1.now)) c.from_residual.result c.in_err-size.field-0.0 _ c.from_residual.ensures.1
    (rw (more_first c.args.more c.args.several c.args.bytes.now c.in-len1-up.len_at_least c.if-group-lt128.false more)
    (behind_group_fails (get_or c.args.bytes.now 0 0) c.in_err-size.field-0.0 _ fails))

pub overflow_mul-result : goal.overflow_mul-result
overflow_mul-result t c =
    let more : 0 < c.args.more = omega arith in
    let high : get_or c.args.bytes.now 0 0 < 256 = omega (arith, c.type_inv.bytes 0) in
    let fits = grows c.args.more c.in_ok-size.size (get_or c.args.bytes.now 0 0) more c.requires c.in_ok-size.ensures.small c.if-group-lt128.false high in
    omega (arith, fits.1)

pub overflow_add-result : goal.overflow_add-result
overflow_add-result t c =
    let more : 0 < c.args.more = omega arith in
    let high : get_or c.args.bytes.now 0 0 < 256 = omega (arith, c.type_inv.bytes 0) in
    let fits = grows c.args.more c.in_ok-size.size (get_or c.args.bytes.now 0 0) more c.requires c.in_ok-size.ensures.small c.if-group-lt128.false high in
    omega (arith, fits.1)

pub returns-clause-value : goal.returns-clause-value
returns-clause-value t c =
    let more : 0 < c.args.more = omega arith in
    let rest = rw (take_rest c.args.bytes.now 1) at c.in_ok-size.ensures.value in
    more_first c.args.more c.args.several c.args.bytes.now c.in-len1-up.len_at_least c.if-group-lt128.false more
    ∙ ap (behind_group (get_or c.args.bytes.now 0 0)) rest
    ∙ rw c.from-2.ensures refl
