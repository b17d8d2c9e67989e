use Rattle.std.proofs.Common.{◌≡◌, true, length, ap, sym, ◌∙◌, arith}
use Rattle.first_click.specs.Nesting.{is_shallow}
use Rattle.first_click.proofs.Reading.ClosingLemmas.{only_section, no_code, too_deep, no_block, block-shorter, tokens-few, closing}
use Rattle.first_click.proofs.code.declared.Goals as goal

pub returns-in_default-clause-spelled : goal.returns-in_default-clause-spelled
returns-in_default-clause-spelled c = only_section (c.args.end.after_word, c.args.end.rest.now) (sym c.is_empty.ensures ∙ c.if-is_empty.false) (no_code (c.args.end.after_word, c.args.end.rest.now) (sym c.in_default.ensures))

pub returns-then-not-branch-clause-spelled : goal.returns-then-not-branch-clause-spelled
returns-then-not-branch-clause-spelled c =
    only_section (c.args.end.after_word, c.args.end.rest.now) (sym c.is_empty.ensures ∙ c.if-is_empty.false)
    (too_deep (c.args.end.after_word, c.args.end.rest.now) c.in-Some.code.now c.in_ok-tokens.tokens.items (sym c.in-Some.ensures) c.in_ok-tokens.ensures
    (sym (c.in_ok-is_shallow.ensures ∙ ap is_shallow c.deref.ensures.value) ∙ c.if-not-branch.true))

pub declared_by-requires : goal.declared_by-requires
declared_by-requires c =
    omega (
      arith,
      block-shorter c.deref-2.result.now c.in-Some-body_of.body.now c.in-Some-body_of.ensures,
      ap length c.deref-2.ensures.value,
      tokens-few (c.args.end.after_word, c.args.end.rest.now) c.in-Some.code.now c.in_ok-tokens.tokens.items (sym c.in-Some.ensures) c.in_ok-tokens.ensures,
      c.requires,
    )

pub returns-in-Some-body_of-clause-spelled : goal.returns-in-Some-body_of-clause-spelled
returns-in-Some-body_of-clause-spelled c =
    let shallow : is_shallow c.deref-2.result.now ≡ true =
    sym (c.in_ok-is_shallow.ensures ∙ ap is_shallow (c.deref.ensures.value ∙ sym c.deref-2.ensures.value)) ∙ c.if-not-branch.false in
    closing (c.args.end.after_word, c.args.end.rest.now) c.in-Some.code.now c.deref-2.result.now (sym c.in-Some.ensures) (rw (← c.deref-2.ensures.value) at c.in_ok-tokens.ensures)
    c.declared_by.result c.in-Some-body_of.body.now (sym c.is_empty.ensures ∙ c.if-is_empty.false) c.if-end.false shallow c.in-Some-body_of.ensures c.declared_by.ensures.spelled

pub returns-clause-spelled : goal.returns-clause-spelled
returns-clause-spelled c =
    only_section (c.args.end.after_word, c.args.end.rest.now) (sym c.is_empty.ensures ∙ c.if-is_empty.false)
    (no_block (c.args.end.after_word, c.args.end.rest.now) c.in-Some.code.now c.deref-2.result.now (sym c.in-Some.ensures) (rw (← c.deref-2.ensures.value) at c.in_ok-tokens.ensures) c.in-None.ensures)
