use Rattle.std.proofs.Common.{rules, ap, ◌∙◌}
use Rattle.std.proofs.lemmas.Result.{on_ok_weaker}
use Rattle.cs_print.specs.Printed.{statement_kind_kinds}
use Rattle.cs_print.proofs.PrintedLaws.{stmt_if}
use Rattle.cs_print.proofs.WrittenLaws.{some_values, some_parts, values_written, parts_written, texts_written, statements_written, sections_written}
use Rattle.cs_print.proofs.+code.Goals as goal

pub statements::push_statement_form-returns-in-If : goal.statements::push_statement_form-returns-in-If
statements::push_statement_form-returns-in-If t c =
    let form = ap statement_kind_kinds c.in-If.is ∙ stmt_if c.in-If.condition c.in-If.yes c.in-If.no in
    rw form (search rules)

pub lists::push_more_values-returns : goal.lists::push_more_values-returns
lists::push_more_values-returns t c = values_written c.args.out.now c.loop-value.out c.args.values.now c.loop-value.value-index c.loop-value-test.false c.loop-value.invariant

pub lists::push_more_parts-returns : goal.lists::push_more_parts-returns
lists::push_more_parts-returns t c = parts_written c.args.out.now c.loop-part.out c.args.parts.now c.loop-part.part-index c.loop-part-test.false c.loop-part.invariant

pub lists::push_texts-returns : goal.lists::push_texts-returns
lists::push_texts-returns t c = texts_written c.args.out.now c.loop-part.out c.args.parts.now c.loop-part.part-index c.loop-part-test.false c.loop-part.invariant

pub lists::push_statements-returns : goal.lists::push_statements-returns
lists::push_statements-returns t c = statements_written c.args.out.now c.loop-statement.out c.args.statements.now c.loop-statement.statement-index c.loop-statement-test.false c.loop-statement.invariant

pub lists::push_sections-returns : goal.lists::push_sections-returns
lists::push_sections-returns t c = sections_written c.args.out.now c.loop-section.out c.args.sections.now c.loop-section.section-index c.loop-section-test.false c.loop-section.invariant

pub lists::push_values-returns-in_ok-push_whole-in-len1-up : goal.lists::push_values-returns-in_ok-push_whole-in-len1-up
lists::push_values-returns-in_ok-push_whole-in-len1-up t c =
    on_ok_weaker c.push_more_values.result
    (λ more. some_values c.args.out.now c.push_whole.new.out c.push_more_values.new.out c.first-item.result c.args.values.now c.in-len1-up.len_at_least c.first-item.is c.in_ok-push_whole-in-len1-up.ensures more)
    c.push_more_values.ensures

pub lists::push_parts-returns-in_ok-push_given-in-len1-up : goal.lists::push_parts-returns-in_ok-push_given-in-len1-up
lists::push_parts-returns-in_ok-push_given-in-len1-up t c =
    on_ok_weaker c.push_more_parts.result
    (λ more. some_parts c.args.out.now c.push_given.new.out c.push_more_parts.new.out c.first-item.result c.args.parts.now c.in-len1-up.len_at_least c.first-item.is c.in_ok-push_given-in-len1-up.ensures more)
    c.push_more_parts.ensures
