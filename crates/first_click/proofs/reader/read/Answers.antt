use Rattle.std.proofs.Common.{refl, sym, arith}
use Rattle.std.proofs.lemmas.Bool.{false≢true}
use Rattle.first_click.proofs.Reading.PieceLemmas.{end-within}
use Rattle.first_click.proofs.Reading.SpellingLemmas.{too_many, other_end, no_method, no_tree}
use Rattle.first_click.proofs.Reading.WeightLemmas.{light}
use Rattle.first_click.proofs.reader.read.Goals as goal

pub returns-then-not-are_few-clause-spelled : goal.returns-then-not-are_few-clause-spelled
returns-then-not-are_few-clause-spelled c =
    too_many _ c.args.text.now _ _ c.in_ok-content.ensures
    (λ few. false≢true ((rw c.deref.ensures.value at c.if-not-are_few.ensures).1 few))

pub declared-requires : goal.declared-requires
declared-requires c = omega (arith, end-within c.args.text.now _ _ c.in_ok-content.ensures, (c.if-not-is_plain.ensures.0 refl).0)

pub returns-in_default-clause-spelled : goal.returns-in_default-clause-spelled
returns-in_default-clause-spelled c = other_end _ c.args.text.now _ _ c.in_ok-content.ensures (rw c.in_default.is at c.in_ok-code.ensures.spelled)

pub returns-in_default-2-clause-spelled : goal.returns-in_default-2-clause-spelled
returns-in_default-2-clause-spelled c =
    no_method _ c.args.text.now _ _ c.in_ok-content.ensures c.in-Some.code.fields c.in-Some.code.methods (rw c.in-Some.is at c.in_ok-code.ensures.spelled)
    (sym (rw (c.in_default-2.is, c.as_slice.ensures, c.deref-2.ensures.value) at c.in_ok-made.ensures.handlers))

pub returns-in_default-3-clause-spelled : goal.returns-in_default-3-clause-spelled
returns-in_default-3-clause-spelled c =
    no_tree _ c.args.text.now _ _ c.in_ok-content.ensures c.in-Some.code.fields c.in-Some.code.methods (rw c.in-Some.is at c.in_ok-code.ensures.spelled)
    (rw (c.in_default-3.is, c.as_slice-2.ensures, c.deref-3.ensures.value, rw (c.in-Some-2.is, c.deref-2.ensures.value) at c.in_ok-made.ensures.parts) at c.in_ok-items.ensures)

pub returns-clause-light : goal.returns-clause-light
returns-clause-light c =
    light c.args.text.now _ _ c.in-Some.code.fields c.in-Some-3.items c.in_ok-content.ensures.walk (c.if-not-is_plain.ensures.0 refl).0
    ((rw c.deref.ensures.value at c.if-not-are_few.ensures).0 refl)
    (rw (c.in-Some-3.is, c.as_slice-2.ensures, c.deref-3.ensures.value, rw (c.in-Some-2.is, c.deref-2.ensures.value) at c.in_ok-made.ensures.parts) at c.in_ok-items.ensures)
