use Rattle.std.proofs.Common.{sym, refl, ◌∙◌}
use Rattle.first_click.specs.Nesting.{opening_tokens, closing_tokens, joining_tokens}
use Rattle.first_click.proofs.Reading.NestingLemmas.{opens, closes, joins, ends, is_other}
use Rattle.first_click.proofs.nesting.role_of.Goals as goal

pub returns-then-is_one_of : goal.returns-then-is_one_of
unfolding opening_tokens
returns-then-is_one_of c = opens c.args.token.now (sym (c.is_one_of.ensures.ascii refl) ∙ c.if-is_one_of.true)

pub returns-then-is_one_of-2 : goal.returns-then-is_one_of-2
unfolding opening_tokens closing_tokens
returns-then-is_one_of-2 c =
    closes c.args.token.now (sym (c.is_one_of.ensures.ascii refl) ∙ c.if-is_one_of.false) (sym (c.is_one_of-2.ensures.ascii refl) ∙ c.if-is_one_of-2.true)

pub returns-then-is_one_of-3 : goal.returns-then-is_one_of-3
unfolding opening_tokens closing_tokens joining_tokens
returns-then-is_one_of-3 c =
    joins c.args.token.now (sym (c.is_one_of.ensures.ascii refl) ∙ c.if-is_one_of.false) (sym (c.is_one_of-2.ensures.ascii refl) ∙ c.if-is_one_of-2.false)
    (sym (c.is_one_of-3.ensures.ascii refl) ∙ c.if-is_one_of-3.true)

pub returns-then-is : goal.returns-then-is
unfolding opening_tokens closing_tokens joining_tokens
returns-then-is c =
    ends c.args.token.now (sym (c.is_one_of.ensures.ascii refl) ∙ c.if-is_one_of.false) (sym (c.is_one_of-2.ensures.ascii refl) ∙ c.if-is_one_of-2.false)
    (sym (c.is_one_of-3.ensures.ascii refl) ∙ c.if-is_one_of-3.false) (sym (c.is.ensures.ascii refl) ∙ c.if-is.true)

pub returns : goal.returns
unfolding opening_tokens closing_tokens joining_tokens
returns c =
    is_other c.args.token.now (sym (c.is_one_of.ensures.ascii refl) ∙ c.if-is_one_of.false) (sym (c.is_one_of-2.ensures.ascii refl) ∙ c.if-is_one_of-2.false)
    (sym (c.is_one_of-3.ensures.ascii refl) ∙ c.if-is_one_of-3.false) (sym (c.is.ensures.ascii refl) ∙ c.if-is.false)
