use Rattle.std.proofs.Common.{ap}
use Rattle.first_click.specs.Reading.Views.{member_of}
use Rattle.first_click.specs.Statements.{no_more}
use Rattle.first_click.proofs.Reading.StatementLemmas.{defined-method, passed-field, no_body}
use Rattle.first_click.proofs.statements.methods_of.Goals as goal

pub loop-member-init : goal.loop-member-init
loop-member-init c = rw c.new-methods.ensures no_more

pub loop-member-preserved-in_default : goal.loop-member-preserved-in_default
loop-member-preserved-in_default c =
    passed-field c.args.fields.now c.args.members.now c.loop-member.member-index c.member-item.result c.member-item.result c.in_default.field-0.now c.in_default.field-1.now c.loop-member.methods
    c.loop-member-test.true c.member-item.is (ap member_of c.in_default.is) c.loop-member.invariant

pub returns-in_default-2 : goal.returns-in_default-2
returns-in_default-2 c =
    no_body c.args.fields.now c.args.members.now c.loop-member.member-index c.member-item.result c.member-item.result c.in-Method.name.now c.in-Method.body.now c.loop-member-test.true c.member-item.is
    (ap member_of c.in-Method.is) (rw c.in_default-2.is at c.in_ok-statements.ensures)

pub loop-member-preserved : goal.loop-member-preserved
loop-member-preserved c =
    rw (c.in_ok-push.ensures.ok, c.in_ok-clone.ensures.cases)
    (defined-method c.args.fields.now c.args.members.now c.loop-member.member-index c.member-item.result c.member-item.result c.in-Method.name.now c.in-Method.body.now c.in-Some.statements
    c.loop-member.methods c.loop-member-test.true c.member-item.is (ap member_of c.in-Method.is) (rw c.in-Some.is at c.in_ok-statements.ensures) c.loop-member.invariant)
