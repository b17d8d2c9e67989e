use Rattle.cs_parse.proofs.MachineLaws.{begins_at, begins_with_nothing}
use Rattle.cs_parse.proofs.expressions.machine.begin.Goals as goal

pub returns-in_default-clause-read : goal.returns-in_default-clause-read
returns-in_default-clause-read c = begins_with_nothing c.args.level c.args.tokens.now c.in_default.ensures.cases

pub returns-clause-read : goal.returns-clause-read
returns-clause-read c =
    begins_at c.args.stack.now c.push.new.self c.args.level c.in-Some.t.now c.args.tokens.now c.in-Some.rest.now c.prefix.result
    c.in-Some.ensures.cases.0 c.in_ok-push.ensures.ok c.prefix.ensures.read
