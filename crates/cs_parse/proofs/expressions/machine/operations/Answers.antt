use Rattle.cs_parse.proofs.MachineLaws.{goes_at, stops_at, ends_at}
use Rattle.cs_parse.proofs.expressions.machine.operations.Goals as goal

pub returns-in_default-clause-read : goal.returns-in_default-clause-read
returns-in_default-clause-read c = ends_at c.args.stack.now c.args.level c.args.place c.args.a c.args.tokens.now c.in_default.ensures.cases

pub returns-then-strength-level-clause-read : goal.returns-then-strength-level-clause-read
returns-then-strength-level-clause-read c =
    stops_at c.args.stack.now c.args.level c.strength.result c.args.place c.args.a c.in-Some.t.now c.args.tokens.now c.in-Some.rest.now c.going_of-going.result
    c.in-Some.ensures.cases.0 c.going_of-going.ensures c.strength.ensures c.if-strength-level.true

pub returns-clause-read : goal.returns-clause-read
returns-clause-read c =
    goes_at c.args.stack.now c.push.new.self c.args.level c.strength.result c.args.place c.args.a c.in-Some.t.now c.args.tokens.now c.in-Some.rest.now c.going_of-going.result c.further.result
    c.in-Some.ensures.cases.0 c.going_of-going.ensures c.strength.ensures c.if-strength-level.false c.in_ok-push.ensures.ok c.further.ensures.read
