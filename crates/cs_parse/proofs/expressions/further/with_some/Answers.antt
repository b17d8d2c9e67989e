use Rattle.cs_parse.proofs.FrameLaws.{with_some_leads}
use Rattle.cs_parse.proofs.expressions.further.with_some.Goals as goal

pub returns-clause-read : goal.returns-clause-read
returns-clause-read c = with_some_leads c.args.place c.args.a c.args.tokens.now c.in_ok-rest.rest.now c.new.result c.with_part.result c.in_ok-rest.ensures.read c.new.ensures c.with_part.ensures.read
