use Rattle.cs_parse.proofs.FrameLaws.{text_hole}
use Rattle.cs_parse.proofs.expressions.parts.text_end.Goals as goal

pub returns-in-Some-clause-read : goal.returns-in-Some-clause-read
returns-in-Some-clause-read c = text_hole c.args.place c.args.found c.args.tokens.now c.in-Some.rest.now c.requires c.in-Some.ensures.read
