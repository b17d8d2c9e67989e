use Rattle.cs_parse.proofs.FrameLaws.{interpolated_leads}
use Rattle.cs_parse.proofs.expressions.begin.of_sign.Goals as goal

pub returns-in-Interpolation-clause-read : goal.returns-in-Interpolation-clause-read
returns-in-Interpolation-clause-read c =
    interpolated_leads c.args.sign c.args.place c.args.rest.now c.new.result c.text_parts.result c.in-Interpolation.is c.new.ensures c.text_parts.ensures.read
