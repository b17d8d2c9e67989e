use Rattle.std.proofs.Common.{arith}
use Rattle.cs_token.proofs.OpenedLemmas.{outermost-reverse}
use Rattle.cs_token.proofs.around.outermost.Goals as goal

pub returns-in-len1-up : goal.returns-in-len1-up
returns-in-len1-up c = outermost-reverse c.args.place c.args.opened.now _ (omega arith)
