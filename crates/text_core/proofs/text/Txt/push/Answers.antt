use Rattle.text_core.proofs.TextLemmas.{chars-push}
use Rattle.text_core.proofs.text.Txt.push.Goals as goal

pub returns-clause-ok : goal.returns-clause-ok
returns-clause-ok c = rw (c.in_ok-push.ensures.bytes, ← c.self.view_is) (chars-push c.self.inside.text c.args.character c.ranges.character.0)
