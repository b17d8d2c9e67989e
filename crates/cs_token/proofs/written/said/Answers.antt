use Rattle.std.proofs.Common.{sym}
use Rattle.cs_token.proofs.WrittenLemmas.{unit-shorter, one_said, all_said}
use Rattle.cs_token.proofs.written.said.Goals as goal

pub loop-character-smaller : goal.loop-character-smaller
loop-character-smaller c = unit-shorter c.args.form c.loop-character.rest.now c.in-Some.character c.in-Some.next.now (sym c.in-Some.ensures)

pub loop-character-preserved : goal.loop-character-preserved
loop-character-preserved c =
    rw c.in_ok-push.ensures.ok
    (one_said c.args.form c.args.text.now c.loop-character.found c.loop-character.rest.now c.in-Some.character c.in-Some.next.now c.loop-character.invariant (sym c.in-Some.ensures))

pub returns : goal.returns
returns c = all_said c.args.form c.args.text.now c.loop-character.found c.loop-character.rest.now c.loop-character.invariant (sym c.in_default.ensures)
