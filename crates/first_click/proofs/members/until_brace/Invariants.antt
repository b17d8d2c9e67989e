use Rattle.std.proofs.Common.{◌≡◌, take, drop}
use Rattle.first_click.specs.Reading.Members.{until_brace, with_front}
use Rattle.first_click.proofs.members.until_brace.Given as goal

abbrev pub invariant-loop-at : goal.invariant-loop-at
invariant-loop-at l = with_front (take l.at l.tokens) (until_brace (drop l.at l.tokens)) ≡ until_brace l.tokens
