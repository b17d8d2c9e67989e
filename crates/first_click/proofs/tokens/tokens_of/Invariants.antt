use Rattle.std.proofs.Common.{length}
use Rattle.first_click.specs.Walks.{Walk}
use Rattle.first_click.specs.Tokens.{TokenStands}
use Rattle.first_click.proofs.tokens.tokens_of.Given as goal

-- the tokens so far lead to here
abbrev pub invariant-loop-token : goal.invariant-loop-token
invariant-loop-token l = Walk TokenStands l.text l.tokens.items l.rest

abbrev pub decreases-loop-token : goal.decreases-loop-token
decreases-loop-token l = length l.rest
