use Rattle.std.proofs.Common.{sym}
use Rattle.first_click.specs.Walks.{stay}
use Rattle.first_click.specs.Tokens.{TokenStands}
use Rattle.first_click.proofs.Reading.WalkLemmas.{walk-more}
use Rattle.first_click.proofs.Reading.TokenLemmas.{token_at-some, token-shorter, token_at-none}
use Rattle.first_click.proofs.tokens.tokens_of.Goals as goal

pub loop-token-init : goal.loop-token-init
loop-token-init c = rw c.new-tokens.ensures.items (stay _)

pub loop-token-smaller : goal.loop-token-smaller
loop-token-smaller c = token-shorter _ _ _ (token_at-some c.loop-token.rest.now c.in-Some.token.now c.in-Some.next.now (sym c.in-Some.ensures))

pub loop-token-preserved : goal.loop-token-preserved
loop-token-preserved c =
    rw (c.in_ok-push.ensures.items, c.in_ok-from_latin1.ensures)
    (walk-more TokenStands _ _ _ _ c.in-Some.token.now c.loop-token.invariant (token_at-some c.loop-token.rest.now c.in-Some.token.now c.in-Some.next.now (sym c.in-Some.ensures)))

pub returns : goal.returns
returns c = record { white = c.loop-token.rest.now; walk = c.loop-token.invariant; all = token_at-none c.loop-token.rest.now (sym c.in_default.ensures) }
