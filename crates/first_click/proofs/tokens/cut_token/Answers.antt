use Rattle.std.proofs.Common.{sym, ◌∙◌}
use Rattle.first_click.proofs.Reading.TokenLemmas.{double-long}
use Rattle.first_click.proofs.tokens.cut_token.Goals as goal

pub split_at-requires : goal.split_at-requires
split_at-requires c = double-long _ (sym c.begins_double.ensures ∙ c.if-begins_double.true)
