use Rattle.std.proofs.Common.{refl}
use Rattle.first_click.specs.Names.{reserved_words}
use Rattle.first_click.proofs.names.is_reserved.Goals as goal

pub returns : goal.returns
unfolding reserved_words
returns c = c.is_one_of.ensures.ascii refl
