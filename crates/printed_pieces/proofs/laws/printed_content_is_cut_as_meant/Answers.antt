use Rattle.printed_pieces.proofs.Theorems.{content_cut}
use Rattle.printed_pieces.proofs.laws.printed_content_is_cut_as_meant.Goals as goal

pub returns : goal.returns
returns c = content_cut
