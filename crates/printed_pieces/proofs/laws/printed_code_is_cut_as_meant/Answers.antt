use Rattle.printed_pieces.proofs.Theorems.{lines_cut}
use Rattle.printed_pieces.proofs.laws.printed_code_is_cut_as_meant.Goals as goal

pub returns : goal.returns
returns c = lines_cut
