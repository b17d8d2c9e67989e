use Rattle.razor_reader.proofs.NumberLemmas.{item_slow}
use Rattle.razor_reader.proofs.laws.numbers_rise_no_faster_than_pieces.Goals as goal

pub returns : goal.returns
returns c = item_slow
