use Rattle.printing_nodes.proofs.KnownNodes.{lines-known}
use Rattle.printing_nodes.proofs.NodesAgain.{lines_again}
use Rattle.printing_nodes.proofs.laws.printed_code_is_spelled_again.Goals as goal

pub returns : goal.returns
returns c = λ source around jumps n m ps rest items spells prints later pieces mean.
    lines_again source around jumps n ps rest m items spells (lines-known items prints) later pieces mean
