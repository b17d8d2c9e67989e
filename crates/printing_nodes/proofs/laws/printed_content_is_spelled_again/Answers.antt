use Rattle.printing_nodes.proofs.KnownNodes.{content-known}
use Rattle.printing_nodes.proofs.NodesAgain.{content_again}
use Rattle.printing_nodes.proofs.laws.printed_content_is_spelled_again.Goals as goal
use Rattle.razor_print.specs.declared.before.Before.TheVariants as before
use Rattle.std.proofs.Common.{false}

pub returns : goal.returns
returns c = λ source around edge n m ps rest nodes spells prints later pieces stop mean.
    content_again source around edge n ps rest m nodes spells (content-known false nodes prints) before.Other later pieces stop mean
