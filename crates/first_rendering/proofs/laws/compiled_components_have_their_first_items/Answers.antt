use Rattle.first_rendering.proofs.LawLemmas.{first-items}
use Rattle.first_rendering.proofs.laws.compiled_components_have_their_first_items.Goals as goal

pub returns : goal.returns
returns c = first-items
