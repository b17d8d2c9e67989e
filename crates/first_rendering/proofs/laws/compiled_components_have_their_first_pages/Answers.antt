use Rattle.std.proofs.Common.{ap, ◌∙◌}
use Rattle.first_rendering.specs.First.{page_of}
use Rattle.first_rendering.proofs.LawLemmas.{first-items, page-alone}
use Rattle.first_rendering.proofs.laws.compiled_components_have_their_first_pages.Goals as goal

pub returns : goal.returns
returns c = λ component compiled known. ap page_of (first-items component compiled known) ∙ page-alone component
