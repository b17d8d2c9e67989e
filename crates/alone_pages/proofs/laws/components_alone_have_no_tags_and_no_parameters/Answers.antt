use Rattle.alone_pages.proofs.Members.{without_tags, without_parameters}
use Rattle.alone_pages.proofs.laws.components_alone_have_no_tags_and_no_parameters.Goals as goal

pub returns : goal.returns
returns c = λ component e. (without_tags component e, without_parameters component e)
