use Rattle.page_typing.proofs.Whole.{items_show}
use Rattle.page_typing.proofs.laws.items_without_components_show_a_page.Goals as goal

pub returns : goal.returns
returns c = items_show
