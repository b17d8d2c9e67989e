use Rattle.alone_pages.proofs.Pages.{shown}
use Rattle.alone_pages.proofs.laws.components_alone_show_a_page.Goals as goal

pub returns : goal.returns
returns c = shown
