use Rattle.alone_pages.proofs.Pages.{parts_come}
use Rattle.alone_pages.proofs.laws.components_alone_come_to_their_parts.Goals as goal

pub returns : goal.returns
returns c = parts_come
