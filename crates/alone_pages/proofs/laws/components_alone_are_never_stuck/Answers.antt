use Rattle.alone_pages.proofs.Pages.{never_stuck}
use Rattle.alone_pages.proofs.laws.components_alone_are_never_stuck.Goals as goal

pub returns : goal.returns
returns c = never_stuck
