use Rattle.plain_page.proofs.SpelledLemmas.{spelled_runs}
use Rattle.plain_page.proofs.laws.what_a_file_spells_can_run.Goals as goal

pub returns : goal.returns
returns c = spelled_runs
