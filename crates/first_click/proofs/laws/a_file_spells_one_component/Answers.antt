use Rattle.first_click.proofs.Reading.SpellingLemmas.{one_component}
use Rattle.first_click.proofs.laws.a_file_spells_one_component.Goals as goal

pub returns : goal.returns
returns c = one_component
