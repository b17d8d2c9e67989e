use Rattle.component_files.proofs.FileLemmas.{same_components, never_fails}
use Rattle.component_files.proofs.laws.files_spell_one_list_of_components.Goals as goal

pub returns-clause-one : goal.returns-clause-one
returns-clause-one c = same_components

pub returns-clause-all : goal.returns-clause-all
returns-clause-all c = never_fails
