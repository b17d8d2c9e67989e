use Rattle.razor_reader.proofs.AnswerComplete.{one_component}
use Rattle.razor_reader.proofs.laws.a_file_spells_one_component.Goals as goal

pub returns : goal.returns
returns c = one_component
