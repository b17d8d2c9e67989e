use Rattle.first_click.proofs.Reading.FileNameLemmas.{with_ending}
use Rattle.first_click.proofs.file_name.names_component.Goals as goal

pub returns-in-Some : goal.returns-in-Some
returns-in-Some c =
    rw c.is_component_name.ensures
    (with_ending c.args.path.now c.base_name.result.now c.in-Some.name.now c.base_name.ensures c.in-Some.ensures.cases.0 c.in-Some.ensures.cases.1)
