use Rattle.std.proofs.Common.{ap, List, ℕ}
use Rattle.std.proofs.Math.Seq.{map-set_same}
use Rattle.first_click.specs.declared.component.Field.{Field}
use Rattle.plain_page.proofs.present.PresentOwners.set.Goals as goal

pub returns-clause-rest : goal.returns-clause-rest
returns-clause-rest c =
    let found = c.index_mut-field.result.now in
    let name : Field → List ℕ = λ field. field.name in
    map-set_same name c.args.self.now.fields.items c.args.at (record { name = c.index_mut-field.result.now.name; value = c.args.value }) c.index_mut-field.result.now
    (ap name c.index_mut-field.ensures.value)
