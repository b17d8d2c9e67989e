use Rattle.std.specs.Prelude.{◌==◌, if◌then◌else◌, [], None, slice_get}
use Rattle.cs_meaning.specs.State.{state}
use Rattle.cs_meaning.specs.Meaning.{setting}
use Rattle.cs_meaning.proofs.FirstFormLemmas.{never_stuck}
use Rattle.cs_eval_tests.proofs.NumberLemmas.{two_numbers}
use Rattle.cs_eval_tests.proofs.first_forms.run.Goals as goal

pub run_code-ran-requires : goal.run_code-ran-requires
run_code-ran-requires g c =
    let fields = c.in_ok-owners.owners.fields in
    never_stuck (setting 1 (λ who at. None) c.new-bodies.result 1) 2 c.args.code.now (state c.no_locals-locals.result.values.items (λ who at. if who == 1 then slice_get fields at else None) [] c.args.left) c.requires (two_numbers _ _ fields c.in_ok-owners.ensures)
