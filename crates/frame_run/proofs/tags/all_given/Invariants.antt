use Rattle.std.proofs.Common.{◌≡◌, ◌≤◌, drop, map}
use Rattle.cs_ast.specs.declared.value.Value.TheVariants.{Null}
use Rattle.drawing_meaning.specs.Tags.{all_given}
use Rattle.frame_program.specs.Operations.{given_by}
use Rattle.frame_run.specs.Agrees.{reached, stage_in}
use Rattle.frame_run.proofs.SequenceLemmas.{given_before}
use Rattle.frame_run.proofs.tags.all_given.Given as goal

-- the parameters so far, and what the other parts give behind the key so far
abbrev pub invariant-loop-part : goal.invariant-loop-part
invariant-loop-part g l =
    let stage = stage_in l.around (g.O.Owners.parameters l.owners) in
    record {
      less : l.progress.left ≤ l.fn.progress.left;
      same : all_given (map given_by l.parts) stage Null (reached l.fn.progress (g.O.Owners.fields l.owners)) ≡ given_before l.supplied (all_given (map given_by (drop l.part-index l.parts)) stage l.key (reached l.progress (g.O.Owners.fields l.owners)));
    }
