use Rattle.std.proofs.Common.{◌≡◌, ◌≤◌, drop, map}
use Rattle.cs_ast.specs.declared.value.Value.TheVariants.{Null}
use Rattle.drawing_meaning.specs.Attributes.{all_worn}
use Rattle.frame_program.specs.Operations.{dressed_by}
use Rattle.frame_run.specs.Agrees.{reached, stage_in}
use Rattle.frame_run.proofs.SequenceLemmas.{worn_before}
use Rattle.frame_run.proofs.attributes.all_worn.Given as goal

-- the attributes so far, and what the others make behind the key so far
abbrev pub invariant-loop-part : goal.invariant-loop-part
invariant-loop-part g l =
    let stage = stage_in l.around (g.O.Owners.parameters l.owners) in
    record {
      less : l.progress.left ≤ l.fn.progress.left;
      same : all_worn (map dressed_by l.parts) stage Null (reached l.fn.progress (g.O.Owners.fields l.owners)) ≡ worn_before l.worn (all_worn (map dressed_by (drop l.part-index l.parts)) stage l.key (reached l.progress (g.O.Owners.fields l.owners)));
    }
