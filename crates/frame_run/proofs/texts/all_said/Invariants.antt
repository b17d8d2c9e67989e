use Rattle.std.proofs.Common.{◌≡◌, ◌≤◌, drop, map}
use Rattle.drawing_meaning.specs.Texts.{all_said}
use Rattle.frame_program.specs.Operations.{said_by}
use Rattle.frame_run.specs.Agrees.{reached, stage_in}
use Rattle.frame_run.proofs.SequenceLemmas.{said_before}
use Rattle.frame_run.proofs.texts.all_said.Given as goal

-- the text so far, and what the other parts show
abbrev pub invariant-loop-part : goal.invariant-loop-part
invariant-loop-part g l =
    let stage = stage_in l.around (g.O.Owners.parameters l.owners) in
    record {
      less : l.progress.left ≤ l.fn.progress.left;
      same : all_said (map said_by l.parts) stage (reached l.fn.progress (g.O.Owners.fields l.owners)) ≡ said_before l.text (all_said (map said_by (drop l.part-index l.parts)) stage (reached l.progress (g.O.Owners.fields l.owners)));
    }
