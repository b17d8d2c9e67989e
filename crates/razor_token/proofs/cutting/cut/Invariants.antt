use Rattle.cs_token.specs.Walks.{Walk}
use Rattle.razor_token.specs.Cutters.{IsWhere, moment_of, weight}
use Rattle.razor_token.specs.Cutting.{Step, beginning}
use Rattle.razor_token.proofs.cutting.cut.Given as goal

abbrev pub invariant-loop-pieces : goal.invariant-loop-pieces
invariant-loop-pieces l = record {
  there : IsWhere l.text l.cutter;
  laid : Walk Step (beginning l.text) l.pieces.items (moment_of l.text l.cutter);
}

abbrev pub decreases-loop-pieces : goal.decreases-loop-pieces
decreases-loop-pieces l = weight l.text l.cutter
