use Rattle.std.proofs.Common.{◌≡◌, ◌+◌, drop}
use Rattle.razor_token.specs.Runs.{run}
use Rattle.razor_token.proofs.runs.run.Given as goal

abbrev pub invariant-loop-at : goal.invariant-loop-at
invariant-loop-at l = run l.kind l.text ≡ l.at + run l.kind (drop l.at l.text)
