use Rattle.std.proofs.Common.{◌≡◌, ◌++◌, drop, List}
use Rattle.std.specs.Prelude.{option_map}
use Rattle.cs_ast.specs.declared.value.Value.{Value}
use Rattle.cs_meaning.specs.Calls.{picked}
use Rattle.frame_run.proofs.evaluating.picked.Given as goal

-- the values so far, and those that are still to be picked
abbrev pub invariant-loop-at : goal.invariant-loop-at
invariant-loop-at l = picked l.locals l.positions ≡ option_map (λ (it : List Value). l.values ++ it) (picked l.locals (drop l.at-index l.positions))
