use Rattle.std.proofs.Common.{◌≡◌, length}
use Rattle.blazor_top.specs.Command.{names_in}
use Rattle.blazor_top.proofs.CommandLemmas.{behind}
use Rattle.blazor_top.proofs.command.names_in.Given as goal

-- the names so far, and behind them those in the words that are left
abbrev pub invariant-loop-rest : goal.invariant-loop-rest
invariant-loop-rest l = behind l.names (names_in l.rest) ≡ names_in l.words

abbrev pub decreases-loop-rest : goal.decreases-loop-rest
decreases-loop-rest l = length l.rest
