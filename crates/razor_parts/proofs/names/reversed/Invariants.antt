use Rattle.std.proofs.Common.{◌≡◌, ◌++◌, reverse, length}
use Rattle.razor_parts.proofs.names.reversed.Given as goal

-- those behind the rest, the last one first
abbrev pub invariant-loop-last : goal.invariant-loop-last
invariant-loop-last l = reverse l.initial.names ≡ l.all ++ reverse l.names

abbrev pub decreases-loop-last : goal.decreases-loop-last
decreases-loop-last l = length l.names
