use Rattle.std.proofs.Common.{◌≡◌, ◌+◌, ◌≤◌, length}
use Rattle.cs_parse.specs.TypeReading.{type_first}
use Rattle.cs_parse.proofs.OpenTypeLaws.{meant}
use Rattle.cs_parse.proofs.types.type_first.Given as goal

-- what waits and what is left make the type that stands first
abbrev pub invariant-loop-waiting : goal.invariant-loop-waiting
invariant-loop-waiting l =
    record {
      within : length l.left + length l.waiting ≤ length l.tokens;
      same : meant l.tokens l.waiting l.left ≡ type_first l.tokens;
    }

abbrev pub decreases-loop-waiting : goal.decreases-loop-waiting
decreases-loop-waiting l = length l.left
