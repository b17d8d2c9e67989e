use Rattle.std.proofs.Common.{◌≡◌, ◌+◌, ◌≤◌, length}
use Rattle.cs_parse.specs.MemberReading.{arguments_first}
use Rattle.cs_parse.proofs.MemberTurns.{arguments_meant}
use Rattle.cs_parse.proofs.member.arguments.arguments_first.Given as goal

-- the arguments found and those that are left are all that stand first
abbrev pub invariant-loop-found : goal.invariant-loop-found
invariant-loop-found l =
    record {
      within : length l.left + length l.found ≤ length l.tokens;
      same : arguments_meant l.tokens l.found l.left ≡ arguments_first l.tokens;
    }

abbrev pub decreases-loop-found : goal.decreases-loop-found
decreases-loop-found l = length l.left
