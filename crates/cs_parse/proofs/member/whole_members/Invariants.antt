use Rattle.std.proofs.Common.{◌≡◌, ◌+◌, ◌≤◌, length}
use Rattle.cs_parse.specs.MemberReading.{whole_members}
use Rattle.cs_parse.proofs.MemberTurns.{members_meant}
use Rattle.cs_parse.proofs.member.whole_members.Given as goal

-- the members found and those that are left are all
abbrev pub invariant-loop-left : goal.invariant-loop-left
invariant-loop-left l =
    record {
      within : length l.left + length l.found ≤ length l.tokens;
      same : members_meant l.tokens l.found l.left ≡ whole_members l.tokens;
    }

abbrev pub decreases-loop-left : goal.decreases-loop-left
decreases-loop-left l = length l.left
