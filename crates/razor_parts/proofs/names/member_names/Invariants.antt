use Rattle.std.proofs.Common.{◌≡◌, ◌++◌, drop, reverse}
use Rattle.razor_rules.specs.Members.{none_before, names_behind}
use Rattle.razor_parts.specs.Views.{before_of}
use Rattle.razor_parts.proofs.names.member_names.Given as goal

-- the names of the rest, and those so far, the last one first
abbrev pub invariant-loop-member : goal.invariant-loop-member
invariant-loop-member l =
    names_behind l.first none_before l.members ≡ names_behind l.first (before_of l.before) (drop l.member-index l.members) ++ reverse l.names
