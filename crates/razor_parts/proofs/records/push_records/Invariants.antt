use Rattle.std.proofs.Common.{◌≡◌, ◌++◌, drop}
use Rattle.std.specs.Prelude.{filter}
use Rattle.razor_rules.specs.Members.{is_record}
use Rattle.razor_parts.proofs.records.push_records.Given as goal

-- those so far, and those of the rest
abbrev pub invariant-loop-member : goal.invariant-loop-member
invariant-loop-member l =
    l.fn.records ++ filter (λ one. is_record one.kind) l.members ≡ l.records ++ filter (λ one. is_record one.kind) (drop l.member-index l.members)
