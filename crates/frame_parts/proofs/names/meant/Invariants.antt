use Rattle.std.proofs.Common.{◌≡◌, reverse, length}
use Rattle.cs_rules.specs.Names.{first_named}
use Rattle.frame_parts.proofs.names.meant.Given as goal

abbrev pub invariant-loop-last : goal.invariant-loop-last
invariant-loop-last l = first_named l.name (reverse l.names) ≡ first_named l.name (reverse l.rest)

abbrev pub decreases-loop-last : goal.decreases-loop-last
decreases-loop-last l = length l.rest
