use Rattle.std.proofs.Common.{◌≡◌, ◌++◌, length}
use Rattle.std.specs.Prelude.{reverse}
use Rattle.plain_page.proofs.stage.unpacked.Given as goal

-- the fields that are left, and behind them those taken, the last first
abbrev pub invariant-loop-field : goal.invariant-loop-field
invariant-loop-field l = l.left ++ reverse l.all.items ≡ l.initial.left

abbrev pub decreases-loop-field : goal.decreases-loop-field
decreases-loop-field l = length l.left
