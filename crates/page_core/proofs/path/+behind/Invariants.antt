use Rattle.std.proofs.Common.{length}
use Rattle.page_core.proofs.path.+behind.Given as goal

abbrev pub decreases-behind : goal.decreases-behind
decreases-behind l = length l.places.now
