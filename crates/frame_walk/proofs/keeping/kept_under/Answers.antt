use Rattle.std.proofs.Common.{ℕ, List, [], Option, subst, sym}
use Rattle.frame_walk.specs.Keeping.{KeepsUnder, keeps_nothing}
use Rattle.frame_walk.proofs.keeping.kept_under.Goals as goal

pub loop-attribute-init : goal.loop-attribute-init
loop-attribute-init c = subst (λ (ks : List (Option ℕ)). KeepsUnder c.args.was.now [] ks) (sym c.new-kept.ensures) (keeps_nothing c.args.was.now)
