use Rattle.std.proofs.Common.{◌≡◌, drop}
use Rattle.page_meaning.specs.Captures.{with_captured}
use Rattle.razor_rules.specs.Scopes.{member_scope}
use Rattle.frame_parts.specs.Views.{home_in}
use Rattle.frame_parts.proofs.captures.inner_scope.Given as goal

abbrev pub invariant-loop-one : goal.invariant-loop-one
invariant-loop-one l = with_captured l.captured (member_scope (home_in l.site)) ≡ with_captured (drop l.one-index l.captured) l.scope
