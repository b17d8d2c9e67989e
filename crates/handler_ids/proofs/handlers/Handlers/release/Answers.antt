use Rattle.std.proofs.Common.{◌≡◌, length, map, ap, ◌∙◌, arith}
use Rattle.std.proofs.lemmas.List.{with_items_is}
use Rattle.handler_ids.specs.Kept.{without_value}
use Rattle.handler_ids.proofs.KeptLemmas.{Stands-release}
use Rattle.handler_ids.proofs.handlers.Handlers.release.Goals as goal

pub invariant_of-self : goal.invariant_of-self
invariant_of-self c =
    let long : length c.let_go.new.entries ≡ c.self.inside.entries.len = omega arith in
    let entries = with_items_is c.self.inside.entries c.let_go.new.entries long ∙ c.let_go.ensures ∙ ap (map (without_value c.args.acked)) c.as_mut_slice.ensures.value in
    (c.self.invariant.0, Stands-release _ _ c.args.acked c.self.invariant.0 c.max-self-inside.ensures entries c.self.invariant.1)

pub returns-clause-history : goal.returns-clause-history
returns-clause-history c = rw (← c.self.view_is) (λ history stands.
    let long : length c.let_go.new.entries ≡ c.self.inside.entries.len = omega arith in
    let entries = with_items_is c.self.inside.entries c.let_go.new.entries long ∙ c.let_go.ensures ∙ ap (map (without_value c.args.acked)) c.as_mut_slice.ensures.value in
    Stands-release _ _ c.args.acked history c.max-self-inside.ensures entries stands)
