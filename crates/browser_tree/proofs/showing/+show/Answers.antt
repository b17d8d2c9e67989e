use Rattle.std.proofs.Common.{rules, subst, ◌≡◌, ◌<◌, ◌+◌, ◌-◌, ◌*◌, ℕ}
use Rattle.edit_meaning.specs.Shown.{component_shown}
use Rattle.std.specs.Ordering.{nat_cmp}
use Rattle.std.specs.BTreeMap.{is_at}
use Rattle.browser_tree.proofs.Depths.{falls_within, wide, deepest_of}
use Rattle.browser_tree.proofs.ShownLemmas.{shown_element}
use Rattle.browser_tree.proofs.showing.+show.Goals as goal

pub show-returns-in_ok-push-in-Element : goal.show-returns-in_ok-push-in-Element
show-returns-in_ok-push-in-Element t c =
    let is = shown_element (component_shown c.args.within c.args.tree.now.entries) c.in-Element.born c.in-Element.name c.in-Element.names c.in-Element.children
    in search rules

pub show_component-show_all-requires : goal.show_component-show_all-requires
show_component-show_all-requires t c =
    let less = falls_within c.args.within c.args.tree.now.entries (is_at (nat_cmp c.args.number)) c.as_slice.result.now (search rules) (search rules)
    in (subst (λ n. (c.args.within - 1) * wide c.args.tree.now.entries + 2 * deepest_of c.as_slice.result.now + 3 < n) c.decreases less, tt)
