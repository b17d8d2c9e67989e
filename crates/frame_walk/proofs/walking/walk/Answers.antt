use Rattle.std.proofs.Common.{◌≡◌, ◌∙◌, ap, sym, subst, ℕ, ◌<◌, List, length, map}
use Rattle.frame_core.specs.declared.item.Item.{Item}
use Rattle.pairing_meaning.specs.Components.{orders_of}
use Rattle.pairing_meaning.specs.Turning.{Leads as LeadsTo}
use Rattle.handler_ids.specs.Kept.{Leads}
use Rattle.item_components.specs.Listed.{without}
use Rattle.frame_walk.specs.Ids.{values_of, ids_of, bare, Disposed}
use Rattle.frame_walk.specs.Keeping.{Gives}
use Rattle.frame_walk.proofs.BareLemmas.{same-sizes, same-clear}
use Rattle.frame_walk.proofs.WalkLemmas.{walks}
use Rattle.frame_walk.proofs.walking.walk.Goals as goal

pub edits_of-requires-clause-few : goal.edits_of-requires-clause-few
edits_of-requires-clause-few c =
    let same : map bare c.args.new ≡ map bare c.as_slice-8.result.now = sym c.in_ok-items.ensures.bare ∙ ap (map bare) (sym c.as_slice-8.ensures) in
    subst (λ n. n < 2147483648) (same-sizes c.args.new c.as_slice-8.result.now same) c.requires.few

pub edits_of-requires-clause-clear : goal.edits_of-requires-clause-clear
edits_of-requires-clause-clear c =
    let same : map bare c.args.new ≡ map bare c.as_slice-8.result.now = sym c.in_ok-items.ensures.bare ∙ ap (map bare) (sym c.as_slice-8.ensures) in
    same-clear c.args.new c.as_slice-8.result.now same c.requires.clear

pub returns-clause-ids : goal.returns-clause-ids
returns-clause-ids c =
    walks c.args.handlers.now c.ids_for.new.handlers c.dispose_all.new.handlers c.args.batch c.args.old.now c.args.new c.in_ok-items.items c.in_ok-ids.ids c.items_with_ids.new.ids c.sort.new.self.items
    (subst (λ (news : List Item). Leads c.args.handlers.now c.ids_for.new.handlers (Gives c.args.batch c.args.old.now news c.in_ok-ids.ids)) c.as_slice-5.ensures c.in_ok-ids.ensures.gives)
    (subst (λ (gone : List ℕ). Leads c.ids_for.new.handlers c.dispose_all.new.handlers (Disposed c.args.batch c.ids_for.new.handlers.released gone)) c.as_slice-7.ensures.value c.dispose_all.ensures)
    c.in_ok-items.ensures.ids (c.in_ok-ids.ensures.long ∙ ap (λ (news : List Item). length (values_of news)) c.as_slice-5.ensures)

pub returns-clause-leads : goal.returns-clause-leads
returns-clause-leads c = subst (λ (news : List Item). LeadsTo c.in_ok-edits.edits c.args.old.now news) c.as_slice-8.ensures c.in_ok-edits.ensures.leads

pub returns-clause-made : goal.returns-clause-made
returns-clause-made c =
    c.in_ok-made.ensures
    ∙ ap (λ (pairs : List (ℕ × ℕ)). without (map (λ (pair : ℕ × ℕ). pair.1) pairs) (orders_of c.as_slice-3.result.now)) c.as_slice-2.ensures
    ∙ ap (λ (news : List Item). without (map (λ (pair : ℕ × ℕ). pair.1) c.in_ok-retained.retained) (orders_of news)) c.as_slice-3.ensures

pub returns-clause-disposed : goal.returns-clause-disposed
returns-clause-disposed c =
    c.in_ok-disposed.ensures ∙ ap (λ (pairs : List (ℕ × ℕ)). without (map (λ (pair : ℕ × ℕ). pair.0) pairs) (orders_of c.args.old.now)) c.as_slice-4.ensures
