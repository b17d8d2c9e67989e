-- A walk from its steps.
use Rattle.std.proofs.Common.{◌≡◌, ◌∙◌, refl, ap, sym, subst, ℕ, ◌+◌, List, [], ◌∷◌, ◌++◌, length, arith, length-append}
use Rattle.frame_core.specs.declared.item.Item.{Item}
use Rattle.handler_ids.specs.History.{Past}
use Rattle.handler_ids.specs.Kept.{Kept, Leads}
use Rattle.frame_walk.specs.Ids.{values_of, ids_of, gone_from, Disposed}
use Rattle.frame_walk.specs.Told.{Takes}
use Rattle.frame_walk.specs.Keeping.{Gives, Walks}
use Rattle.frame_walk.proofs.LeadsLemmas.{leads-then}

empty : {X : Type 0} (xs : List X) → length xs ≡ 0 → xs ≡ []
empty [] none = refl
empty (x ∷ xs) none = absurd (omega arith)

-- all ids are taken
pub all-taken : (ids left own : List ℕ) → ids ≡ left ++ own → length own ≡ length ids → ids ≡ own
all-taken ids left own split long =
    let parts : length ids ≡ length left + length own = ap length split ∙ length-append left own in
    let none : left ≡ [] = empty left (omega arith) in
    split ∙ ap (λ (xs : List ℕ). xs ++ own) none

pub taken : (news items : List Item) (ids left : List ℕ) → Takes ids left (ids_of items) (values_of news) → length ids ≡ length (values_of news) → ids ≡ ids_of items
taken news items ids left takes long = all-taken ids left (ids_of items) takes.split (takes.long ∙ sym long)

pub walks : (before middle after : Kept) (batch : ℕ) (olds news items : List Item) (ids left gone : List ℕ) → Leads before middle (Gives batch olds news ids) → Leads middle after (Disposed batch middle.released gone)
    → Takes ids left (ids_of items) (values_of news) → length ids ≡ length (values_of news) → Leads before after (Walks batch before.released olds news items gone)
walks before middle after batch olds news items ids left gone gives disposed takes long =
    let all = taken news items ids left takes long in
    leads-then before middle after (Gives batch olds news ids) (Disposed batch middle.released gone) (Walks batch before.released olds news items gone)
    (λ history next last one two. (
      next,
      subst (λ (is : List ℕ). Gives batch olds news is history next) all one,
      subst (λ n. Disposed batch n gone next last) gives.0 two,
    ))
    gives disposed
