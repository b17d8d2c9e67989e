-- Steps of a history one after the other.
use Rattle.std.proofs.Common.{◌≡◌, ◌∙◌, refl, ap, sym, subst, ℕ, zero, suc, ◌+◌, List, [], ◌∷◌, ◌++◌, take, slice_get, Option, Some, None}
use Rattle.handler_ids.specs.declared.handler_value.HandlerValue.{HandlerValue}
use Rattle.handler_ids.specs.History.{Past}
use Rattle.handler_ids.specs.Kept.{Kept, Stands, Leads}
use Rattle.frame_walk.specs.Ids.{IsNumbered, Numbered, numbered_none, numbered_more, IsDisposed, Disposed, disposed_none, disposed_more}
use Rattle.item_edits.proofs.ReachLemmas.{take-get}

pub leads-still : (kept : Kept) (relation : List Past → List Past → Type 0) → ((history : List Past) → relation history history) → Leads kept kept relation
leads-still kept relation still = (refl, λ history stands. (history, stands, still history))

pub leads-then : (before middle after : Kept) (first second all : List Past → List Past → Type 0) → ((history next last : List Past) → first history next → second next last → all history last)
    → Leads before middle first → Leads middle after second → Leads before after all
leads-then before middle after first second all joined one other = (
  other.0 ∙ one.0,
  λ history stands.
      let a = one.1 history stands in
      let b = other.1 a.0 a.1 in
      (b.0, b.1, joined history a.0 b.0 a.2 b.2),
)

pub leads-weaker : (before after : Kept) (first second : List Past → List Past → Type 0) → ((history next : List Past) → first history next → second history next) → Leads before after first → Leads before after second
leads-weaker before after first second weaker leads = (leads.0, λ history stands. let a = leads.1 history stands in (a.0, a.1, weaker history a.0 a.2))

-- one more id that is kept or given
pub numbered-next : (before middle after : Kept) (batch k id : ℕ) (kept : List (Option ℕ)) (values : List HandlerValue) (ids : List ℕ) (place : Option ℕ) (value : HandlerValue) → slice_get kept k ≡ Some place → slice_get values k ≡ Some value
    → Leads before middle (Numbered batch (take k kept) (take k values) ids) → Leads middle after (IsNumbered batch place value id) → Leads before after (Numbered batch (take (k + 1) kept) (take (k + 1) values) (ids ++ id ∷ []))
numbered-next before middle after batch k id kept values ids place value is there leads one =
    leads-then before middle after (Numbered batch (take k kept) (take k values) ids) (IsNumbered batch place value id) (Numbered batch (take (k + 1) kept) (take (k + 1) values) (ids ++ id ∷ []))
    (λ history next last so_far more.
    subst (λ (ks : List (Option ℕ)). Numbered batch ks (take (k + 1) values) (ids ++ id ∷ []) history last) (sym (take-get kept k place is))
    (subst (λ (vs : List HandlerValue). Numbered batch (take k kept ++ place ∷ []) vs (ids ++ id ∷ []) history last) (sym (take-get values k value there))
    (numbered_more batch id (take k kept) place (take k values) value ids history next last so_far more)))
    leads one

pub numbered-start : (kept : Kept) (batch : ℕ) → Leads kept kept (Numbered batch [] [] [])
numbered-start kept batch = leads-still kept (Numbered batch [] [] []) (numbered_none batch)

pub disposed-start : (kept : Kept) (batch released : ℕ) → Leads kept kept (Disposed batch released [])
disposed-start kept batch released = leads-still kept (Disposed batch released []) (disposed_none batch released)

-- one more id that is disposed
pub disposed-next : (before middle after : Kept) (batch released k id : ℕ) (ids : List ℕ) → slice_get ids k ≡ Some id
    → Leads before middle (Disposed batch released (take k ids)) → Leads middle after (IsDisposed batch released id) → Leads before after (Disposed batch released (take (k + 1) ids))
disposed-next before middle after batch released k id ids is leads disposed =
    leads-then before middle after (Disposed batch released (take k ids)) (IsDisposed batch released id) (Disposed batch released (take (k + 1) ids))
    (λ history next last so_far one. subst (λ (them : List ℕ). Disposed batch released them history last) (sym (take-get ids k id is)) (disposed_more batch released id (take k ids) history next last so_far one)) leads disposed
