-- The edits of a list, from its first slot to its last.
use Rattle.std.proofs.Common.{◌≡◌, ◌∙◌, refl, ap, sym, subst, ℕ, zero, suc, ◌+◌, ◌*◌, ◌<◌, ◌^◌, List, [], ◌∷◌, ◌++◌, length, map, get_or, slice_get, Option, Some, None, arith}
use Rattle.std.proofs.lemmas.List.{length-map}
use Rattle.frame_core.specs.declared.item.Item.{Item}
use Rattle.frame_core.specs.declared.wire_node.WireNode.{WireNode}
use Rattle.frame_core.specs.declared.edit.Edit.{Edit}
use Rattle.edit_meaning.specs.declared.browser_node.BrowserNode.{BrowserNode}
use Rattle.edit_meaning.specs.Counted.{counts_in}
use Rattle.pairing_meaning.specs.Labels.{label_of}
use Rattle.pairing_meaning.specs.Slots.{Slot, slots_of}
use Rattle.pairing_meaning.specs.Births.{TellsSlots}
use Rattle.pairing_meaning.specs.Wires.{wires_of}
use Rattle.pairing_meaning.specs.Tallies.{list_edits, Totals}
use Rattle.pairing_meaning.specs.Turning.{Turns, Leads}
use Rattle.item_pairing.specs.declared.slots.Slot.{Slot as Held}
use Rattle.item_pairing.specs.Standing.{slot_of}
use Rattle.sibling_edits.specs.Matched.{carried}
use Rattle.item_edits.specs.Renderings.{size_of, sizes, AllClear}
use Rattle.item_edits.specs.Steps.{Fits, AllFit, IsLike, Inner, Stands}
use Rattle.item_edits.proofs.MatchedLemmas.{tells-long}
use Rattle.item_edits.proofs.ReachLemmas.{reached-start, reached-end}
use Rattle.item_edits.proofs.CountLemmas.{summed-start, summed-end}
use Rattle.item_edits.proofs.InheritLemmas.{wires-long}
use Rattle.item_edits.proofs.RenderingLemmas.{slot-size, fit-slots, slots-few}
use Rattle.item_edits.proofs.SlotPairLemmas.{get-read, get-map, like-pair, reached-more, summed-more}

there-within : {X : Type 0} (xs : List X) (k : ℕ) → k < length xs → (x : X) × (slice_get xs k ≡ Some x)
there-within [] k within = absurd (omega arith)
there-within (x ∷ xs) zero within = (x, refl)
there-within (x ∷ xs) (suc k) within = there-within xs k (omega arith)

module _ (olds news : List Item) (olds_held news_held : List Held) (from : List (Option ℕ)) (is_old : map slot_of olds_held ≡ slots_of olds) (is_new : map slot_of news_held ≡ slots_of news)
    (tells : TellsSlots (map slot_of olds_held) (map slot_of news_held) from) where
  pub told : TellsSlots (slots_of olds) (slots_of news) from
  told = subst (λ (s : List Slot). TellsSlots s (slots_of news) from) is_old (subst (λ (s : List Slot). TellsSlots (map slot_of olds_held) s from) is_new tells)

  pub as_long : length from ≡ length news_held
  as_long = tells-long (map slot_of olds_held) (map slot_of news_held) from tells ∙ length-map news_held slot_of

  pub news_few : length news_held ≡ length (slots_of news)
  news_few = sym (length-map news_held slot_of) ∙ ap length is_new

  pub olds_few : length olds_held ≡ length (slots_of olds)
  olds_few = sym (length-map olds_held slot_of) ∙ ap length is_old

  pub there-new : (k : ℕ) (new : Held) → k < length news_held → new ≡ get_or news_held k new → slice_get (map slot_of news_held) k ≡ Some (slot_of new)
  there-new k new within is = get-map slot_of news_held k new (get-read news_held k new within is)

  pub like-new : (k : ℕ) (place : Option ℕ) (new : Held) → k < length news_held → new ≡ get_or news_held k new → slice_get from k ≡ Some place → IsLike place (map slot_of olds_held) (label_of new.item.now)
  like-new k place new within is at = like-pair olds_held news_held from k place (slot_of new) tells at (there-new k new within is)

  pub fits-new : (k : ℕ) (new : Held) → sizes news < 2 ^ 31 → AllClear news → k < length news_held → new ≡ get_or news_held k new → Fits new.item.now
  fits-new k new few clear within is = fit-slots news few clear k (slot_of new) (subst (λ (s : List Slot). slice_get s k ≡ Some (slot_of new)) is_new (there-new k new within is))

  pub fit-olds : sizes olds < 2 ^ 31 → AllClear olds → AllFit (map slot_of olds_held)
  fit-olds few clear = subst (λ (s : List Slot). AllFit s) (sym is_old) (fit-slots olds few clear)

  pub smaller-new : (k : ℕ) (new : Held) → k < length news_held → new ≡ get_or news_held k new → 3 * size_of new.item.now + 1 < 3 * sizes news + 2
  smaller-new k new within is =
      let less = slot-size news k (slot_of new) (subst (λ (s : List Slot). slice_get s k ≡ Some (slot_of new)) is_new (there-new k new within is)) in
      omega arith

  pub starts : (edits : List Edit) → ((batch : ℕ) (old : List BrowserNode) → length old ≡ length olds_held → Turns batch edits old (carried batch from (wires_of news) old))
      → ((to : List (Option ℕ)) × TellsSlots (map slot_of news_held) (map slot_of olds_held) to × (counts_in edits ≡ list_edits from to)) → Stands 0 from (slots_of olds) (slots_of news) (wires_of news) edits
  starts edits turns counts = (
    reached-start from (slots_of olds) (slots_of news) (wires_of news) edits (λ batch old long. turns batch old (long ∙ sym olds_few)),
    (
      counts.0,
      subst (λ (s : List Slot). TellsSlots s (slots_of olds) counts.0) is_new (subst (λ (s : List Slot). TellsSlots (map slot_of news_held) s counts.0) is_old counts.1),
      summed-start from counts.0 (slots_of olds) (slots_of news) edits counts.2,
    ),
  )

  pub goes_on : (k : ℕ) (place : Option ℕ) (new : Held) (edits inner after : List Edit) → k < length news_held → new ≡ get_or news_held k new → slice_get from k ≡ Some place → Inner k place (map slot_of olds_held) new.item.now inner
      → after ≡ edits ++ inner → Stands k from (slots_of olds) (slots_of news) (wires_of news) edits → Stands (k + 1) from (slots_of olds) (slots_of news) (wires_of news) after
  goes_on k place new edits inner after within is at made all stands =
      let there : slice_get (slots_of news) k ≡ Some (slot_of new) = subst (λ (s : List Slot). slice_get s k ≡ Some (slot_of new)) is_new (there-new k new within is) in
      let long : length (wires_of news) ≡ length from = wires-long news ∙ sym news_few ∙ sym as_long in
      let fewer : k < length (wires_of news) = (let same = long in let equal = as_long in omega arith) in
      let wire = there-within (wires_of news) k fewer in
      let inside : Inner k place (slots_of olds) new.item.now inner = subst (λ (s : List Slot). Inner k place s new.item.now inner) is_old made in
      subst (λ (es : List Edit). Stands (k + 1) from (slots_of olds) (slots_of news) (wires_of news) es) (sym all) (
        reached-more k place from (slots_of olds) (slots_of news) (wires_of news) edits inner (slot_of new) wire.0 told long at there wire.1 inside stands.0,
        (stands.1.0, stands.1.1, summed-more k place from stands.1.0 (slots_of olds) (slots_of news) edits inner (slot_of new) told at there inside stands.1.2),
      )

  whole : (k : ℕ) (edits : List Edit) → k ≡ length news_held → Stands k from (slots_of olds) (slots_of news) (wires_of news) edits → Stands (length from) from (slots_of olds) (slots_of news) (wires_of news) edits
  whole k edits all stands = subst (λ n. Stands n from (slots_of olds) (slots_of news) (wires_of news) edits) (all ∙ sym as_long) stands

  pub leads-end : (k : ℕ) (edits : List Edit) → k ≡ length news_held → Stands k from (slots_of olds) (slots_of news) (wires_of news) edits → Leads edits olds news
  leads-end k edits all stands batch old shows =
      let r = reached-end from (slots_of olds) (slots_of news) (wires_of news) edits (as_long ∙ news_few) (wires-long news) (whole k edits all stands).0 batch old shows in
      (r.0, from, told, r.1, r.2)

  pub totals-end : (k : ℕ) (edits : List Edit) → k ≡ length news_held → Stands k from (slots_of olds) (slots_of news) (wires_of news) edits → Totals (slots_of olds) (slots_of news) (counts_in edits)
  totals-end k edits all stands =
      let w = whole k edits all stands in
      summed-end from w.1.0 (slots_of olds) (slots_of news) edits told w.1.1 (as_long ∙ news_few) w.1.2

pub tells-by : (olds one news other : List Held) (from same : List (Option ℕ)) → one ≡ olds → other ≡ news → same ≡ from → TellsSlots (map slot_of olds) (map slot_of news) from → TellsSlots (map slot_of one) (map slot_of other) same
tells-by olds one news other from same a b d tells =
    subst (λ (s : List Held). TellsSlots (map slot_of s) (map slot_of other) same) (sym a)
    (subst (λ (s : List Held). TellsSlots (map slot_of olds) (map slot_of s) same) (sym b)
    (subst (λ (f : List (Option ℕ)). TellsSlots (map slot_of olds) (map slot_of news) f) (sym d) tells))

pub few-slots : (items : List Item) (held same : List Held) → map slot_of held ≡ slots_of items → same ≡ held → sizes items < 2 ^ 31 → length same < 2 ^ 31
few-slots items held same is equal few =
    let long : length same ≡ length (slots_of items) = ap length equal ∙ sym (length-map held slot_of) ∙ ap length is in
    let less = slots-few items in
    omega arith

pub as-wires : (items : List Item) (held same : List Held) (nodes : List WireNode) → map slot_of held ≡ slots_of items → same ≡ held → nodes ≡ wires_of items → length nodes ≡ length same
as-wires items held same nodes is equal said = ap length said ∙ wires-long items ∙ sym (ap length equal ∙ sym (length-map held slot_of) ∙ ap length is)

-- what the edits of the places are
pub begins : (olds news : List Item) (olds_held news_held : List Held) (from told_from : List (Option ℕ)) (nodes : List WireNode) (edits : List Edit) → map slot_of olds_held ≡ slots_of olds → map slot_of news_held ≡ slots_of news
    → TellsSlots (map slot_of olds_held) (map slot_of news_held) told_from → from ≡ told_from → nodes ≡ wires_of news
    → ((batch : ℕ) (old : List BrowserNode) → length old ≡ length olds_held → Turns batch edits old (carried batch told_from nodes old))
    → ((to : List (Option ℕ)) × TellsSlots (map slot_of news_held) (map slot_of olds_held) to × (counts_in edits ≡ list_edits told_from to)) → Stands 0 from (slots_of olds) (slots_of news) (wires_of news) edits
begins olds news olds_held news_held from told_from nodes edits is_old is_new tells same said turns counts =
    subst (λ (f : List (Option ℕ)). Stands 0 f (slots_of olds) (slots_of news) (wires_of news) edits) (sym same)
    (starts olds news olds_held news_held told_from is_old is_new tells edits
    (λ batch old long. subst (λ (ns : List WireNode). Turns batch edits old (carried batch told_from ns old)) said (turns batch old long)) counts)
