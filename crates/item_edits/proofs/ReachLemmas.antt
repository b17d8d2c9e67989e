-- One more place has what is meant.
use Rattle.std.proofs.Common.{◌≡◌, ℕ, zero, suc, ◌+◌, ◌<◌, ◌≤◌, List, [], ◌∷◌, ◌++◌, length, map, take, drop, slice_get, Option, Some, None, refl, sym, ap, ◌∙◌, subst, arith, add-one, append_assoc, append-nil, length-append}
use Rattle.std.specs.Option.{option_map}
use Rattle.std.proofs.lemmas.List.{length-map, drop_all, take_all}
use Rattle.std.proofs.lemmas.Option.{slice_get-map}
use Rattle.frame_core.specs.declared.wire_node.WireNode.{WireNode}
use Rattle.frame_core.specs.declared.edit.Edit.{Edit}
use Rattle.edit_meaning.specs.declared.browser_node.BrowserNode.{BrowserNode}
use Rattle.edit_meaning.specs.Made.{made}
use Rattle.pairing_meaning.specs.Slots.{Slot}
use Rattle.pairing_meaning.specs.Births.{Shows, ShowEach, show_none, show_more, TellsSlots, Becomes, Places, places_none, places_new, places_kept}
use Rattle.pairing_meaning.specs.Turning.{Turns}
use Rattle.sibling_edits.specs.Matched.{carried}
use Rattle.sibling_edits.proofs.TurnLemmas.{turns-append, turns-same}
use Rattle.sibling_edits.proofs.PlanLemmas.{carried-none, carried-some, length-carried}
use Rattle.item_edits.specs.Steps.{Changes, Starts, Reached}

shows-length : (olds : List Slot) (xs : List BrowserNode) → ShowEach olds xs → length xs ≡ length olds
shows-length olds xs show_none = refl
shows-length olds xs (show_more slot shown slots nodes s rest) = ap suc (shows-length slots nodes rest)

shows-get : (olds : List Slot) (xs : List BrowserNode) (k : ℕ) (o : Slot) → ShowEach olds xs → slice_get olds k ≡ Some o → (x : BrowserNode) × (slice_get xs k ≡ Some x) × Shows o.item x
shows-get olds xs k o show_none e = absurd (cc)
shows-get olds xs zero o (show_more slot shown slots nodes s rest) e = let same : slot ≡ o = cc in (shown, refl, subst (λ (z : Slot). Shows z.item shown) same s)
shows-get olds xs (suc k) o (show_more slot shown slots nodes s rest) e = shows-get slots nodes k o rest e

drop-get : {X : Type 0} (ys : List X) (k : ℕ) (y : X) → slice_get ys k ≡ Some y → drop k ys ≡ y ∷ drop (k + 1) ys
drop-get [] k y e = absurd (cc)
drop-get (x ∷ ys) zero y e = let same : x ≡ y = cc in ap (λ z. z ∷ ys) same
drop-get (x ∷ ys) (suc k) y e = drop-get ys k y e ∙ ap (λ n. y ∷ drop n (x ∷ ys)) (let s : suc (k + 1) ≡ suc k + 1 = omega arith in s)

pub take-get : {X : Type 0} (ys : List X) (k : ℕ) (y : X) → slice_get ys k ≡ Some y → take (k + 1) ys ≡ take k ys ++ y ∷ []
take-get [] k y e = absurd (cc)
take-get (x ∷ ys) zero y e = let same : x ≡ y = cc in ap (λ z. z ∷ []) same
take-get (x ∷ ys) (suc k) y e = ap (λ n. take n (x ∷ ys)) (let s : suc k + 1 ≡ suc (k + 1) = omega arith in s) ∙ ap (λ zs. x ∷ zs) (take-get ys k y e)

pub reached-start : (from : List (Option ℕ)) (olds news : List Slot) (wires : List WireNode) (edits : List Edit) → Starts from olds wires edits → Reached 0 from olds news wires edits
reached-start from olds news wires edits starts batch xs shows = ([], refl, places_none batch olds xs, starts batch xs (shows-length olds xs shows))

more-places : (batch k : ℕ) (from : List (Option ℕ)) (olds news : List Slot) (wires : List WireNode) (xs ys : List BrowserNode) (f : Option ℕ) (n : Slot) (w : WireNode)
    → slice_get from k ≡ Some f → slice_get news k ≡ Some n → slice_get wires k ≡ Some w
    → Places batch (take k from ++ f ∷ []) olds (take k news ++ n ∷ []) (take k wires ++ w ∷ []) xs ys → Places batch (take (k + 1) from) olds (take (k + 1) news) (take (k + 1) wires) xs ys
more-places batch k from olds news wires xs ys f n w e g h p =
    subst (λ (fs : List (Option ℕ)). Places batch fs olds (take (k + 1) news) (take (k + 1) wires) xs ys) (sym (take-get from k f e))
    (subst (λ (ns : List Slot). Places batch (take k from ++ f ∷ []) olds ns (take (k + 1) wires) xs ys) (sym (take-get news k n g))
    (subst (λ (ws : List WireNode). Places batch (take k from ++ f ∷ []) olds (take k news ++ n ∷ []) ws xs ys) (sym (take-get wires k w h)) p))

long-push : {X : Type 0} (zs : List X) (y : X) (k : ℕ) → length zs ≡ k → length (zs ++ y ∷ []) ≡ k + 1
long-push zs y k e = length-append zs (y ∷ []) ∙ omega arith

pub reached-none : (k : ℕ) (from : List (Option ℕ)) (olds news : List Slot) (wires : List WireNode) (edits : List Edit) (n : Slot) (w : WireNode)
    → slice_get from k ≡ Some None → slice_get news k ≡ Some n → slice_get wires k ≡ Some w → Reached k from olds news wires edits → Reached (k + 1) from olds news wires edits
reached-none k from olds news wires edits n w e g h reached batch xs shows =
    let r = reached batch xs shows in
    let y = made batch w in
    let c = carried batch from wires xs in
    let new : slice_get (map (made batch) wires) k ≡ Some y = slice_get-map (made batch) wires k ∙ ap (option_map (made batch)) h in
    let here : slice_get c k ≡ Some y = carried-none batch from wires xs k y e new in
    let same : r.0 ++ drop k c ≡ (r.0 ++ y ∷ []) ++ drop (k + 1) c = ap (λ z. r.0 ++ z) (drop-get c k y here) ∙ sym (append_assoc r.0 (y ∷ []) (drop (k + 1) c)) in (
      r.0 ++ y ∷ [],
      long-push r.0 y k r.1,
      more-places batch k from olds news wires xs (r.0 ++ y ∷ []) None n w e g h (places_new batch (take k from) olds (take k news) (take k wires) xs r.0 n w r.2),
      turns-same batch edits xs xs (r.0 ++ drop k c) ((r.0 ++ y ∷ []) ++ drop (k + 1) c) refl same r.3,
    )

pub reached-some : (k i : ℕ) (from : List (Option ℕ)) (olds news : List Slot) (wires : List WireNode) (edits more : List Edit) (o n : Slot) (w : WireNode) → length wires ≡ length from
    → slice_get from k ≡ Some (Some i) → slice_get olds i ≡ Some o → slice_get news k ≡ Some n → slice_get wires k ≡ Some w → Changes k o.item n.item more
    → Reached k from olds news wires edits → Reached (k + 1) from olds news wires (edits ++ more)
reached-some k i from olds news wires edits more o n w l e f g h change reached batch xs shows =
    let r = reached batch xs shows in
    let old = shows-get olds xs i o shows f in
    let new = change batch old.0 old.2 in
    let c = carried batch from wires xs in
    let here : slice_get c k ≡ Some old.0 = carried-some batch from wires xs k i old.0 l e old.1 in
    let before : r.0 ++ drop k c ≡ r.0 ++ old.0 ∷ drop (k + 1) c = ap (λ z. r.0 ++ z) (drop-get c k old.0 here) in
    let after : r.0 ++ new.0 ∷ drop (k + 1) c ≡ (r.0 ++ new.0 ∷ []) ++ drop (k + 1) c = sym (append_assoc r.0 (new.0 ∷ []) (drop (k + 1) c)) in
    let turn = new.2 r.0 (drop (k + 1) c) r.1 in (
      r.0 ++ new.0 ∷ [],
      long-push r.0 new.0 k r.1,
      more-places batch k from olds news wires xs (r.0 ++ new.0 ∷ []) (Some i) n w e g h
          (places_kept batch (take k from) olds (take k news) (take k wires) xs r.0 n o w i old.0 new.0 r.2 f old.1 new.1),
      turns-append batch edits more xs (r.0 ++ drop k c) ((r.0 ++ new.0 ∷ []) ++ drop (k + 1) c) r.3
          (turns-same batch more (r.0 ++ old.0 ∷ drop (k + 1) c) (r.0 ++ drop k c) (r.0 ++ new.0 ∷ drop (k + 1) c) ((r.0 ++ new.0 ∷ []) ++ drop (k + 1) c) (sym before) after turn),
    )

-- all places have what is meant
pub reached-end : (from : List (Option ℕ)) (olds news : List Slot) (wires : List WireNode) (edits : List Edit) → length from ≡ length news → length wires ≡ length news → Reached (length from) from olds news wires edits
    → (batch : ℕ) (old : List BrowserNode) → ShowEach olds old → (new : List BrowserNode) × Places batch from olds news wires old new × Turns batch edits old new
reached-end from olds news wires edits long long_wires reached batch xs shows =
    let r = reached batch xs shows in
    let c = carried batch from wires xs in
    let n = length from in
    let long_c : length c ≡ n = length-carried batch from wires xs (long_wires ∙ sym long) in
    let none : drop n c ≡ [] = drop_all n c (omega arith) in (
      r.0,
      subst (λ (f : List (Option ℕ)). Places batch f olds news wires xs r.0) (take_all n from (omega arith))
          (subst (λ (s : List Slot). Places batch (take n from) olds s wires xs r.0) (take_all n news (omega arith))
          (subst (λ (ws : List WireNode). Places batch (take n from) olds (take n news) ws xs r.0) (take_all n wires (omega arith)) r.2)),
      turns-same batch edits xs xs (r.0 ++ drop n c) r.0 refl (ap (λ z. r.0 ++ z) none ∙ append-nil r.0) r.3,
    )
