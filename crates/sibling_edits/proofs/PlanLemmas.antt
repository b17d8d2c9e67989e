-- The planned edits bring each slot to its place.
use Rattle.std.proofs.Common.{◌≡◌, ℕ, zero, suc, ◌+◌, List, [], ◌∷◌, ◌++◌, length, map, slice_get, Option, Some, None, refl, sym, ap, ◌∙◌, subst, arith}
use Rattle.std.specs.Option.{unwrap_or}
use Rattle.std.proofs.lemmas.List.{length-map}
use Rattle.frame_core.specs.declared.wire_node.WireNode.{WireNode}
use Rattle.edit_meaning.specs.declared.browser_node.BrowserNode.{BrowserNode}
use Rattle.edit_meaning.specs.Made.{made}
use Rattle.pairing_meaning.specs.Order.{partners, merged, list_M}
use Rattle.pairing_meaning.specs.Turning.{Turns}
use Rattle.sibling_edits.specs.Matched.{Matched, carried}
use Rattle.sibling_edits.specs.Plan.{removals_from, additions_from, entries_from, ended, planned}
use Rattle.sibling_edits.proofs.TurnLemmas.{turns-append, kept, length-kept, removals-turn, additions-turn}
use Rattle.sibling_edits.proofs.HeldLemmas.{Held, IsFull, held-kept, held-merged}
use Rattle.sibling_edits.proofs.OnceLemmas.{M-full, as-many}
use Rattle.sibling_edits.proofs.MoveLemmas.{moves-turn}

-- a new slot without a pair has what the batch makes
pub carried-none : (batch : ℕ) (from : List (Option ℕ)) (wires : List WireNode) (old : List BrowserNode) (j : ℕ) (x : BrowserNode) → slice_get from j ≡ Some None → slice_get (map (made batch) wires) j ≡ Some x
    → slice_get (carried batch from wires old) j ≡ Some x
carried-none batch [] wires old j x e g = absurd (cc)
carried-none batch (f ∷ from) [] old j x e g = absurd (cc)
carried-none batch (None ∷ from) (w ∷ wires) old zero x e g = g
carried-none batch (None ∷ from) (w ∷ wires) old (suc j) x e g = carried-none batch from wires old j x e g
carried-none batch (Some i ∷ from) (w ∷ wires) old zero x e g = absurd (cc)
carried-none batch (Some i ∷ from) (w ∷ wires) old (suc j) x e g = carried-none batch from wires old j x e g

-- a new slot with a pair has the node of the pair
pub carried-some : (batch : ℕ) (from : List (Option ℕ)) (wires : List WireNode) (old : List BrowserNode) (j i : ℕ) (x : BrowserNode) → length wires ≡ length from → slice_get from j ≡ Some (Some i) → slice_get old i ≡ Some x
    → slice_get (carried batch from wires old) j ≡ Some x
carried-some batch [] wires old j i x n e g = absurd (cc)
carried-some batch (f ∷ from) [] old j i x n e g = absurd (omega arith)
carried-some batch (None ∷ from) (w ∷ wires) old zero i x n e g = absurd (cc)
carried-some batch (None ∷ from) (w ∷ wires) old (suc j) i x n e g = carried-some batch from wires old j i x (omega arith) e g
carried-some batch (Some k ∷ from) (w ∷ wires) old zero i x n e g =
    let same : i ≡ k = cc in
    ap (λ (o : Option BrowserNode). Some (unwrap_or o (made batch w))) (subst (λ z. slice_get old z ≡ Some x) same g)
carried-some batch (Some k ∷ from) (w ∷ wires) old (suc j) i x n e g = carried-some batch from wires old j i x (omega arith) e g

pub length-carried : (batch : ℕ) (from : List (Option ℕ)) (wires : List WireNode) (old : List BrowserNode) → length wires ≡ length from → length (carried batch from wires old) ≡ length from
length-carried batch [] wires old n = refl
length-carried batch (f ∷ from) [] old n = absurd (omega arith)
length-carried batch (None ∷ from) (w ∷ wires) old n = ap suc (length-carried batch from wires old (omega arith))
length-carried batch (Some i ∷ from) (w ∷ wires) old n = ap suc (length-carried batch from wires old (omega arith))

length-merged : {X : Type 0} (from : List (Option ℕ)) (news olds : List X) → length news ≡ length from → length olds ≡ length (partners from) → length (merged from news olds) ≡ length from
length-merged [] news olds n m = refl
length-merged (None ∷ from) [] olds n m = absurd (omega arith)
length-merged (None ∷ from) (x ∷ news) olds n m = ap suc (length-merged from news olds (omega arith) m)
length-merged (Some i ∷ from) [] olds n m = absurd (omega arith)
length-merged (Some i ∷ from) (x ∷ news) [] n m = absurd (omega arith)
length-merged (Some i ∷ from) (x ∷ news) (y ∷ olds) n m = ap suc (length-merged from news olds (omega arith) (omega arith))

pub plan-turns : (batch : ℕ) (from to : List (Option ℕ)) (wires : List WireNode) (old : List BrowserNode) → Matched from to → length wires ≡ length from → length old ≡ length to
    → Turns batch (planned from to wires) old (carried batch from wires old)
plan-turns batch from to wires old m n o =
    let news = map (made batch) wires in
    let olds = kept to old in
    let ys = carried batch from wires old in
    let M = merged from news olds in
    let many : length (partners to) ≡ length (partners from) = as-many from to m in
    let stay : length olds ≡ length (partners to) = length-kept to old o in
    let long_news : length news ≡ length from = length-map wires (made batch) ∙ n in
    let long_ys : length ys ≡ length from = length-carried batch from wires old n in
    let full : IsFull (length ys) (list_M from to) = subst (λ z. IsFull z (list_M from to)) (sym long_ys) (M-full from to m) in
    let held : Held ys (list_M from to) M = held-merged ys 0 from news (partners to) olds long_news many
    (λ j x e g. subst (λ z. slice_get ys z ≡ Some x) (let s : j ≡ 0 + j = omega arith in s) (carried-none batch from wires old j x e g))
    (held-kept ys to old o (λ i j x e g. carried-some batch from wires old j i x n (m.back i j e) g)) in
    let long : length M ≡ length from = length-merged from news olds long_news (stay ∙ many) in
    turns-append batch (removals_from 0 to) (additions_from 0 from wires ++ ended (entries_from 0 (list_M from to))) old olds ys
    (removals-turn batch 0 to [] old refl o)
    (turns-append batch (additions_from 0 from wires) (ended (entries_from 0 (list_M from to))) olds M ys
    (additions-turn batch 0 from wires [] olds refl n (stay ∙ many))
    (moves-turn batch ys M (list_M from to) full held (long ∙ sym long_ys)))
