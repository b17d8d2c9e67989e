-- Edits one after another.
use Rattle.std.proofs.Common.{◌≡◌, ℕ, zero, suc, ◌+◌, ◌-◌, ◌<◌, ◌≤◌, List, [], ◌∷◌, ◌++◌, length, map, insert, remove, Option, Some, None, Result, Ok, Err, refl, sym, ap, ◌∙◌, subst, append_assoc, length-append, arith}
use Rattle.std.specs.List.{flat_map}
use Rattle.std.proofs.lemmas.Bool.{lt-ltb, le-ltb}
use Rattle.std.proofs.lemmas.List.Edits.{remove-append_right, insert-append_right}
use Rattle.page_core.specs.declared.faults.ApplyFault.{ApplyFault}
use Rattle.frame_core.specs.declared.wire_node.WireNode.{WireNode}
use Rattle.frame_core.specs.declared.edit.Edit.{Edit}
use Rattle.frame_core.specs.declared.edit.Edit.TheVariants.{Prepend, Remove}
use Rattle.edit_meaning.specs.declared.browser_node.BrowserNode.{BrowserNode}
use Rattle.edit_meaning.specs.declared.level.Level.{Level}
use Rattle.edit_meaning.specs.Made.{made, components_in}
use Rattle.edit_meaning.specs.Focus.{Tree, Focus}
use Rattle.edit_meaning.specs.Edits.{with_component, with_components, and_then, prepended, edited, all_edited}
use Rattle.pairing_meaning.specs.Order.{partners, merged}
use Rattle.pairing_meaning.specs.Turning.{put_in, all_put_in, focused, Turns}
use Rattle.sibling_edits.specs.Plan.{removals_from, additions_from}

pub edited-append : (batch : ℕ) (edits more : List Edit) (focus : Focus) → all_edited batch (edits ++ more) focus ≡ and_then (all_edited batch edits focus) (all_edited batch more)
edited-append batch [] more focus = refl
edited-append batch (edit ∷ edits) more focus =
    elim (edited batch edit focus) as (λ r. and_then r (all_edited batch (edits ++ more)) ≡ and_then (and_then r (all_edited batch edits)) (all_edited batch more))
    [ Ok next ↦ edited-append batch edits more next | Err fault ↦ refl ]

components-append : (numbers more : List ℕ) (tree : Tree) → with_components (numbers ++ more) tree ≡ and_then (with_components numbers tree) (with_components more)
components-append [] more tree = refl
components-append (number ∷ numbers) more tree =
    elim (with_component number tree) as (λ r. and_then r (with_components (numbers ++ more)) ≡ and_then (and_then r (with_components numbers)) (with_components more))
    [ Ok next ↦ components-append numbers more next | Err fault ↦ refl ]

pub put_in-append : (edits more : List Edit) → all_put_in (edits ++ more) ≡ all_put_in edits ++ all_put_in more
put_in-append [] more = refl
put_in-append (edit ∷ edits) more = ap (λ it. put_in edit ++ it) (put_in-append edits more) ∙ sym (append_assoc (put_in edit) (all_put_in edits) (all_put_in more))

-- what stands between two steps that are both done
between : (first : Result Tree ApplyFault) (next : Tree → Result Tree ApplyFault) (after : Tree) → and_then first next ≡ Ok after → (middle : Tree) × (first ≡ Ok middle) × (next middle ≡ Ok after)
between (Ok middle) next after is = (middle, refl, is)
between (Err fault) next after is = absurd (cc)

-- where the tree takes no component it is the same
same_tree : (nodes : List BrowserNode) (above : List Level) (before after : Tree) → ◌≡◌ {A = Result Tree ApplyFault} (Ok before) (Ok after) → ◌≡◌ {A = Result Focus ApplyFault} (Ok (focused nodes above before)) (Ok (focused nodes above after))
same_tree nodes above before after is = ap (λ (r : Result Tree ApplyFault). and_then r (λ tree. Ok (focused nodes above tree))) is

pub turns-none : (batch : ℕ) (nodes : List BrowserNode) → Turns batch [] nodes nodes
turns-none batch nodes above before after is = same_tree nodes above before after is

pub turns-append : (batch : ℕ) (edits more : List Edit) (xs ys zs : List BrowserNode) → Turns batch edits xs ys → Turns batch more ys zs → Turns batch (edits ++ more) xs zs
turns-append batch edits more xs ys zs first then_more above before after is =
    let parts = between (with_components (all_put_in edits) before) (with_components (all_put_in more)) after
    (sym (ap (λ numbers. with_components numbers before) (put_in-append edits more) ∙ components-append (all_put_in edits) (all_put_in more) before) ∙ is) in
    edited-append batch edits more (focused xs above before)
    ∙ ap (λ (r : Result Focus ApplyFault). and_then r (all_edited batch more)) (first above before parts.0 parts.1)
    ∙ then_more above parts.0 after parts.2

-- one edit turns siblings into others
abbrev pub Step : ℕ → Edit → List BrowserNode → List BrowserNode → Type 0
Step batch edit old new = (above : List Level) (before after : Tree) → with_components (put_in edit) before ≡ Ok after → edited batch edit (focused old above before) ≡ Ok (focused new above after)

-- one that puts no component in
pub still : (batch : ℕ) (edit : Edit) (old new : List BrowserNode) → put_in edit ≡ [] → ((above : List Level) (tree : Tree) → edited batch edit (focused old above tree) ≡ Ok (focused new above tree)) → Step batch edit old new
still batch edit old new none step above before after is =
    step above before ∙ same_tree new above before after (sym (ap (λ numbers. with_components numbers before) none) ∙ is)

pub turns-more : (batch : ℕ) (edit : Edit) (edits : List Edit) (xs ys zs : List BrowserNode) → Step batch edit xs ys → Turns batch edits ys zs → Turns batch (edit ∷ edits) xs zs
turns-more batch edit edits xs ys zs step rest above before after is =
    let parts = between (with_components (put_in edit) before) (with_components (all_put_in edits)) after (sym (components-append (put_in edit) (all_put_in edits) before) ∙ is) in
    ap (λ (r : Result Focus ApplyFault). and_then r (all_edited batch edits)) (step above before parts.0 parts.1)
    ∙ rest above parts.0 after parts.2

-- edits that put no component in
pub turns-still : (batch : ℕ) (edits : List Edit) (old new : List BrowserNode) → all_put_in edits ≡ [] → ((above : List Level) (tree : Tree) → all_edited batch edits (focused old above tree) ≡ Ok (focused new above tree)) → Turns batch edits old new
turns-still batch edits old new none run above before after is =
    run above before ∙ same_tree new above before after (sym (ap (λ numbers. with_components numbers before) none) ∙ is)

pub turns-same : (batch : ℕ) (edits : List Edit) (xs xs' ys ys' : List BrowserNode) → xs ≡ xs' → ys ≡ ys' → Turns batch edits xs ys → Turns batch edits xs' ys'
turns-same batch edits xs xs' ys ys' p q turns = subst (λ (z : List BrowserNode). Turns batch edits z ys') p (subst (λ (z : List BrowserNode). Turns batch edits xs z) q turns)

pub remove-seam : (front : List BrowserNode) (x : BrowserNode) (xs : List BrowserNode) (k : ℕ) → length front ≡ k → remove (front ++ x ∷ xs) k ≡ front ++ xs
remove-seam front x xs k e = remove-append_right front (x ∷ xs) k k e (omega arith) ∙ (let none : k - k ≡ 0 = omega arith in ap (λ n. front ++ remove (x ∷ xs) n) none)

pub insert-seam : (front : List BrowserNode) (x : BrowserNode) (xs : List BrowserNode) (k : ℕ) → length front ≡ k → insert (front ++ xs) k x ≡ front ++ x ∷ xs
insert-seam front x xs k e = insert-append_right front xs k k x e (omega arith) ∙ (let none : k - k ≡ 0 = omega arith in ap (λ n. front ++ insert xs n x) none)

remove-step : (batch k : ℕ) (front : List BrowserNode) (x : BrowserNode) (xs : List BrowserNode) (above : List Level) (tree : Tree) → length front ≡ k
    → edited batch (Remove k) (focused (front ++ x ∷ xs) above tree) ≡ Ok (focused (front ++ xs) above tree)
remove-step batch k front x xs above tree e =
    let short : k < length (front ++ x ∷ xs) = rw (length-append front (x ∷ xs)) (omega arith) in
    rw (lt-ltb k (length (front ++ x ∷ xs)) short) (ap (λ ys. Ok (focused ys above tree)) (remove-seam front x xs k e))

turns-seam : (batch : ℕ) (edits : List Edit) (front : List BrowserNode) (x : BrowserNode) (xs ys : List BrowserNode)
    → Turns batch edits ((front ++ x ∷ []) ++ xs) ((front ++ x ∷ []) ++ ys) → Turns batch edits (front ++ x ∷ xs) (front ++ x ∷ ys)
turns-seam batch edits front x xs ys = turns-same batch edits ((front ++ x ∷ []) ++ xs) (front ++ x ∷ xs) ((front ++ x ∷ []) ++ ys) (front ++ x ∷ ys)
    (append_assoc front (x ∷ []) xs) (append_assoc front (x ∷ []) ys)

-- what has a pair
abbrev pub kept : {X : Type 0} → List (Option ℕ) → List X → List X
kept [] xs = []
kept (t ∷ ts) [] = []
kept (None ∷ ts) (x ∷ xs) = kept ts xs
kept (Some j ∷ ts) (x ∷ xs) = x ∷ kept ts xs

pub removals-turn : (batch k : ℕ) (to : List (Option ℕ)) (front xs : List BrowserNode) → length front ≡ k → length xs ≡ length to
    → Turns batch (removals_from k to) (front ++ xs) (front ++ kept to xs)
removals-turn batch k [] front [] e n = turns-none batch (front ++ [])
removals-turn batch k [] front (x ∷ xs) e n = absurd (omega arith)
removals-turn batch k (t ∷ to) front [] e n = absurd (omega arith)
removals-turn batch k (None ∷ to) front (x ∷ xs) e n =
    turns-more batch (Remove k) (removals_from k to) (front ++ x ∷ xs) (front ++ xs) (front ++ kept to xs)
    (still batch (Remove k) (front ++ x ∷ xs) (front ++ xs) refl (λ above tree. remove-step batch k front x xs above tree e))
    (removals-turn batch k to front xs e (omega arith))
removals-turn batch k (Some j ∷ to) front (x ∷ xs) e n =
    turns-seam batch (removals_from (k + 1) to) front x xs (kept to xs)
    (removals-turn batch (k + 1) to (front ++ x ∷ []) xs (length-append front (x ∷ []) ∙ omega arith) (omega arith))

prepend-step : (batch k : ℕ) (wire : WireNode) (front xs : List BrowserNode) → length front ≡ k → Step batch (Prepend k wire) (front ++ xs) (front ++ made batch wire ∷ xs)
prepend-step batch k wire front xs e above before after is =
    let short : k ≤ length (front ++ xs) = rw (length-append front xs) (omega arith) in
    ap (prepended batch k wire (focused (front ++ xs) above before)) is
    ∙ rw (le-ltb (length (front ++ xs)) k short) (ap (λ ys. Ok (focused ys above after)) (insert-seam front (made batch wire) xs k e))

pub additions-turn : (batch k : ℕ) (from : List (Option ℕ)) (wires : List WireNode) (front olds : List BrowserNode) → length front ≡ k → length wires ≡ length from → length olds ≡ length (partners from)
    → Turns batch (additions_from k from wires) (front ++ olds) (front ++ merged from (map (made batch) wires) olds)
additions-turn batch k [] wires front [] e n m = turns-none batch (front ++ [])
additions-turn batch k [] wires front (x ∷ olds) e n m = absurd (omega arith)
additions-turn batch k (f ∷ from) [] front olds e n m = absurd (omega arith)
additions-turn batch k (None ∷ from) (wire ∷ wires) front olds e n m =
    turns-more batch (Prepend k wire) (additions_from (k + 1) from wires) (front ++ olds) (front ++ made batch wire ∷ olds) (front ++ made batch wire ∷ merged from (map (made batch) wires) olds)
    (prepend-step batch k wire front olds e)
    (turns-seam batch (additions_from (k + 1) from wires) front (made batch wire) olds (merged from (map (made batch) wires) olds)
    (additions-turn batch (k + 1) from wires (front ++ made batch wire ∷ []) olds (length-append front (made batch wire ∷ []) ∙ omega arith) (omega arith) m))
additions-turn batch k (Some i ∷ from) (wire ∷ wires) front [] e n m = absurd (omega arith)
additions-turn batch k (Some i ∷ from) (wire ∷ wires) front (x ∷ olds) e n m =
    turns-seam batch (additions_from (k + 1) from wires) front x olds (merged from (map (made batch) wires) olds)
    (additions-turn batch (k + 1) from wires (front ++ x ∷ []) olds (length-append front (x ∷ []) ∙ omega arith) (omega arith) (omega arith))

pub length-kept : {X : Type 0} (ts : List (Option ℕ)) (xs : List X) → length xs ≡ length ts → length (kept ts xs) ≡ length (partners ts)
length-kept [] xs n = refl
length-kept (t ∷ ts) [] n = absurd (omega arith)
length-kept (None ∷ ts) (x ∷ xs) n = length-kept ts xs (omega arith)
length-kept (Some j ∷ ts) (x ∷ xs) n = ap suc (length-kept ts xs (omega arith))
