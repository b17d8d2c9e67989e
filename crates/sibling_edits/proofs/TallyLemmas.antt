-- How many edits of each kind are planned.
use Rattle.std.proofs.Common.{◌≡◌, ℕ, zero, suc, ◌+◌, ◌==◌, ◌⊎◌, Bool, true, false, cond, List, [], ◌∷◌, ◌++◌, length, map, Option, Some, None, min, refl, sym, ap, ◌∙◌, inl, inr, arith}
use Rattle.std.specs.List.{filter}
use Rattle.std.proofs.lemmas.Bool.Decides.{eqb_tells}
use Rattle.page_core.specs.declared.counts.Counts.{Counts}
use Rattle.frame_core.specs.EditTypes.{type_of, of_type}
use Rattle.frame_core.specs.declared.wire_node.WireNode.{WireNode}
use Rattle.frame_core.specs.declared.edit.Edit.{Edit}
use Rattle.frame_core.specs.declared.edit.Edit.TheVariants.{Move, MoveEnd}
use Rattle.edit_meaning.specs.declared.entry.Entry.{Entry}
use Rattle.edit_meaning.specs.Counted.{counts_in}
use Rattle.pairing_meaning.specs.Order.{alone, list_M, differing, moved_slots}
use Rattle.pairing_meaning.specs.Tallies.{no_edits, plus, list_edits}
use Rattle.sibling_edits.specs.Plan.{removals_from, additions_from, entries_from, move_of, ended, planned}

of_type-append : (number : ℕ) (edits more : List Edit) → of_type number (edits ++ more) ≡ of_type number edits + of_type number more
of_type-append number [] more = omega arith
of_type-append number (edit ∷ edits) more = by_test (of_type-append number edits more) (type_of edit == number)
  where
    by_test : of_type number (edits ++ more) ≡ of_type number edits + of_type number more → (test : Bool) → length (cond test (edit ∷ filter (λ it. type_of it == number) (edits ++ more)) (filter (λ it. type_of it == number) (edits ++ more))) ≡ length (cond test (edit ∷ filter (λ it. type_of it == number) edits) (filter (λ it. type_of it == number) edits)) + of_type number more
    by_test rest true = omega arith
    by_test rest false = rest

pub counts-append : (edits more : List Edit) → counts_in (edits ++ more) ≡ plus (counts_in edits) (counts_in more)
counts-append edits more = rw (of_type-append 1 edits more, of_type-append 2 edits more, of_type-append 3 edits more, of_type-append 4 edits more, of_type-append 5 edits more, of_type-append 6 edits more, of_type-append 7 edits more, of_type-append 8 edits more, of_type-append 9 edits more, of_type-append 10 edits more) refl

counts-removals : (place : ℕ) (to : List (Option ℕ)) → counts_in (removals_from place to) ≡ record no_edits { remove = alone to }
counts-removals place [] = refl
counts-removals place (None ∷ to) = ap (λ (c : Counts). record c { remove = suc c.remove }) (counts-removals place to) ∙ ap (λ n. record no_edits { remove = n }) (let more : suc (alone to) ≡ alone to + 1 = omega arith in more)
counts-removals place (Some pair ∷ to) = counts-removals (place + 1) to

counts-additions : (place : ℕ) (from : List (Option ℕ)) (wires : List WireNode) → length wires ≡ length from → counts_in (additions_from place from wires) ≡ record no_edits { prepend = alone from }
counts-additions place [] wires n = refl
counts-additions place (f ∷ from) [] n = absurd (omega arith)
counts-additions place (None ∷ from) (w ∷ wires) n = ap (λ (c : Counts). record c { prepend = suc c.prepend }) (counts-additions (place + 1) from wires (omega arith)) ∙ ap (λ n. record no_edits { prepend = n }) (let more : suc (alone from) ≡ alone from + 1 = omega arith in more)
counts-additions place (Some pair ∷ from) (w ∷ wires) n = counts-additions (place + 1) from wires (omega arith)

counts-moves : (entries : List Entry) → counts_in (map move_of entries ++ MoveEnd ∷ []) ≡ record no_edits { moves = length entries; ends = 1 }
counts-moves [] = refl
counts-moves (entry ∷ entries) = ap (λ (c : Counts). record c { moves = suc c.moves }) (counts-moves entries)

counts-ended : (entries : List Entry) → counts_in (ended entries) ≡ record no_edits { moves = length entries; ends = min 1 (length entries) }
counts-ended [] = refl
counts-ended (entry ∷ entries) = counts-moves (entry ∷ entries) ∙ ap (λ n. record no_edits { moves = length (entry ∷ entries); ends = n }) (let one : 1 ≡ min 1 (length (entry ∷ entries)) = omega arith in one)

length-entries : (place : ℕ) (m : List ℕ) → length (entries_from place m) ≡ differing place m
length-entries place [] = refl
length-entries place (t ∷ m) = let rest = length-entries (place + 1) m in elim (eqb_tells t place) [ inl a ↦ rw a.0 rest | inr a ↦ rw a.0 (omega arith) ]

-- the three parts together
sums : (p r m e : ℕ) → plus (record no_edits { remove = r }) (plus (record no_edits { prepend = p }) (record no_edits { moves = m; ends = e })) ≡ record no_edits { prepend = p; remove = r; moves = m; ends = e }
sums p r m e =
    let a : 0 + (p + 0) ≡ p = omega arith in
    let b : r + 0 ≡ r = omega arith in
    let c : 0 + (0 + m) ≡ m = omega arith in
    let d : 0 + (0 + e) ≡ e = omega arith in
    ap (λ n. record no_edits { prepend = n; remove = r + 0; moves = 0 + (0 + m); ends = 0 + (0 + e) }) a
    ∙ ap (λ n. record no_edits { prepend = p; remove = n; moves = 0 + (0 + m); ends = 0 + (0 + e) }) b
    ∙ ap (λ n. record no_edits { prepend = p; remove = r; moves = n; ends = 0 + (0 + e) }) c
    ∙ ap (λ n. record no_edits { prepend = p; remove = r; moves = m; ends = n }) d

pub plan-counts : (from to : List (Option ℕ)) (wires : List WireNode) → length wires ≡ length from → counts_in (planned from to wires) ≡ list_edits from to
plan-counts from to wires n =
    let m = list_M from to in
    let removes = counts-removals 0 to in
    let puts = counts-additions 0 from wires n in
    let moves : counts_in (ended (entries_from 0 m)) ≡ record no_edits { moves = moved_slots from to; ends = min 1 (moved_slots from to) } =
    counts-ended (entries_from 0 m) ∙ ap (λ k. record no_edits { moves = k; ends = min 1 k }) (length-entries 0 m) in
    counts-append (removals_from 0 to) (additions_from 0 from wires ++ ended (entries_from 0 m))
    ∙ ap (λ (c : Counts). plus c (counts_in (additions_from 0 from wires ++ ended (entries_from 0 m)))) removes
    ∙ ap (plus (record no_edits { remove = alone to })) (counts-append (additions_from 0 from wires) (ended (entries_from 0 m))
    ∙ ap (λ (c : Counts). plus c (counts_in (ended (entries_from 0 m)))) puts
    ∙ ap (plus (record no_edits { prepend = alone from })) moves)
    ∙ sums (alone from) (alone to) (moved_slots from to) (min 1 (moved_slots from to))
