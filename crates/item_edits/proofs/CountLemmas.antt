-- How many edits of each kind are made within pairs.
use Rattle.std.proofs.Common.{◌≡◌, ℕ, zero, suc, ◌+◌, ◌==◌, Bool, true, false, cond, List, [], ◌∷◌, ◌++◌, length, map, take, slice_get, Option, Some, None, refl, sym, ap, ◌∙◌, subst, inl, inr, arith, add-zero, eqb}
use Rattle.std.specs.Str.{bytes_eq}
use Rattle.std.specs.List.{filter}
use Rattle.std.proofs.lemmas.List.{take_all}
use Rattle.std.proofs.lemmas.Bool.Decides.{eqb_tells}
use Rattle.page_core.specs.declared.counts.Counts.{Counts}
use Rattle.frame_core.specs.declared.item_attribute.ItemAttribute.{ItemAttribute}
use Rattle.frame_core.specs.declared.edit.Edit.{Edit}
use Rattle.frame_core.specs.declared.edit.Edit.TheVariants.{Prepend, Remove, Set, Unset, UpdateText, StepIn, StepOut, UpdateMarkup, Move, MoveEnd}
use Rattle.edit_meaning.specs.Counted.{counts_in}
use Rattle.pairing_meaning.specs.Slots.{Slot}
use Rattle.pairing_meaning.specs.Births.{TellsSlots}
use Rattle.pairing_meaning.specs.Tallies.{no_edits, plus, total, list_edits, is_set, is_unset, name_edits, text_edits, stepped, Changed, Sums, sums_none, sums_alone, sums_pair, Totals, totals}
use Rattle.sibling_edits.proofs.TallyLemmas.{counts-append}
use Rattle.item_edits.specs.Named.{set_of, unset_of, names_planned}
use Rattle.item_edits.specs.Steps.{Summed, text_planned, markup_planned, stepped_in}
use Rattle.item_edits.proofs.ReachLemmas.{take-get}

counts-same : (c d : Counts) → c.prepend ≡ d.prepend → c.remove ≡ d.remove → c.set ≡ d.set → c.unset ≡ d.unset → c.text ≡ d.text → c.step_in ≡ d.step_in → c.step_out ≡ d.step_out → c.markup ≡ d.markup → c.moves ≡ d.moves → c.ends ≡ d.ends → c ≡ d
counts-same c d a b e f g h j k m n =
    λ i. record { prepend = a i; remove = b i; set = e i; unset = f i; text = g i; step_in = h i; step_out = j i; markup = k i; moves = m i; ends = n i }

plus-none : (c : Counts) → plus c no_edits ≡ c
plus-none c = counts-same (plus c no_edits) c (add-zero c.prepend) (add-zero c.remove) (add-zero c.set) (add-zero c.unset) (add-zero c.text) (add-zero c.step_in) (add-zero c.step_out) (add-zero c.markup) (add-zero c.moves) (add-zero c.ends)

plus-plus : (c d e : Counts) → plus (plus c d) e ≡ plus c (plus d e)
plus-plus c d e = counts-same (plus (plus c d) e) (plus c (plus d e)) (omega arith) (omega arith) (omega arith) (omega arith) (omega arith) (omega arith) (omega arith) (omega arith) (omega arith) (omega arith)

pub summed-start : (from to : List (Option ℕ)) (olds news : List Slot) (edits : List Edit) → counts_in edits ≡ list_edits from to → Summed 0 from to olds news edits
summed-start from to olds news edits counts = (no_edits, sums_none olds, counts ∙ sym (plus-none (list_edits from to)))

more-sums : (k : ℕ) (from : List (Option ℕ)) (olds news : List Slot) (f : Option ℕ) (n : Slot) (c : Counts) → slice_get from k ≡ Some f → slice_get news k ≡ Some n
    → Sums (take k from ++ f ∷ []) olds (take k news ++ n ∷ []) c → Sums (take (k + 1) from) olds (take (k + 1) news) c
more-sums k from olds news f n c e g p =
    subst (λ (fs : List (Option ℕ)). Sums fs olds (take (k + 1) news) c) (sym (take-get from k f e))
    (subst (λ (ns : List Slot). Sums (take k from ++ f ∷ []) olds ns c) (sym (take-get news k n g)) p)

pub summed-none : (k : ℕ) (from to : List (Option ℕ)) (olds news : List Slot) (edits : List Edit) (n : Slot) → slice_get from k ≡ Some None → slice_get news k ≡ Some n
    → Summed k from to olds news edits → Summed (k + 1) from to olds news edits
summed-none k from to olds news edits n e g h = (h.0, more-sums k from olds news None n h.0 e g (sums_alone (take k from) olds (take k news) n h.0 h.1), h.2)

pub summed-some : (k i : ℕ) (from to : List (Option ℕ)) (olds news : List Slot) (edits more : List Edit) (o n : Slot) → slice_get from k ≡ Some (Some i) → slice_get olds i ≡ Some o → slice_get news k ≡ Some n
    → Changed o.item n.item (counts_in more) → Summed k from to olds news edits → Summed (k + 1) from to olds news (edits ++ more)
summed-some k i from to olds news edits more o n e f g changed h = (
  plus h.0 (counts_in more),
  more-sums k from olds news (Some i) n (plus h.0 (counts_in more)) e g (sums_pair (take k from) olds (take k news) n o i h.0 (counts_in more) h.1 f changed),
  counts-append edits more ∙ ap (λ (c : Counts). plus c (counts_in more)) h.2 ∙ plus-plus (list_edits from to) h.0 (counts_in more),
)

pub summed-end : (from to : List (Option ℕ)) (olds news : List Slot) (edits : List Edit) → TellsSlots olds news from → TellsSlots news olds to → length from ≡ length news → Summed (length from) from to olds news edits
    → Totals olds news (counts_in edits)
summed-end from to olds news edits there back long h =
    subst (λ (c : Counts). Totals olds news c) (sym h.2)
    (totals olds news from to h.0 there back
    (subst (λ (f : List (Option ℕ)). Sums f olds news h.0) (take_all (length from) from (omega arith))
    (subst (λ (s : List Slot). Sums (take (length from) from) olds s h.0) (take_all (length from) news (omega arith)) h.1)))

pub counts-text : (place : ℕ) (old new : List ℕ) → counts_in (text_planned place old new) ≡ record no_edits { text = text_edits old new }
counts-text place old new = elim (bytes_eq old new) as (λ b. counts_in (cond b [] (UpdateText place new ∷ [])) ≡ record no_edits { text = cond b 0 1 }) [ true ↦ refl | false ↦ refl ]

pub counts-markup : (place : ℕ) (old new : List ℕ) → counts_in (markup_planned place old new) ≡ record no_edits { markup = text_edits old new }
counts-markup place old new = elim (bytes_eq old new) as (λ b. counts_in (cond b [] (UpdateMarkup place new ∷ [])) ≡ record no_edits { markup = cond b 0 1 }) [ true ↦ refl | false ↦ refl ]

counts-unsets : (place : ℕ) (attributes : List ItemAttribute) → counts_in (map (unset_of place) attributes) ≡ record no_edits { unset = length attributes }
counts-unsets place [] = refl
counts-unsets place (attribute ∷ attributes) = ap (λ (c : Counts). record c { unset = suc c.unset }) (counts-unsets place attributes)

counts-sets : (place : ℕ) (attributes : List ItemAttribute) → counts_in (map (set_of place) attributes) ≡ record no_edits { set = length attributes }
counts-sets place [] = refl
counts-sets place (attribute ∷ attributes) = ap (λ (c : Counts). record c { set = suc c.set }) (counts-sets place attributes)

two-counts : (s u : ℕ) → plus (record no_edits { unset = u }) (record no_edits { set = s }) ≡ record no_edits { set = s; unset = u }
two-counts s u = counts-same (plus (record no_edits { unset = u }) (record no_edits { set = s })) (record no_edits { set = s; unset = u }) refl refl (omega arith) (omega arith) refl refl refl refl refl refl

pub counts-names : (place : ℕ) (olds news : List ItemAttribute) → counts_in (names_planned place olds news) ≡ name_edits olds news
counts-names place olds news =
    let gone = filter (is_unset news) olds in
    let new = filter (is_set olds) news in
    counts-append (map (unset_of place) gone) (map (set_of place) new)
    ∙ ap (λ (c : Counts). plus c (counts_in (map (set_of place) new))) (counts-unsets place gone)
    ∙ ap (plus (record no_edits { unset = length gone })) (counts-sets place new)
    ∙ two-counts (length new) (length gone)

-- some edit is counted
some-edit : (edit : Edit) (edits : List Edit) → total (counts_in (edit ∷ edits)) ≡ 0 → ⊥
some-edit (Prepend sibling node) edits none = omega arith
some-edit (Remove sibling) edits none = omega arith
some-edit (Set sibling attribute) edits none = omega arith
some-edit (Unset sibling name) edits none = omega arith
some-edit (UpdateText sibling text) edits none = omega arith
some-edit (StepIn sibling) edits none = omega arith
some-edit StepOut edits none = omega arith
some-edit (UpdateMarkup sibling text) edits none = omega arith
some-edit (Move from to) edits none = omega arith
some-edit MoveEnd edits none = omega arith

one-out : (c : Counts) → record (plus c (counts_in (StepOut ∷ []))) { step_in = suc (c.step_in + 0) } ≡ record c { step_in = c.step_in + 1; step_out = c.step_out + 1 }
one-out c = counts-same (record (plus c (counts_in (StepOut ∷ []))) { step_in = suc (c.step_in + 0) }) (record c { step_in = c.step_in + 1; step_out = c.step_out + 1 })
    (add-zero c.prepend) (add-zero c.remove) (add-zero c.set) (add-zero c.unset) (add-zero c.text) (omega arith) refl (add-zero c.markup) (add-zero c.moves) (add-zero c.ends)

pub counts-stepped : (place : ℕ) (edits : List Edit) → counts_in (stepped_in place edits) ≡ stepped (counts_in edits)
counts-stepped place [] = refl
counts-stepped place (edit ∷ edits) =
    let c = counts_in (edit ∷ edits) in
    let off : eqb (total c) 0 ≡ false = elim (eqb_tells (total c) 0) [ inl a ↦ absurd (some-edit edit edits a.1) | inr a ↦ a.0 ] in
    ap (λ (d : Counts). record d { step_in = suc d.step_in }) (counts-append (edit ∷ edits) (StepOut ∷ []))
    ∙ one-out c
    ∙ ap (λ b. cond b c (record c { step_in = c.step_in + 1; step_out = c.step_out + 1 })) (sym off)
