-- Turns of the loops that read items and whole files.
use Rattle.std.proofs.Common.{◌≡◌, ℕ, zero, suc, ◌-◌, ◌<◌, List, [], ◌∷◌, length, reverse, refl, sym, ap, ◌∙◌, arith}
use Rattle.std.proofs.lemmas.Bool.{eqb-true}
use Rattle.std.specs.Prelude.{◌==◌, true, Some, None}
use Rattle.razor_token.specs.declared.piece.Piece.{Piece}
use Rattle.razor_ast.specs.declared.node.TNode.{TNode}
use Rattle.razor_reader.specs.declared.frame.Frame.{Frame}
use Rattle.razor_reader.specs.declared.frame.Next.{Next}
use Rattle.razor_reader.specs.declared.frame.Wanted.TheVariants as want
use Rattle.razor_reader.specs.declared.item.Turn.TheVariants as t
use Rattle.razor_reader.specs.declared.whole.Parts.{Parts}
use Rattle.razor_reader.specs.Reading.{Numbered, ◌>>=◌}
use Rattle.razor_reader.specs.BeginReading.{begin}
use Rattle.razor_reader.specs.ItemReading.{Turned, turn, turns, turns_for, item_first}
use Rattle.razor_reader.specs.WholeReading as w
use Rattle.razor_reader.proofs.ListLoops.{less}

-- turns
module _ (all : List Piece) where
  turned : ℕ → Turned → Numbered TNode
  turned left o = o >>= λ x. elim x.1 [ t.Whole a ↦ Some (a, x.2, x.3) | t.Goes following ↦ turns all left x.0 following x.2 x.3 ]

  turns_law : (left : ℕ) (frames : List Frame) (next : Next) (n : ℕ) (ps : List Piece) → 0 < left → turns all left frames next n ps ≡ turned (left - 1) (turn all frames next n ps)
  unfolding turns turned
  turns_law zero frames next n ps h = absurd (omega arith)
  turns_law (suc left) frames next n ps h = ap (λ i. turned i (turn all frames next n ps)) (less left)

  pub turns_none : (left : ℕ) (frames : List Frame) (next : Next) (n : ℕ) (ps : List Piece) → left ≡ 0 → turns all left frames next n ps ≡ None
  unfolding turns
  turns_none zero frames next n ps h = refl
  turns_none (suc left) frames next n ps h = absurd (omega arith)

  pub turns_fail : (left : ℕ) (frames : List Frame) (next : Next) (n : ℕ) (ps : List Piece) → 0 < left → turn all frames next n ps ≡ None → turns all left frames next n ps ≡ None
  unfolding turned
  turns_fail left frames next n ps h e = turns_law left frames next n ps h ∙ ap (turned (left - 1)) e

  pub turns_whole : (left : ℕ) (frames later : List Frame) (next : Next) (n i : ℕ) (ps us : List Piece) (a : TNode) → 0 < left → turn all frames next n ps ≡ Some (later, t.Whole a, i, us) → turns all left frames next n ps ≡ Some (a, i, us)
  unfolding turned
  turns_whole left frames later next n i ps us a h e = turns_law left frames next n ps h ∙ ap (turned (left - 1)) e

  pub turns_turn : (left : ℕ) (frames later : List Frame) (next following : Next) (n i : ℕ) (ps us : List Piece) → 0 < left → turn all frames next n ps ≡ Some (later, t.Goes following, i, us) →
      turns all left frames next n ps ≡ turns all (left - 1) later following i us
  unfolding turned
  turns_turn left frames later next following n i ps us h e = turns_law left frames next n ps h ∙ ap (turned (left - 1)) e

  -- the parts of a file
  pub whole_end : (n : ℕ) (parts : Parts) → w.parts_in all n parts [] ≡ Some parts
  unfolding w.parts_in
  whole_end zero parts = refl
  whole_end (suc n) parts = refl

  pub whole_none : (n : ℕ) (parts : Parts) (p : Piece) (ps : List Piece) → n ≡ 0 → w.parts_in all n parts (p ∷ ps) ≡ None
  unfolding w.parts_in
  whole_none zero parts p ps h = refl
  whole_none (suc n) parts p ps h = absurd (omega arith)

  whole_law : (n : ℕ) (parts : Parts) (p : Piece) (ps : List Piece) → 0 < n → w.parts_in all n parts (p ∷ ps) ≡ (w.turn all parts (p ∷ ps) >>= λ x. w.parts_in all (n - 1) x.0 x.1)
  unfolding w.parts_in
  whole_law zero parts p ps h = absurd (omega arith)
  whole_law (suc n) parts p ps h = ap (λ i. w.turn all parts (p ∷ ps) >>= λ x. w.parts_in all i x.0 x.1) (less n)

  pub whole_turn : (n : ℕ) (parts more : Parts) (p : Piece) (ps us : List Piece) → 0 < n → w.turn all parts (p ∷ ps) ≡ Some (more, us) → w.parts_in all n parts (p ∷ ps) ≡ w.parts_in all (n - 1) more us
  whole_turn n parts more p ps us h e = whole_law n parts p ps h ∙ ap (λ o. o >>= λ x. w.parts_in all (n - 1) x.0 x.1) e

  pub whole_fail : (n : ℕ) (parts : Parts) (p : Piece) (ps : List Piece) → 0 < n → w.turn all parts (p ∷ ps) ≡ None → w.parts_in all n parts (p ∷ ps) ≡ None
  whole_fail n parts p ps h e = whole_law n parts p ps h ∙ ap (λ o. o >>= λ x. w.parts_in all (n - 1) x.0 x.1) e

  -- the same, where only the number of pieces is known
  pub whole_done : (n : ℕ) (parts : Parts) (ps : List Piece) → length ps ≡ 0 → w.parts_in all n parts ps ≡ Some parts
  whole_done n parts [] h = whole_end n parts
  whole_done n parts (p ∷ ps) h = absurd (omega arith)

  pub whole_left : (n : ℕ) (parts : Parts) (ps : List Piece) → n ≡ 0 → 0 < length ps → w.parts_in all n parts ps ≡ None
  whole_left n parts [] h k = absurd (omega arith)
  whole_left n parts (p ∷ ps) h k = whole_none n parts p ps h

  pub whole_step : (n : ℕ) (parts more : Parts) (ps us : List Piece) → 0 < n → 0 < length ps → w.turn all parts ps ≡ Some (more, us) → w.parts_in all n parts ps ≡ w.parts_in all (n - 1) more us
  whole_step n parts more [] us h k e = absurd (omega arith)
  whole_step n parts more (p ∷ ps) us h k e = whole_turn n parts more p ps us h e

  pub whole_stop : (n : ℕ) (parts : Parts) (ps : List Piece) → 0 < n → 0 < length ps → w.turn all parts ps ≡ None → w.parts_in all n parts ps ≡ None
  whole_stop n parts [] h k e = absurd (omega arith)
  whole_stop n parts (p ∷ ps) h k e = whole_fail n parts p ps h e

  pub whole_empty : (n : ℕ) (parts : Parts) (ps : List Piece) → (length ps == 0) ≡ true → w.parts_in all n parts ps ≡ Some parts
  whole_empty n parts [] e = whole_end n parts
  whole_empty n parts (p ∷ ps) e = let none : length (p ∷ ps) ≡ 0 = eqb-true (length (p ∷ ps)) 0 e in absurd (omega arith)

-- how an item begins
pub item_start : (all : List Piece) (n m left : ℕ) (ps rest : List Piece) (next : Next) (frames : List Frame) → begin all want.Item n ps ≡ Some (next, m, rest) → left ≡ turns_for ps → frames ≡ [] →
    item_first all n ps ≡ turns all left (reverse frames) next m rest
unfolding item_first
item_start all n m left ps rest next frames e i k =
    ap (λ o. o >>= λ x. turns all (turns_for ps) [] x.0 x.1 x.2) e
    ∙ ap (λ l. turns all l [] next m rest) (sym i)
    ∙ ap (λ (l : List Frame). turns all left (reverse l) next m rest) (sym k)
