-- The places of pieces are places in the text.
use Rattle.std.proofs.Common.{◌≡◌, ℕ, zero, suc, List, [], ◌∷◌, ◌++◌, take, drop, refl, sym, ap, ◌∙◌, subst, append_assoc, inl, inr}
use Rattle.std.specs.Prelude.{Bool, true, false, Option, Some, None, if◌then◌else◌}
use Rattle.std.proofs.lemmas.Bool.{cases_Bool}
use Rattle.std.proofs.lemmas.List.{take-append-drop}
use Rattle.text_core.specs.declared.place.Place.{Place}
use Rattle.cs_token.specs.Places.{place_after}
use Rattle.cs_token.specs.Walks.{Walk, stay, go}
use Rattle.razor_token.specs.Answers.{IsPlaceIn}
use Rattle.razor_token.specs.Cutting.{Moment, found_at, keeps_line, piece_of, moment_behind, stepped, next, Step, beginning, ending, Cuts}
use Rattle.razor_token.specs.declared.piece.Piece.{Piece}
use Rattle.razor_ast.specs.Pieces.{is_counted, counted}
use Rattle.razor_reader.specs.PieceAnswers.{Kept, place_or}
use Rattle.razor_reader.proofs.ListLoops.{no_more}
use Rattle.razor_reader.proofs.ReadLemmas.{moved}

-- each piece has a place in the text
abbrev pub Placed : List ℕ → List Piece → Type 0
Placed text [] = Unit {0}
Placed text (p ∷ ps) = IsPlaceIn text p.place × Placed text ps

-- a step stands where its moment is, and keeps the text
abbrev Keeps : Moment → Piece × Moment → Type 0
Keeps m x = (x.0.place ≡ place_after m.before) × (x.1.before ++ x.1.rest ≡ m.before ++ m.rest)

found_keeps : (m : Moment) (found : _) → Keeps m (piece_of m found, moment_behind m found)
found_keeps m found =
    (refl, append_assoc m.before (take found.count m.rest) (drop found.count m.rest) ∙ ap (λ (l : List ℕ). m.before ++ l) (take-append-drop found.count m.rest))

step_keeps : (m : Moment) (x : Piece × Moment) (o : Option _) → stepped m o ≡ Some x → Keeps m x
step_keeps m x None e = absurd (cc)
step_keeps m x (Some found) e = elim (cases_Bool (keeps_line m.line (take found.count m.rest))) [
  | inl keeps ↦ let given = rw keeps at e in moved {A = Piece × Moment} (Keeps m) given (found_keeps m found)
  | inr cut ↦ let given = rw cut at e in absurd (cc)
]

next_keeps : (m later : Moment) (p : Piece) → Step m p later → Keeps m (p, later)
unfolding next
next_keeps m later p e = step_keeps m (p, later) (found_at m) e

placed_walk : (m n : Moment) (ps : List Piece) → Walk Step m ps n → Placed (m.before ++ m.rest) ps
placed_walk _ _ _ (stay here) = tt
placed_walk _ _ _ (go here later there p ps first rest) =
    let at : Keeps here (p, later) = next_keeps here later p first in
    (record { before = here.before; rest = here.rest; laid = refl; here = at.0 }, subst (λ (t : List ℕ). Placed t ps) at.1 (placed_walk later there ps rest))

cut_places : (text : List ℕ) (pieces : List Piece) → Cuts text pieces → Placed text pieces
cut_places text pieces cut = placed_walk (beginning text) (ending text) pieces cut

counted_places : (text : List ℕ) (ps : List Piece) → Placed text ps → Placed text (counted ps)
counted_places text [] h = tt
counted_places text (p ∷ ps) h = pick (is_counted p.kind) (counted_places text ps h.1)
  where
    pick : (b : Bool) → Placed text (counted ps) → Placed text (if b then p ∷ counted ps else counted ps)
    pick true more = (h.0, more)
    pick false more = more

dropped : (text : List ℕ) (n : ℕ) (ps : List Piece) → Placed text ps → Placed text (drop n ps)
dropped text zero ps h = h
dropped text (suc n) [] h = tt
dropped text (suc n) (p ∷ ps) h = dropped text n ps h.1

first_placed : (text : List ℕ) (end : Place) (ps : List Piece) → IsPlaceIn text end → Placed text ps → IsPlaceIn text (place_or end ps)
first_placed text end [] e h = e
first_placed text end (p ∷ ps) e h = h.0

end_place : (text : List ℕ) → IsPlaceIn text (place_after text)
end_place text = record { before = text; rest = []; laid = sym (no_more text); here = refl }

-- the place of a piece that counts, or of the end of the text
pub placed_in : (text : List ℕ) (kept : List Piece) (n : ℕ) (end place : Place) → Kept text kept → end ≡ place_after text → place ≡ place_or end (drop n kept) → IsPlaceIn text place
placed_in text kept n end place h e is =
    let all : Placed text kept = subst (λ (l : List Piece). Placed text l) (sym h.counts) (counted_places text h.pieces (cut_places text h.pieces h.cut)) in
    let there : IsPlaceIn text end = subst (λ (q : Place). IsPlaceIn text q) (sym e) (end_place text) in
    subst (λ (q : Place). IsPlaceIn text q) (sym is) (first_placed text end (drop n kept) there (dropped text n kept all))
