-- The pieces of a text are sound.
use Rattle.std.proofs.Common.{◌≡◌, ℕ, Bool, true, false, List, take, Some, None, refl, sym, ap, ◌∙◌, subst}
use Rattle.std.specs.declared.option.Option.{Option}
use Rattle.cs_token.specs.Spelling as code
use Rattle.cs_token.specs.Walks.{Walk, stay, go}
use Rattle.razor_token.specs.declared.found.Found.{Found}
use Rattle.razor_token.specs.declared.piece.Piece.{Piece}
use Rattle.razor_token.specs.Contexts.{innermost}
use Rattle.razor_token.specs.Cutting.{Moment, Step, Cuts, beginning, ending, found_at, keeps_line, last_of, piece_of, moment_behind, stepped, next}
use Rattle.printed_pieces.specs.Sound.{IsSound, AreSound, none, one_more}
use Rattle.printed_pieces.proofs.SoundFronts.{Finds, nothing, something, all-sound}

-- the step that was made, if it keeps the line
abbrev taken : Moment → Found → Bool → Option (Piece × Moment)
taken m found true = Some (piece_of m found, moment_behind m found)
taken m found false = None

kept : (m : Moment) (found : Found) (p : Piece) (n : Moment) (b : Bool) → taken m found b ≡ Some (p, n) → IsSound found.kind → IsSound p.kind
kept m found p n true e h =
    let f : Option (Piece × Moment) → Piece = λ o. elim o [ None ↦ p | Some z ↦ z.0 ] in
    subst (λ (z : Piece). IsSound z.kind) (ap f e) h
kept m found p n false e h = absurd (cc)

stepped-taken : (m : Moment) (found : Found) (b : Bool) → keeps_line m.line (take found.count m.rest) ≡ b → taken m found b ≡ stepped m (Some found)
stepped-taken m found true e = sym (rw e refl)
stepped-taken m found false e = sym (rw e refl)

found-sound : (m : Moment) (o : Option Found) (p : Piece) (n : Moment) → stepped m o ≡ Some (p, n) → Finds o → IsSound p.kind
found-sound m _ p n e nothing = absurd (cc)
found-sound m _ p n e (something found h) = kept m found p n (keeps_line m.line (take found.count m.rest)) (stepped-taken m found (keeps_line m.line (take found.count m.rest)) refl ∙ e) h

step-sound : (m : Moment) (p : Piece) (n : Moment) → Step m p n → IsSound p.kind
unfolding next
step-sound m p n e = found-sound m (found_at m) p n e (all-sound (innermost m.contexts) m.line (code.innermost m.opened) (last_of m.before) m.rest)

walk-sound : (m n : Moment) (ps : List Piece) → Walk Step m ps n → AreSound ps
walk-sound _ _ _ (stay m) = none
walk-sound _ n _ (go m middle _ p ps first rest) = one_more p ps (step-sound m p middle first) (walk-sound middle n ps rest)

pub pieces_sound : (text : List ℕ) (ps : List Piece) → Cuts text ps → AreSound ps
pieces_sound text ps cut = walk-sound (beginning text) (ending text) ps cut
