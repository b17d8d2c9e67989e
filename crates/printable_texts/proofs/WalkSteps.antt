-- One step of a walk through a text.
use Rattle.std.proofs.Common.{◌≡◌, ℕ, take, drop, Some, None, inl, inr, sym, ap}
use Rattle.std.specs.declared.option.Option.{Option}
use Rattle.std.proofs.lemmas.Bool.{cases_Bool}
use Rattle.cs_token.specs.Places.{place_after}
use Rattle.razor_token.specs.declared.context.Change.{Change}
use Rattle.razor_token.specs.declared.found.Found.{Found}
use Rattle.razor_token.specs.declared.piece.Piece.{Piece}
use Rattle.razor_token.specs.declared.piece.PieceKind.{PieceKind}
use Rattle.razor_token.specs.Contexts.{changed}
use Rattle.razor_token.specs.Cutting.{Moment, Step, opened_behind, keeps_line, piece_of, moment_behind, found_at, stepped, next}

-- what was found makes this piece and this moment
pub record Made (m : Moment) (kind : PieceKind) (count : ℕ) (change : Change) (p : Piece) (n : Moment) : Type 0 where
  pub kind_is : p.kind ≡ kind
  pub contexts : n.contexts ≡ changed change m.contexts
  pub opened : n.opened ≡ opened_behind change.sign (place_after m.before) m.opened
  pub rest : n.rest ≡ drop count m.rest

piece_is : (x p : Piece) (y n : Moment) → (let one : Option (Piece × Moment) = Some (x, y) in let other : Option (Piece × Moment) = Some (p, n) in one ≡ other) → p ≡ x
piece_is x p y n e = let f : Option (Piece × Moment) → Piece = λ o. elim o [ None ↦ x | Some z ↦ z.0 ] in sym (ap f e)

moment_is : (x p : Piece) (y n : Moment) → (let one : Option (Piece × Moment) = Some (x, y) in let other : Option (Piece × Moment) = Some (p, n) in one ≡ other) → n ≡ y
moment_is x p y n e = let f : Option (Piece × Moment) → Moment = λ o. elim o [ None ↦ y | Some z ↦ z.1 ] in sym (ap f e)

pub made : (m : Moment) (kind : PieceKind) (count : ℕ) (change : Change) (p : Piece) (n : Moment) → stepped m (Some (record { kind = kind; count = count; change = change })) ≡ Some (p, n) → Made m kind count change p n
made m kind count change p n e =
    let found : Found = record { kind = kind; count = count; change = change } in
    elim (cases_Bool (keeps_line m.line (take count m.rest))) [
      | inl keeps ↦
          let given = rw keeps at e in
          let piece = piece_is (piece_of m found) p (moment_behind m found) n given in
          let moment = moment_is (piece_of m found) p (moment_behind m found) n given in
          record {
            kind_is = ap (λ (z : Piece). z.kind) piece;
            contexts = ap (λ (z : Moment). z.contexts) moment;
            opened = ap (λ (z : Moment). z.opened) moment;
            rest = ap (λ (z : Moment). z.rest) moment;
          }
      | inr cut ↦ let given = rw cut at e in absurd (cc)
    ]

pub step_found : (m : Moment) (p : Piece) (n : Moment) → Step m p n → stepped m (found_at m) ≡ Some (p, n)
unfolding next
step_found m p n e = e
