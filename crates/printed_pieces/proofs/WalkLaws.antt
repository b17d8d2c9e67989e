-- Texts one behind another are cut one behind another.
use Rattle.std.proofs.Common.{◌≡◌, ℕ, Bool, true, false, cond, List, [], ◌∷◌, ◌++◌, length, take, drop, None, refl, sym, ap, subst, append_assoc}
use Rattle.std.proofs.lemmas.List.{append-nil}
use Rattle.std.proofs.Math.Seq.{take-append_seam, drop-append_seam}
use Rattle.cs_token.specs.declared.around.Opened.{Opened}
use Rattle.cs_token.specs.Spelling as code
use Rattle.cs_token.specs.Places.{place_after}
use Rattle.cs_token.specs.Walks.{Walk, stay, go}
use Rattle.razor_token.specs.declared.context.Change.{Change}
use Rattle.razor_token.specs.declared.context.Context.{Context}
use Rattle.razor_token.specs.declared.found.Found.{Found}
use Rattle.razor_token.specs.declared.piece.Piece.{Piece}
use Rattle.razor_token.specs.declared.piece.PieceKind.{PieceKind}
use Rattle.razor_token.specs.Contexts.{innermost, changed}
use Rattle.razor_token.specs.Pieces.{piece}
use Rattle.razor_token.specs.Cutting.{Moment, Step, last_of, found_in, line_behind, opened_behind, piece_of}
use Rattle.razor_token.proofs.CutLemmas.{next-found}
use Rattle.razor_ast.specs.Pieces.{is_counted, counted, IsKind}
use Rattle.razor_print.specs.Parts.{Part, Parts, written, parts_text}
use Rattle.razor_print.specs.Parts as parts
use Rattle.razor_print.proofs.TextLaws.{parts_join}
use Rattle.printed_pieces.specs.Meant.{Says, Mean}
use Rattle.printed_pieces.specs.Meant as m
use Rattle.printed_pieces.specs.Cut.{Lays, within, between, Stand, Cut}

pub walk-join : (a b c : Moment) (ps qs : List Piece) → Walk Step a ps b → Walk Step b qs c → Walk Step a (ps ++ qs) c
walk-join _ _ c _ qs (stay a) more = more
walk-join _ b c _ qs (go a next _ p ps first rest) more = go a next c p (ps ++ qs) first (walk-join next b c ps qs rest more)

pub counted-join : (ps qs : List Piece) → counted (ps ++ qs) ≡ counted ps ++ counted qs
counted-join [] qs = refl
counted-join (p ∷ ps) qs = go (is_counted p.kind) (counted-join ps qs)
  where
    go : (b : Bool) → counted (ps ++ qs) ≡ counted ps ++ counted qs → cond b (p ∷ counted (ps ++ qs)) (counted (ps ++ qs)) ≡ cond b (p ∷ counted ps) (counted ps) ++ counted qs
    go true e = ap (λ xs. p ∷ xs) e
    go false e = e

pub mean-join : (xs ys : Parts) (ps qs : List Piece) → Mean xs ps → Mean ys qs → Mean (xs ++ ys) (ps ++ qs)
mean-join _ ys _ qs m.no_part more = more
mean-join _ ys _ qs (m.piece kind x p xs ps is rest) more = m.piece kind x p (xs ++ ys) (ps ++ qs) is (mean-join xs ys ps qs rest more)
mean-join _ ys _ qs (m.token kind p xs ps is rest) more = m.token kind p (xs ++ ys) (ps ++ qs) is (mean-join xs ys ps qs rest more)
mean-join _ ys _ qs (m.said text xs us ps says rest) more =
    subst (λ z. Mean (parts.said text ∷ (xs ++ ys)) z) (sym (append_assoc us ps qs)) (m.said text (xs ++ ys) us (ps ++ qs) says (mean-join xs ys ps qs rest more))
mean-join _ ys _ qs (m.verbatim text xs us ps says rest) more =
    subst (λ z. Mean (parts.verbatim text ∷ (xs ++ ys)) z) (sym (append_assoc us ps qs)) (m.verbatim text (xs ++ ys) us (ps ++ qs) says (mean-join xs ys ps qs rest more))
mean-join _ ys _ qs (m.supplied quote text a v e xs us ps starts says ends rest) more =
    subst (λ z. Mean (parts.supplied quote text a ∷ (xs ++ ys)) (v ∷ z)) (sym (append_assoc us (e ∷ ps) qs)) (m.supplied quote text a v e (xs ++ ys) us (ps ++ qs) starts says ends (mean-join xs ys ps qs rest more))
mean-join _ ys _ qs (m.apart xs ps rest) more = m.apart (xs ++ ys) (ps ++ qs) (mean-join xs ys ps qs rest more)

pub lays-join : (a b c : Moment) (xs ys : Parts) → Lays a xs b → Lays b ys c → Lays a (xs ++ ys) c
lays-join a b c xs ys first second = record {
  pieces = first.pieces ++ second.pieces;
  laid = walk-join a b c first.pieces second.pieces first.laid second.laid;
  mean = subst (λ z. Mean (xs ++ ys) z) (sym (counted-join first.pieces second.pieces)) (mean-join xs ys (counted first.pieces) (counted second.pieces) first.mean second.mean);
}

-- one text behind another
pub stand-join : (cs ds es : List Context) (before : List ℕ) (xs ys : Parts) (text more rest : List ℕ)
    → Stand cs before xs text (more ++ rest) ds → Stand ds (before ++ text) ys more rest es → Stand cs before (xs ++ ys) (text ++ more) rest es
stand-join cs ds es before xs ys text more rest first second =
    subst (λ z. Lays (between cs before z) (xs ++ ys) (between es (before ++ (text ++ more)) rest)) (sym (append_assoc text more rest))
    (subst (λ z. Lays (between cs before (text ++ (more ++ rest))) (xs ++ ys) (between es z rest)) (append_assoc before text more)
    (lays-join _ _ _ xs ys first second))

-- printed parts one behind another
pub cut-join : (cs ds es : List Context) (before : List ℕ) (xs ys : Parts) (rest : List ℕ)
    → Cut cs before xs (parts_text ys ++ rest) ds → Cut ds (before ++ parts_text xs) ys rest es → Cut cs before (xs ++ ys) rest es
cut-join cs ds es before xs ys rest first second =
    subst (λ z. Stand cs before (xs ++ ys) z rest es) (sym (parts_join xs ys)) (stand-join cs ds es before xs ys (parts_text xs) (parts_text ys) rest first second)

-- nothing
pub stand-nothing : (cs : List Context) (before rest : List ℕ) → Stand cs before [] [] rest cs
stand-nothing cs before rest =
    subst (λ z. Lays (between cs before rest) [] (between cs z rest)) (sym (append-nil before)) (record { pieces = []; laid = stay (between cs before rest); mean = m.no_part })

-- steps

same-moment : (cs : List Context) (o p : List Opened) (line : Bool) (a b before rest : List ℕ) → line ≡ false → p ≡ o → a ≡ before → b ≡ rest
    → (let made : Moment = record { contexts = cs; line = line; opened = p; before = a; rest = b } in made ≡ within cs o before rest)
same-moment cs o p line a b before rest l e f g = rw (l, e, f, g) refl

-- a step that gives a piece of this kind
pub record Steps (from : Moment) (kind : PieceKind) (to : Moment) : Type 0 where
  pub piece : Piece
  pub is : IsKind kind piece
  pub step : Step from piece to

-- what stands at the front makes a step
pub step-found : (cs : List Context) (o : List Opened) (before x rest : List ℕ) (kind : PieceKind) (change : Change)
    → found_in (innermost cs) false (code.innermost o) (last_of before) (x ++ rest) ≡ piece kind (length x) change → line_behind kind false ≡ false
    → Steps (within cs o before (x ++ rest)) kind (within (changed change cs) (opened_behind change.sign (place_after before) o) (before ++ x) rest)
step-found cs o before x rest kind change e line =
    let found : Found = record { kind = kind; count = length x; change = change } in
    let from = within cs o before (x ++ rest) in
    let to = same-moment (changed change cs) (opened_behind change.sign (place_after before) o) (opened_behind change.sign (place_after before) o) (line_behind kind false)
    (before ++ take (length x) (x ++ rest)) (drop (length x) (x ++ rest)) (before ++ x) rest line refl (ap (λ z. before ++ z) (take-append_seam x rest)) (drop-append_seam x rest) in
    record {
      piece = piece_of from found;
      is = refl;
      step = subst (λ z. Step from (piece_of from found) z) to (next-found from found e refl);
    }

pub counted-one : (p : Piece) (kind : PieceKind) → IsKind kind p → is_counted kind ≡ true → p ∷ [] ≡ counted (p ∷ [])
counted-one p kind is counts = sym (rw (is, counts) refl)

pub counted-none : (p : Piece) (kind : PieceKind) → IsKind kind p → is_counted kind ≡ false → [] ≡ counted (p ∷ [])
counted-none p kind is skipped = sym (rw (is, skipped) refl)

-- a single piece that counts
pub lays-one : (a b : Moment) (kind : PieceKind) (xs : Parts) → Steps a kind b → is_counted kind ≡ true → ((p : Piece) → IsKind kind p → Mean xs (p ∷ [])) → Lays a xs b
lays-one a b kind xs h counts means = record {
  pieces = h.piece ∷ [];
  laid = go a b b h.piece [] h.step (stay b);
  mean = subst (λ z. Mean xs z) (counted-one h.piece kind h.is counts) (means h.piece h.is);
}

-- a single piece that doesn't
pub lays-none : (a b : Moment) (kind : PieceKind) (xs : Parts) → Steps a kind b → is_counted kind ≡ false → Mean xs [] → Lays a xs b
lays-none a b kind xs h skipped means = record {
  pieces = h.piece ∷ [];
  laid = go a b b h.piece [] h.step (stay b);
  mean = subst (λ z. Mean xs z) (counted-none h.piece kind h.is skipped) means;
}

-- a piece of its own, where nothing is open of an interpolated text
pub stand-piece : (cs : List Context) (before x rest : List ℕ) (kind : PieceKind) (change : Change)
    → found_in (innermost cs) false None (last_of before) (x ++ rest) ≡ piece kind (length x) change → line_behind kind false ≡ false → is_counted kind ≡ true
    → opened_behind change.sign (place_after before) [] ≡ [] → Stand cs before (parts.piece kind x ∷ []) x rest (changed change cs)
stand-piece cs before x rest kind change e line counts opened =
    subst (λ z. Lays (between cs before (x ++ rest)) (parts.piece kind x ∷ []) (within (changed change cs) z (before ++ x) rest)) opened
    (lays-one _ _ kind (parts.piece kind x ∷ []) (step-found cs [] before x rest kind change e line) counts (λ p is. m.piece kind x p [] [] is m.no_part))
