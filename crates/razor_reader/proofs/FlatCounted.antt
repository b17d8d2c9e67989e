-- Where pieces nest nowhere too deeply, each segment of code among those that count does so by itself.
use Rattle.std.proofs.Common.{◌≡◌, ℕ, List, [], ◌∷◌, ◌++◌, refl, sym, ap, ◌∙◌, subst}
use Rattle.std.specs.Prelude.{Bool, true, false, sum, nat_lt, filter, if◌then◌else◌, Option, Some, None}
use Rattle.text_core.specs.declared.place.Place.{Place}
use Rattle.cs_token.specs.declared.token.Token.{Token}
use Rattle.cs_grammar.specs.Nesting as c
use Rattle.razor_token.specs.declared.piece.Piece.{Piece}
use Rattle.razor_token.specs.declared.piece.PieceKind.{PieceKind}
use Rattle.razor_token.specs.declared.piece.PieceKind.TheVariants as k
use Rattle.razor_ast.specs.Nesting as n
use Rattle.razor_ast.specs.Pieces.{is_counted, counted, code, codes_of}
use Rattle.razor_reader.proofs.FlatLemmas.{flat_alone}
use Rattle.razor_reader.proofs.ValueComplete.{FlatPieces}

-- what is known where no place is too deep
below : (b : Bool) (p : Place) (o : Option Place) → ◌≡◌ {A = Option Place} (if b then Some p else o) None → (b ≡ false) × (o ≡ None)
below true p o e = absurd (cc)
below false p o e = (refl, e)

deeper : (open_ones : List ℕ) (p : Piece) (ps : List Piece) → n.too_deep_from open_ones (p ∷ ps) ≡ None
    → (nat_lt 200 (sum (n.behind p.kind open_ones)) ≡ false) × (n.too_deep_from (n.behind p.kind open_ones) ps ≡ None)
deeper open_ones p ps e = below (nat_lt 200 (sum (n.behind p.kind open_ones))) p.place (n.too_deep_from (n.behind p.kind open_ones) ps) e

uncounted : (kind : PieceKind) (open_ones : List ℕ) → is_counted kind ≡ false → n.behind kind open_ones ≡ open_ones
uncounted k.Comment open_ones e = refl
uncounted k.Gap open_ones e = refl
uncounted _ open_ones e = absurd (cc)

counted_by : (p : Piece) (ps : List Piece) (open_ones : List ℕ) (b : Bool) → is_counted p.kind ≡ b → nat_lt 200 (sum (n.behind p.kind open_ones)) ≡ false
    → n.too_deep_from (n.behind p.kind open_ones) (counted ps) ≡ None → n.too_deep_from open_ones (if b then p ∷ counted ps else counted ps) ≡ None
counted_by p ps open_ones true i small e = ap (λ (b : Bool). if b then Some p.place else n.too_deep_from (n.behind p.kind open_ones) (counted ps)) small ∙ e
counted_by p ps open_ones false i small e = ap (λ l. n.too_deep_from l (counted ps)) (sym (uncounted p.kind open_ones i)) ∙ e

counted_flat : (ps : List Piece) (open_ones : List ℕ) → n.too_deep_from open_ones ps ≡ None → n.too_deep_from open_ones (counted ps) ≡ None
counted_flat [] open_ones e = refl
counted_flat (p ∷ ps) open_ones e =
    let d = deeper open_ones p ps e in
    counted_by p ps open_ones (is_counted p.kind) refl d.0 (counted_flat ps (n.behind p.kind open_ones) d.1)

codes_flat : (ts : List Token) (rest : List Piece) (open_ones : List ℕ) → n.too_deep_from open_ones (codes_of ts ++ rest) ≡ None → c.too_deep_from open_ones ts ≡ None
codes_flat [] rest open_ones e = refl
codes_flat (u ∷ ts) rest open_ones e =
    let d = deeper open_ones (code u) (codes_of ts ++ rest) e in
    ap (λ (b : Bool). if b then Some u.place else c.too_deep_from (c.behind u.kind open_ones) ts) d.0 ∙ codes_flat ts rest (c.behind u.kind open_ones) d.1

segment_flat : (before : List Piece) (ts : List Token) (rest : List Piece) (open_ones : List ℕ) → n.too_deep_from open_ones (before ++ (codes_of ts ++ rest)) ≡ None → c.too_deep ts ≡ None
segment_flat [] ts rest open_ones e = flat_alone open_ones ts (codes_flat ts rest open_ones e)
segment_flat (p ∷ before) ts rest open_ones e = segment_flat before ts rest (n.behind p.kind open_ones) (deeper open_ones p (before ++ (codes_of ts ++ rest)) e).1

pub flat_counted : (pieces : List Piece) → n.too_deep pieces ≡ None → FlatPieces (counted pieces)
unfolding n.too_deep
flat_counted pieces e = record {
  flat = λ before ts rest is. segment_flat before ts rest [] (ap (λ l. n.too_deep_from [] l) (sym is) ∙ counted_flat pieces [] e);
}
