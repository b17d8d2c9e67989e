-- The text of a parameter is cut as meant.
use Rattle.std.proofs.Common.{◌≡◌, ℕ, true, false, List, [], ◌∷◌, ◌++◌, Some, refl, sym, ap, ◌∙◌, subst, append_assoc}
use Rattle.std.specs.declared.option.Option.{Option}
use Rattle.std.specs.Prelude.{◌==◌, codes}
use Rattle.cs_ast.specs.declared.expression.Expr.{Expr}
use Rattle.cs_token.specs.Reading.Runs.{strip}
use Rattle.cs_token.specs.Walks.{stay, go}
use Rattle.razor_token.specs.declared.context.Context.{Context}
use Rattle.razor_token.specs.declared.context.Context.TheVariants as x
use Rattle.razor_token.specs.declared.context.Held.TheVariants as held
use Rattle.razor_token.specs.declared.context.Holds.TheVariants as h
use Rattle.razor_token.specs.declared.piece.PieceKind.TheVariants as k
use Rattle.razor_token.specs.declared.piece.Quote.{Quote}
use Rattle.razor_token.specs.declared.piece.Quote.TheVariants as q
use Rattle.razor_token.specs.Runs.{begins}
use Rattle.razor_token.specs.CodeFronts.{mark}
use Rattle.razor_token.specs.ValueFronts.{quoted_change}
use Rattle.razor_token.specs.Contexts.{leaves, becomes}
use Rattle.razor_token.specs.Cutting.{Moment}
use Rattle.razor_token.specs.Pieces.{piece}
use Rattle.razor_ast.specs.Pieces.{counted}
use Rattle.razor_print.specs.Parts.{Parts}
use Rattle.razor_print.specs.Parts as parts
use Rattle.razor_print.specs.ValueTexts.{stands_in}
use Rattle.printed_pieces.specs.Meant.{Mean}
use Rattle.printed_pieces.specs.Meant as m
use Rattle.printed_pieces.specs.Cut.{Lays, between, Stand}
use Rattle.printed_pieces.proofs.WalkLaws.{walk-join, counted-join, counted-one, Steps, step-found}
use Rattle.printed_pieces.proofs.LiteralLaws.{Saying}
use Rattle.printed_pieces.proofs.GivenLaws.{given-saying}
use Rattle.printed_pieces.proofs.ValueLaws.{quoted_text, start-found, text-end}

-- a text that the quote behind it ends, which begins with no at sign
pub data IsGiven (quote : Quote) : List ℕ → Type 0 where
  empty : IsGiven quote []
  some : (c : ℕ) (text : List ℕ) → (c == 64) ≡ false → stands_in quote (c ∷ text) ≡ true → IsGiven quote (c ∷ text)

given-stands : (quote : Quote) (text : List ℕ) → IsGiven quote text → stands_in quote text ≡ true
unfolding stands_in
given-stands quote _ empty = refl
given-stands quote _ (some c text is stands) = stands

-- no at sign stands first
no-at : (quote : Quote) (text rest : List ℕ) → IsGiven quote text → begins (codes "@") ((text ++ mark quote ∷ []) ++ rest) ≡ false
unfolding strip
no-at q.Double _ rest empty = refl
no-at q.Single _ rest empty = refl
no-at q.Double _ rest (some c text is stands) = rw is refl
no-at q.Single _ rest (some c text is stands) = rw is refl

-- a quote, what is said, and the quote
supplied-lays : (a b c d : Moment) (quote : Quote) (text : List ℕ) (e : Option Expr) → Steps a (k.ValueStart (Some quote)) b → Saying b text c → Steps c k.ValueEnd d → Lays a (parts.supplied quote text e ∷ []) d
supplied-lays a b c d quote text e one said two = record {
  pieces = one.piece ∷ (said.pieces ++ two.piece ∷ []);
  laid = go a b d one.piece (said.pieces ++ two.piece ∷ []) one.step (walk-join b c d said.pieces (two.piece ∷ []) said.laid (go c d d two.piece [] two.step (stay d)));
  mean = subst (λ z. Mean (parts.supplied quote text e ∷ []) z) counts (m.supplied quote text e one.piece two.piece [] (counted said.pieces) [] one.is said.says two.is m.no_part);
}
  where
    ends : counted said.pieces ++ two.piece ∷ [] ≡ counted (said.pieces ++ two.piece ∷ [])
    ends = ap (λ z. counted said.pieces ++ z) (counted-one two.piece k.ValueEnd two.is refl) ∙ sym (counted-join said.pieces (two.piece ∷ []))

    counts : one.piece ∷ (counted said.pieces ++ two.piece ∷ []) ≡ counted (one.piece ∷ (said.pieces ++ two.piece ∷ []))
    counts = ap (λ z. one.piece ∷ z) ends ∙ ap (λ z. z ++ counted (said.pieces ++ two.piece ∷ [])) (counted-one one.piece (k.ValueStart (Some quote)) one.is refl) ∙ sym (counted-join (one.piece ∷ []) (said.pieces ++ two.piece ∷ []))

pub stand-supplied : (cs : List Context) (before rest : List ℕ) (quote : Quote) (text : List ℕ) (e : Option Expr) → IsGiven quote text
    → Stand (x.Named h.Supplied ∷ cs) before (parts.supplied quote text e ∷ []) (quoted_text quote text) rest cs
stand-supplied cs before rest quote text e is =
    let open_text = 61 ∷ mark quote ∷ [] in
    let value = x.Value held.Text (Some quote) ∷ cs in
    let inner = (text ++ mark quote ∷ []) ++ rest in
    let found = start-found h.Supplied quote inner ∙ ap (λ z. piece (k.ValueStart (Some quote)) 2 (quoted_change h.Supplied quote z)) (no-at quote text rest is) in
    let one = step-found (x.Named h.Supplied ∷ cs) [] before open_text inner (k.ValueStart (Some quote)) (becomes (x.Value held.Text (Some quote))) found refl in
    let said = given-saying cs quote rest text (given-stands quote text is) (before ++ open_text) in
    let two = step-found value [] ((before ++ open_text) ++ text) (mark quote ∷ []) rest k.ValueEnd leaves (text-end quote rest) refl in
    subst (λ z. Lays (between (x.Named h.Supplied ∷ cs) before (quoted_text quote text ++ rest)) (parts.supplied quote text e ∷ []) (between cs z rest)) (places before text quote)
    (supplied-lays _ _ _ _ quote text e one (subst (λ z. Saying (between value (before ++ open_text) z) text (between value ((before ++ open_text) ++ text) (mark quote ∷ rest))) (sym (append_assoc text (mark quote ∷ []) rest)) said) two)
  where
    places : (before text : List ℕ) (quote : Quote) → ((before ++ 61 ∷ mark quote ∷ []) ++ text) ++ mark quote ∷ [] ≡ before ++ quoted_text quote text
    places before text quote =
        append_assoc (before ++ 61 ∷ mark quote ∷ []) text (mark quote ∷ []) ∙ append_assoc before (61 ∷ mark quote ∷ []) (text ++ mark quote ∷ [])
