-- Values that are code without an at sign before it are cut into its tokens.
use Rattle.std.proofs.Common.{◌≡◌, ℕ, ◌<◌, Bool, true, false, List, [], ◌∷◌, ◌++◌, length, take, Some, None, refl, sym, ap, ◌∙◌, subst, append_assoc, append-nil, arith}
use Rattle.std.specs.declared.option.Option.{Option}
use Rattle.std.specs.Prelude.{◌==◌, ◌&&◌, not, is_some}
use Rattle.std.specs.List.{list_any}
use Rattle.std.proofs.lemmas.Bool.{or_parts}
use Rattle.std.proofs.lemmas.List.{append_cancel_left}
use Rattle.std.proofs.lemmas.List.Folds.{list_any-append}
use Rattle.std.proofs.Math.Seq.{take-append_seam}
use Rattle.cs_token.specs.declared.around.Around.{Around}
use Rattle.cs_token.specs.declared.around.Opened.{Opened}
use Rattle.cs_token.specs.declared.token.TokenKind.{TokenKind}
use Rattle.cs_token.specs.Lexemes.{Stands}
use Rattle.cs_token.specs.Places.{place_after}
use Rattle.cs_token.specs.Spelling as code
use Rattle.cs_token.specs.Spelling.{behind_kind, step}
use Rattle.cs_token.specs.Reading.Runs.{strip}
use Rattle.cs_token.specs.Walks.{stay}
use Rattle.cs_token.proofs.FrontLengths.{stands-some}
use Rattle.cs_print.specs.Layout.{code_text}
use Rattle.cs_print.specs.Printed.{Kinds}
use Rattle.cs_print.proofs.CodeKinds.{IsCode}
use Rattle.cs_print.proofs.LayLemmas as l
use Rattle.cs_print.proofs.LayLemmas.{code-laid}
use Rattle.razor_token.specs.declared.context.Context.{Context}
use Rattle.razor_token.specs.declared.context.Context.TheVariants as x
use Rattle.razor_token.specs.declared.context.Held.TheVariants as held
use Rattle.razor_token.specs.declared.context.Holds.TheVariants as h
use Rattle.razor_token.specs.declared.piece.PieceKind.TheVariants as k
use Rattle.razor_token.specs.declared.piece.Quote.{Quote}
use Rattle.razor_token.specs.declared.piece.Quote.TheVariants as q
use Rattle.razor_token.specs.Runs.{begins}
use Rattle.razor_token.specs.CodeFronts.{mark, keeps_quote, sign_of, code_kind}
use Rattle.razor_token.specs.ValueFronts.{code_value_at}
use Rattle.razor_token.specs.Contexts.{stays, becomes, with_sign}
use Rattle.razor_token.specs.Pieces.{piece}
use Rattle.razor_print.specs.Parts.{Parts, tokens, quoted}
use Rattle.razor_print.specs.Parts as parts
use Rattle.printed_pieces.specs.Meant as m
use Rattle.printed_pieces.specs.Cut.{Lays, within, Stand}
use Rattle.printed_pieces.proofs.WalkLaws.{step-found, lays-one, lays-none, lays-join}
use Rattle.printed_pieces.proofs.FrontLaws.{code-found}
use Rattle.printed_pieces.proofs.GoesLaws.{same-opened}
use Rattle.printed_pieces.proofs.QuoteFree.{IsFree, code-free}
use Rattle.printed_pieces.proofs.ValueLaws.{stand-quoted, quoted_text, code-end}

and-false : (b : Bool) → (b && false) ≡ false
and-false true = refl
and-false false = refl

no-mark : (quote : Quote) (text rest : List ℕ) → 0 < length text → IsFree (mark quote) text → begins (mark quote ∷ []) (text ++ rest) ≡ false
unfolding strip
no-mark quote [] rest some free = absurd (omega (arith, some))
no-mark quote (c ∷ text) rest some free = rw ((or_parts (c == mark quote) (list_any (λ d. d == mark quote) text) free).0) refl

kept : (quote : Quote) (text rest : List ℕ) → IsFree (mark quote) text → keeps_quote (Some quote) (take (length text) (text ++ rest)) ≡ true
kept quote text rest free = ap (λ z. keeps_quote (Some quote) z) (take-append_seam text rest) ∙ ap not free

value-found : (quote : Quote) (around : Option Around) (kind : Option TokenKind) (text rest : List ℕ) → IsFree (mark quote) text → Stands around kind text rest
    → code_value_at quote around (text ++ rest) ≡ piece (code_kind kind) (length text) (with_sign (sign_of kind) stays)
unfolding code_value_at
value-found quote around kind text rest free stands =
    let none = no-mark quote text rest (stands-some around kind text rest stands) free in
    let test = kept quote text rest free in
    let here = code-found around kind text rest stands in
    rw (none, and-false (not (is_some around)), here, test) refl

-- what a walk of C# is in such a value
record Valued (cs : List Context) (quote : Quote) (a : code.Moment) (ks : Kinds) (b : code.Moment) : Type 0 where
  grown : List ℕ
  is : a.1 ++ grown ≡ b.1
  lays : IsFree (mark quote) grown → Lays (within (x.Value held.Code (Some quote) ∷ cs) a.0 a.1 a.2) (tokens ks) (within (x.Value held.Code (Some quote) ∷ cs) b.0 b.1 b.2)

module _ (cs : List Context) (quote : Quote) where
  value-token : (o : List Opened) (before text rest : List ℕ) (kind : TokenKind) → IsFree (mark quote) text → Stands (code.innermost o) (Some kind) text rest
      → Lays (within (x.Value held.Code (Some quote) ∷ cs) o before (text ++ rest)) (parts.token kind ∷ []) (within (x.Value held.Code (Some quote) ∷ cs) (behind_kind (Some kind) (place_after before) o) (before ++ text) rest)
  value-token o before text rest kind free stands =
      let steps = step-found (x.Value held.Code (Some quote) ∷ cs) o before text rest (k.Code kind) (with_sign (sign_of (Some kind)) stays) (value-found quote (code.innermost o) (Some kind) text rest free stands) refl in
      subst (λ z. Lays (within (x.Value held.Code (Some quote) ∷ cs) o before (text ++ rest)) (parts.token kind ∷ []) (within (x.Value held.Code (Some quote) ∷ cs) z (before ++ text) rest)) (same-opened kind (place_after before) o)
      (lays-one _ _ (k.Code kind) (parts.token kind ∷ []) steps refl (λ p is. m.token kind p [] [] is m.no_part))

  value-gap : (o : List Opened) (before text rest : List ℕ) → IsFree (mark quote) text → Stands (code.innermost o) None text rest
      → Lays (within (x.Value held.Code (Some quote) ∷ cs) o before (text ++ rest)) [] (within (x.Value held.Code (Some quote) ∷ cs) o (before ++ text) rest)
  value-gap o before text rest free stands =
      lays-none _ _ k.Gap [] (step-found (x.Value held.Code (Some quote) ∷ cs) o before text rest k.Gap (with_sign None stays) (value-found quote (code.innermost o) None text rest free stands) refl) refl m.no_part

  apart : (xs ys : List ℕ) → IsFree (mark quote) (xs ++ ys) → (IsFree (mark quote) xs) × (IsFree (mark quote) ys)
  apart xs ys free = or_parts (list_any (λ d. d == mark quote) xs) (list_any (λ d. d == mark quote) ys) (sym (list_any-append (λ d. d == mark quote) xs ys) ∙ free)

  valued : (a b : code.Moment) (ks : Kinds) → l.Lays a ks b → Valued cs quote a ks b
  valued _ _ _ (l.stop a) = record { grown = []; is = append-nil a.1; lays = λ free. record { pieces = []; laid = stay _; mean = m.no_part } }
  valued _ b _ (l.token _ _ _ _ _ ks (step o before (Some kind) text rest stands) later) =
      let more = valued _ b ks later in
      record {
        grown = text ++ more.grown;
        is = sym (append_assoc before text more.grown) ∙ more.is;
        lays = λ free. let both = apart text more.grown free in lays-join _ _ _ (parts.token kind ∷ []) (tokens ks) (value-token o before text rest kind both.0 stands) (more.lays both.1);
      }
  valued _ b ks (l.gap _ _ _ _ _ (step o before None text rest stands) later) =
      let more = valued _ b ks later in
      record {
        grown = text ++ more.grown;
        is = sym (append_assoc before text more.grown) ∙ more.is;
        lays = λ free. let both = apart text more.grown free in lays-join _ _ _ [] (tokens ks) (value-gap o before text rest both.0 stands) (more.lays both.1);
      }

pub stand-value-code : (cs : List Context) (before rest : List ℕ) (quote : Quote) (ks : Kinds) → IsCode ks → IsFree (mark quote) (code_text ks)
    → Stand (x.Value held.Code (Some quote) ∷ cs) before (tokens ks) (code_text ks) rest (x.Value held.Code (Some quote) ∷ cs)
stand-value-code cs before rest quote ks code free =
    let found = valued cs quote _ _ ks (code-laid ks [] before rest code refl) in
    let same : found.grown ≡ code_text ks = append_cancel_left before found.grown (code_text ks) found.is in
    found.lays (subst (λ z. IsFree (mark quote) z) (sym same) free)

-- code in these quotes
pub stand-code-value : (cs : List Context) (before rest : List ℕ) (quote : Quote) (ks : Kinds) → IsCode ks → IsFree (mark quote) (code_text ks)
    → Stand (x.Named h.Code ∷ cs) before (quoted quote (tokens ks)) (quoted_text quote (code_text ks)) rest cs
stand-code-value cs before rest quote ks code free =
    let value = x.Value held.Code (Some quote) ∷ cs in
    stand-quoted cs value value before rest h.Code quote (becomes (x.Value held.Code (Some quote))) (tokens ks) (code_text ks) refl refl refl
    (stand-value-code cs (before ++ 61 ∷ mark quote ∷ []) (mark quote ∷ rest) quote ks code free) (λ last. code-end quote rest) refl

-- code in single quotes, as keys are
pub stand-key : (cs : List Context) (before rest : List ℕ) (ks : Kinds) → IsCode ks
    → Stand (x.Named h.Code ∷ cs) before (quoted q.Single (tokens ks)) (quoted_text q.Single (code_text ks)) rest cs
stand-key cs before rest ks code = stand-code-value cs before rest q.Single ks code (code-free ks code)
