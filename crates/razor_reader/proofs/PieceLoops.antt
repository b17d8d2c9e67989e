-- Turns of the loops that read literal texts and tokens.
use Rattle.std.proofs.Common.{◌≡◌, ℕ, List, [], ◌∷◌, ◌++◌, refl, sym, ap, ◌∙◌, append_assoc}
use Rattle.std.specs.Prelude.{Bool, true, false, if◌then◌else◌, Option, Some, None}
use Rattle.cs_token.specs.declared.token.Token.{Token}
use Rattle.cs_token.specs.declared.token.TokenKind.{TokenKind}
use Rattle.razor_token.specs.declared.piece.Piece.{Piece}
use Rattle.razor_token.specs.declared.piece.PieceKind.{PieceKind}
use Rattle.razor_token.specs.declared.piece.PieceKind.TheVariants as k
use Rattle.razor_ast.specs.Brackets.{Split, token_of, code_of, with_token, count_behind, in_brackets}
use Rattle.razor_ast.specs.Literals.{literal_of, with_literal, literal_run}
use Rattle.razor_reader.specs.declared.mark.Mark.{Mark}
use Rattle.razor_reader.specs.Marks.{is_token}
use Rattle.razor_reader.specs.TokenReading.{with_code, code_run, code_to_from, code_to}
use Rattle.razor_reader.proofs.ListLoops.{no_more, joined}

-- literal texts
pub literal_more : (whole : List ℕ × List Piece) (text more : List ℕ) (p : Piece) (us : List Piece) →
    whole ≡ joined text (literal_run (p ∷ us)) → p.kind ≡ k.Literal more → whole ≡ joined (text ++ more) (literal_run us)
literal_more whole text more p us e i =
    e ∙ ap (λ kind. joined text (with_literal (literal_of kind) p us (literal_run us))) i ∙ ap (λ l. (l, (literal_run us).1)) (sym (append_assoc text more (literal_run us).0))

pub literal_done : (whole : List ℕ × List Piece) (text : List ℕ) (ps : List Piece) → whole ≡ joined text (literal_run ps) → literal_run ps ≡ ([], ps) → whole ≡ (text, ps)
literal_done whole text ps e i = e ∙ ap (joined text) i ∙ ap (λ l. (l, ps)) (no_more text)

pub literal_other : (p : Piece) (us : List Piece) → ((more : List ℕ) → p.kind ≡ k.Literal more → ⊥) → literal_run (p ∷ us) ≡ ([], p ∷ us)
literal_other p us h = go p.kind refl
  where
    go : (of : PieceKind) → p.kind ≡ of → with_literal (literal_of of) p us (literal_run us) ≡ ([], p ∷ us)
    go (k.Literal more) e = absurd (h more e)
    go _ e = refl

-- tokens
pub code_more : (whole : List Token × List Piece) (ts : List Token) (kind : TokenKind) (p : Piece) (us : List Piece) →
    whole ≡ joined ts (code_run (p ∷ us)) → p.kind ≡ k.Code kind → whole ≡ joined (ts ++ token_of p kind ∷ []) (code_run us)
code_more whole ts kind p us e i =
    e ∙ ap (λ of. joined ts (with_code (code_of of) p us (code_run us))) i ∙ ap (λ l. (l, (code_run us).1)) (sym (append_assoc ts (token_of p kind ∷ []) (code_run us).0))

pub code_done : (whole : List Token × List Piece) (ts : List Token) (ps : List Piece) → whole ≡ joined ts (code_run ps) → code_run ps ≡ ([], ps) → whole ≡ (ts, ps)
code_done whole ts ps e i = e ∙ ap (joined ts) i ∙ ap (λ l. (l, ps)) (no_more ts)

pub code_other : (p : Piece) (us : List Piece) → ((kind : TokenKind) → p.kind ≡ k.Code kind → ⊥) → code_run (p ∷ us) ≡ ([], p ∷ us)
code_other p us h = go p.kind refl
  where
    go : (of : PieceKind) → p.kind ≡ of → with_code (code_of of) p us (code_run us) ≡ ([], p ∷ us)
    go (k.Code kind) e = absurd (h kind e)
    go _ e = refl

-- tokens up to a mark, and in brackets
abbrev pub before : List Token → Split → Split
before ts None = None
before ts (Some x) = Some (ts ++ x.0, x.1)

before_more : (ts : List Token) (token : Token) (split : Split) → before ts (with_token token split) ≡ before (ts ++ token ∷ []) split
before_more ts token None = refl
before_more ts token (Some x) = ap (λ l. Some (l, x.1)) (sym (append_assoc ts (token ∷ []) x.0))

pub to_more : (mark : Mark) (ts : List Token) (kind : TokenKind) (p : Piece) (us : List Piece) → p.kind ≡ k.Code kind → is_token mark kind ≡ false →
    before ts (code_to mark (p ∷ us)) ≡ before (ts ++ token_of p kind ∷ []) (code_to mark us)
to_more mark ts kind p us i f =
    ap (λ of. before ts (code_to_from mark (code_of of) p us (code_to mark us))) i
    ∙ ap (λ b. before ts (if b then Some (token_of p kind ∷ [], us) else with_token (token_of p kind) (code_to mark us))) f
    ∙ before_more ts (token_of p kind) (code_to mark us)

pub to_last : (mark : Mark) (ts : List Token) (kind : TokenKind) (p : Piece) (us : List Piece) → p.kind ≡ k.Code kind → is_token mark kind ≡ true →
    before ts (code_to mark (p ∷ us)) ≡ Some (ts ++ token_of p kind ∷ [], us)
to_last mark ts kind p us i f =
    ap (λ of. before ts (code_to_from mark (code_of of) p us (code_to mark us))) i
    ∙ ap (λ b. before ts (if b then Some (token_of p kind ∷ [], us) else with_token (token_of p kind) (code_to mark us))) f

pub to_other : (mark : Mark) (ts : List Token) (p : Piece) (us : List Piece) → ((kind : TokenKind) → p.kind ≡ k.Code kind → ⊥) → before ts (code_to mark (p ∷ us)) ≡ None
to_other mark ts p us h = go p.kind refl
  where
    go : (of : PieceKind) → p.kind ≡ of → before ts (code_to_from mark (code_of of) p us (code_to mark us)) ≡ None
    go (k.Code kind) e = absurd (h kind e)
    go _ e = refl

-- in brackets
in_step : Piece → List Piece → ℕ → Option TokenKind → Split
in_step p us count of = elim of [
  | None ↦ None
  | Some kind ↦ elim (count_behind kind count) [ None ↦ Some ([], p ∷ us) | Some n ↦ with_token (token_of p kind) (in_brackets us n) ]
]

pub in_more : (ts : List Token) (kind : TokenKind) (count n : ℕ) (p : Piece) (us : List Piece) → p.kind ≡ k.Code kind → count_behind kind count ≡ Some n →
    before ts (in_brackets (p ∷ us) count) ≡ before (ts ++ token_of p kind ∷ []) (in_brackets us n)
unfolding in_step
in_more ts kind count n p us i f =
    ap (λ of. before ts (in_step p us count (code_of of))) i
    ∙ ap (λ o. before ts (elim o [ None ↦ Some ([], p ∷ us) | Some n ↦ with_token (token_of p kind) (in_brackets us n) ])) f
    ∙ before_more ts (token_of p kind) (in_brackets us n)

pub in_end : (ts : List Token) (kind : TokenKind) (count : ℕ) (p : Piece) (us : List Piece) → p.kind ≡ k.Code kind → count_behind kind count ≡ None →
    before ts (in_brackets (p ∷ us) count) ≡ Some (ts, p ∷ us)
unfolding in_step
in_end ts kind count p us i f =
    ap (λ of. before ts (in_step p us count (code_of of))) i
    ∙ ap (λ o. before ts (elim o [ None ↦ Some ([], p ∷ us) | Some n ↦ with_token (token_of p kind) (in_brackets us n) ])) f
    ∙ ap (λ l. Some (l, p ∷ us)) (no_more ts)

pub in_other : (ts : List Token) (count : ℕ) (p : Piece) (us : List Piece) → ((kind : TokenKind) → p.kind ≡ k.Code kind → ⊥) → before ts (in_brackets (p ∷ us) count) ≡ None
unfolding in_step
in_other ts count p us h = go p.kind refl
  where
    go : (of : PieceKind) → p.kind ≡ of → before ts (in_step p us count (code_of of)) ≡ None
    go (k.Code kind) e = absurd (h kind e)
    go _ e = refl

pub nothing_before : (split : Split) → split ≡ before [] split
nothing_before None = refl
nothing_before (Some x) = refl
