-- What is read as tokens is what the pieces are.
use Rattle.std.proofs.Common.{◌≡◌, ℕ, List, [], ◌∷◌, ◌++◌, refl, sym, ap, ◌∙◌, subst}
use Rattle.std.specs.Prelude.{Bool, true, false, not, ◌&&◌, if◌then◌else◌, Option, Some, None, option_map}
use Rattle.std.specs.List.{list_all}
use Rattle.cs_token.specs.declared.token.Token.{Token}
use Rattle.cs_token.specs.declared.token.TokenKind.{TokenKind}
use Rattle.cs_token.specs.declared.token.TokenKind.TheVariants as t
use Rattle.cs_token.specs.declared.token.Sign.TheVariants as s
use Rattle.razor_token.specs.declared.piece.Piece.{Piece}
use Rattle.razor_token.specs.declared.piece.PieceKind.{PieceKind}
use Rattle.razor_token.specs.declared.piece.PieceKind.TheVariants as k
use Rattle.razor_ast.specs.Pieces.{IsSign, code, codes_of}
use Rattle.razor_ast.specs.Brackets.{Split, Round, token_of, code_of, with_token, in_brackets}
use Rattle.razor_ast.specs.Brackets as b
use Rattle.razor_reader.specs.declared.mark.Mark.{Mark}
use Rattle.razor_reader.specs.declared.mark.Mark.TheVariants as m
use Rattle.razor_reader.specs.Marks.{is_token}
use Rattle.razor_reader.specs.Reading.{◌>>=◌, after}
use Rattle.razor_reader.specs.TokenReading.{with_code, code_run, code_to_from, code_to, round, before_last, between}
use Rattle.razor_reader.proofs.ReadLemmas.{bind_ok, moved, where_true}
use Rattle.razor_reader.proofs.MarkKinds.{of_open_round, of_close_round}
use Rattle.razor_reader.proofs.MarkLemmas.{taken}

-- the piece that its token is
pub code_is : (p : Piece) (kind : TokenKind) → p.kind ≡ k.Code kind → code (token_of p kind) ≡ p
code_is p kind e = ap (λ of. record { kind = of; start = p.start; end = p.end; place = p.place }) (sym e)

pub code_run_whole : (ps : List Piece) → ps ≡ codes_of (code_run ps).0 ++ (code_run ps).1
code_run_whole [] = refl
code_run_whole (p ∷ ps) = go (code_run_whole ps) p.kind refl
  where
    go : ps ≡ codes_of (code_run ps).0 ++ (code_run ps).1 → (of : PieceKind) → p.kind ≡ of → p ∷ ps ≡ codes_of (with_code (code_of of) p ps (code_run ps)).0 ++ (with_code (code_of of) p ps (code_run ps)).1
    go more (k.Code kind) e = ap (λ q. q ∷ ps) (sym (code_is p kind e)) ∙ ap (λ l. code (token_of p kind) ∷ l) more
    go more _ e = refl

-- tokens up to and with the first of a mark
pub record To (mark : Mark) (ps : List Piece) (ts : List Token) (rest : List Piece) : Type 0 where
  pub us : List Token
  pub c : Token
  pub tokens : ts ≡ us ++ c ∷ []
  pub none : list_all (λ u. not (is_token mark u.kind)) us ≡ true
  pub is : is_token mark c.kind ≡ true
  pub whole : ps ≡ codes_of ts ++ rest

-- one token more before them
to_more : (mark : Mark) (p : Piece) (kind : TokenKind) (ps : List Piece) (ts : List Token) (rest : List Piece) →
    p.kind ≡ k.Code kind → is_token mark kind ≡ false → To mark ps ts rest → To mark (p ∷ ps) (token_of p kind ∷ ts) rest
to_more mark p kind ps ts rest i f x = record {
  us = token_of p kind ∷ x.us;
  c = x.c;
  tokens = ap (λ l. token_of p kind ∷ l) x.tokens;
  none = ap (λ d. not d && list_all (λ u. not (is_token mark u.kind)) x.us) f ∙ x.none;
  is = x.is;
  whole = ap (λ q. q ∷ ps) (sym (code_is p kind i)) ∙ ap (λ l. code (token_of p kind) ∷ l) x.whole;
}

to_one : (mark : Mark) (p : Piece) (kind : TokenKind) (ps : List Piece) → p.kind ≡ k.Code kind → is_token mark kind ≡ true → To mark (p ∷ ps) (token_of p kind ∷ []) ps
to_one mark p kind ps i f = record {
  us = [];
  c = token_of p kind;
  tokens = refl;
  none = refl;
  is = f;
  whole = ap (λ q. q ∷ ps) (sym (code_is p kind i));
}

mapped : (token : Token) (o : Split) (x : List Token × List Piece) → with_token token o ≡ Some x → (y : List Token × List Piece) × (o ≡ Some y) × (x ≡ (token ∷ y.0, y.1))
mapped token None x e = absurd (cc)
mapped token (Some y) x e = (y, refl, cc)

pub code_to_whole : (mark : Mark) (ps : List Piece) (ts : List Token) (rest : List Piece) → code_to mark ps ≡ Some (ts, rest) → To mark ps ts rest
code_to_whole mark [] ts rest e = absurd (cc)
code_to_whole mark (p ∷ ps) ts rest e = go (λ ts rest e. code_to_whole mark ps ts rest e) p.kind refl e
  where
    split : ((ts : List Token) (rest : List Piece) → code_to mark ps ≡ Some (ts, rest) → To mark ps ts rest) → (kind : TokenKind) (d : Bool) → p.kind ≡ k.Code kind → is_token mark kind ≡ d →
        ◌≡◌ {A = Split} (if d then Some (token_of p kind ∷ [], ps) else with_token (token_of p kind) (code_to mark ps)) (Some (ts, rest)) → To mark (p ∷ ps) ts rest
    split more kind true i f e = moved {A = List Token × List Piece} (λ x. To mark (p ∷ ps) x.0 x.1) e (to_one mark p kind ps i f)
    split more kind false i f e =
        let y = mapped (token_of p kind) (code_to mark ps) (ts, rest) e in
        subst (λ (x : List Token × List Piece). To mark (p ∷ ps) x.0 x.1) (sym y.2) (to_more mark p kind ps y.0.0 y.0.1 i f (more y.0.0 y.0.1 y.1))

    go : ((ts : List Token) (rest : List Piece) → code_to mark ps ≡ Some (ts, rest) → To mark ps ts rest) → (of : PieceKind) → p.kind ≡ of → code_to_from mark (code_of of) p ps (code_to mark ps) ≡ Some (ts, rest) → To mark (p ∷ ps) ts rest
    go more (k.Code kind) i e = split more kind (is_token mark kind) i refl e
    go more _ i e = absurd (cc)

pub round_sound : (ps : List Piece) (ts : List Token) (rest : List Piece) → round ps ≡ Some (ts, rest) → Round ps ts rest
round_sound ps ts rest e =
    let x = bind_ok (after m.OpenRound ps) _ _ e in
    let y = bind_ok (in_brackets x.0 0) _ _ x.2 in
    let z = bind_ok (after m.CloseRound y.0.1) _ _ y.2 in
    let o = taken m.OpenRound (k.Code (t.Sign s.OpenRound)) ps x.0 of_open_round x.1 in
    let c = taken m.CloseRound (k.Code (t.Sign s.CloseRound)) y.0.1 z.0 of_close_round z.1 in
    moved {A = List Token × List Piece} (λ q. Round ps q.0 q.1) z.2
    (subst (λ l. Round l y.0.0 z.0) (sym o.whole)
    (b.round o.p c.p x.0 z.0 y.0.0 o.is (y.1 ∙ ap (λ l. Some (y.0.0, l)) c.whole) c.is))

-- tokens between two that have these marks
pub record Between (first last : Mark) (ts inner : List Token) : Type 0 where
  pub o : Token
  pub c : Token
  pub whole : ts ≡ o ∷ (inner ++ c ∷ [])
  pub opens : is_token first o.kind ≡ true
  pub closes : is_token last c.kind ≡ true

pub before_last_whole : (mark : Mark) (ts inner : List Token) → before_last mark ts ≡ Some inner → (c : Token) × (ts ≡ inner ++ c ∷ []) × (is_token mark c.kind ≡ true)
before_last_whole mark [] inner e = absurd (cc)
before_last_whole mark (u ∷ []) inner e =
    let x = where_true (is_token mark u.kind) (Some []) inner e in
    (u, moved {A = List Token} (λ l. u ∷ [] ≡ l ++ u ∷ []) x.1 refl, x.0)
before_last_whole mark (u ∷ v ∷ ts) inner e = go (λ l i. before_last_whole mark (v ∷ ts) l i) (before_last mark (v ∷ ts)) refl e
  where
    go : ((l : List Token) → before_last mark (v ∷ ts) ≡ Some l → (c : Token) × (v ∷ ts ≡ l ++ c ∷ []) × (is_token mark c.kind ≡ true)) →
        (o : Option (List Token)) → before_last mark (v ∷ ts) ≡ o → option_map (λ l. u ∷ l) o ≡ Some inner → (c : Token) × (u ∷ v ∷ ts ≡ inner ++ c ∷ []) × (is_token mark c.kind ≡ true)
    go more None i e = absurd (cc)
    go more (Some l) i e =
        let x = more l i in
        (x.0, moved {A = List Token} (λ q. u ∷ v ∷ ts ≡ q ++ x.0 ∷ []) e (ap (λ q. u ∷ q) x.1), x.2)

pub between_whole : (first last : Mark) (ts inner : List Token) → between first last ts ≡ Some inner → Between first last ts inner
between_whole first last [] inner e = absurd (cc)
between_whole first last (u ∷ ts) inner e =
    let x = where_true (is_token first u.kind) (before_last last ts) inner e in
    let y = before_last_whole last ts inner x.1 in
    record { o = u; c = y.0; whole = ap (λ l. u ∷ l) y.1; opens = x.0; closes = y.2 }
