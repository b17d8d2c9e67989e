-- What heads in round brackets spell is read.
use Rattle.std.proofs.Common.{◌≡◌, ℕ, List, [], ◌∷◌, ◌++◌, refl, sym, ap, ◌∙◌, subst}
use Rattle.std.specs.Prelude.{Bool, true, false, not, ◌||◌, if◌then◌else◌, Option, Some, None, option_map}
use Rattle.cs_ast.specs.declared.expression.Expr.{Expr}
use Rattle.cs_ast.specs.declared.identifier.Ident.{Ident}
use Rattle.cs_token.specs.declared.token.Token.{Token}
use Rattle.cs_token.specs.declared.token.TokenKind.{TokenKind}
use Rattle.cs_token.specs.declared.token.TokenKind.TheVariants as t
use Rattle.cs_token.specs.declared.token.Sign.TheVariants as s
use Rattle.cs_token.specs.declared.token.Word.TheVariants as w
use Rattle.cs_grammar.specs.Expressions.{SpelledExpression}
use Rattle.cs_grammar.specs.Nesting.{too_deep}
use Rattle.cs_grammar.specs.Tokens.{ident}
use Rattle.razor_token.specs.declared.piece.Piece.{Piece}
use Rattle.razor_token.specs.declared.piece.PieceKind.{PieceKind}
use Rattle.razor_token.specs.declared.piece.PieceKind.TheVariants as k
use Rattle.razor_ast.specs.Brackets.{Split, Round, token_of, code_of, with_token, count_behind, in_brackets}
use Rattle.razor_ast.specs.Brackets as b
use Rattle.razor_ast.specs.Pieces.{code, codes_of}
use Rattle.razor_ast.specs.Statements.{ForEachHead}
use Rattle.razor_ast.specs.Statements as g
use Rattle.razor_reader.specs.declared.mark.Mark.TheVariants as m
use Rattle.razor_reader.specs.Marks.{is_mark, is_token, sign_mark, word_mark, mark_number}
use Rattle.razor_reader.specs.Reading.{Read, ◌>>=◌, after}
use Rattle.razor_reader.specs.TokenReading.{round}
use Rattle.razor_reader.specs.CodeReading.{plain}
use Rattle.razor_reader.specs.HeadReading.{name_by, name_of, for_each_head}
use Rattle.razor_reader.specs.StatementReading.{condition_first}
use Rattle.razor_reader.proofs.CodeComplete.{Flat, plain_complete}
use Rattle.razor_reader.proofs.TokenSound.{code_is}
use Rattle.razor_reader.proofs.ValueComplete.{FlatPieces, flat_rest, flat_front, after_is, bind_is}

pub open_round_is : is_mark m.OpenRound (k.Code (t.Sign s.OpenRound)) ≡ true
unfolding sign_mark mark_number
open_round_is = refl

pub close_round_is : is_mark m.CloseRound (k.Code (t.Sign s.CloseRound)) ≡ true
unfolding sign_mark mark_number
close_round_is = refl

-- what stands in brackets is the pieces before the bracket that closes

split_first : {x y : List Token} {p q : List Piece} → (let one : Split = Some (x, p) in let other : Split = Some (y, q) in one ≡ other) → x ≡ y
split_first {x} {y} {p} {q} e = let f : Split → List Token = λ o. elim o [ None ↦ x | Some z ↦ z.0 ] in ap f e

split_second : {x y : List Token} {p q : List Piece} → (let one : Split = Some (x, p) in let other : Split = Some (y, q) in one ≡ other) → p ≡ q
split_second {x} {y} {p} {q} e = let f : Split → List Piece = λ o. elim o [ None ↦ p | Some z ↦ z.1 ] in ap f e

with_whole : (p : Piece) (kind : TokenKind) (ps us : List Piece) (ts : List Token) (o : Split) → p.kind ≡ k.Code kind → ((vs : List Piece) (ys : List Token) → o ≡ Some (ys, vs) → ps ≡ codes_of ys ++ vs)
    → with_token (token_of p kind) o ≡ Some (ts, us) → p ∷ ps ≡ codes_of ts ++ us
with_whole p kind ps us ts None i known e = absurd (cc)
with_whole p kind ps us ts (Some x) i known e =
    let tokens : token_of p kind ∷ x.0 ≡ ts = split_first e in
    let rest : x.1 ≡ us = split_second e in
    ap (λ l. p ∷ l) (known x.1 x.0 refl) ∙ ap (λ q. q ∷ (codes_of x.0 ++ x.1)) (sym (code_is p kind i)) ∙ ap (λ l. codes_of l ++ x.1) tokens ∙ ap (λ l. codes_of ts ++ l) rest

Known : List Piece → Type 0
Known ps = (count : ℕ) (vs : List Piece) (ys : List Token) → in_brackets ps count ≡ Some (ys, vs) → ps ≡ codes_of ys ++ vs

by_count : (p : Piece) (kind : TokenKind) (ps us : List Piece) (ts : List Token) (o : Option ℕ) → p.kind ≡ k.Code kind → Known ps
    → ◌≡◌ {A = Split} (elim o [ None ↦ Some ([], p ∷ ps) | Some n ↦ with_token (token_of p kind) (in_brackets ps n) ]) (Some (ts, us)) → p ∷ ps ≡ codes_of ts ++ us
unfolding Known
by_count p kind ps us ts None i known e = split_second e ∙ ap (λ l. codes_of l ++ us) (split_first e)
by_count p kind ps us ts (Some n) i known e = with_whole p kind ps us ts (in_brackets ps n) i (known n) e

by_kind : (p : Piece) (ps us : List Piece) (ts : List Token) (count : ℕ) (of : PieceKind) → p.kind ≡ of → Known ps
    → ◌≡◌ {A = Split} (elim (code_of of) [ None ↦ None | Some kind ↦ elim (count_behind kind count) [ None ↦ Some ([], p ∷ ps) | Some n ↦ with_token (token_of p kind) (in_brackets ps n) ] ]) (Some (ts, us))
    → p ∷ ps ≡ codes_of ts ++ us
by_kind p ps us ts count (k.Code kind) i known e = by_count p kind ps us ts (count_behind kind count) i known e
by_kind p ps us ts count _ i known e = absurd (cc)

in_brackets_whole : (ps : List Piece) → Known ps
unfolding Known
in_brackets_whole [] count us ts e = absurd (cc)
in_brackets_whole (p ∷ ps) count us ts e = by_kind p ps us ts count p.kind refl (in_brackets_whole ps) e

pub in_brackets_is : (ps us : List Piece) (ts : List Token) (count : ℕ) → in_brackets ps count ≡ Some (ts, us) → ps ≡ codes_of ts ++ us
unfolding Known
in_brackets_is ps us ts count e = in_brackets_whole ps count us ts e

pub round_complete : (ps rest : List Piece) (ts : List Token) → Round ps ts rest → round ps ≡ Some (ts, rest)
round_complete _ _ _ (b.round o c ps rest ts i e j) =
    bind_is (after m.OpenRound (o ∷ ps)) ps (λ us. (in_brackets us 0 >>= λ x. (after m.CloseRound x.1 >>= λ rest. Some (x.0, rest)))) (after_is m.OpenRound (k.Code (t.Sign s.OpenRound)) o ps open_round_is i)
    ∙ bind_is (in_brackets ps 0) (ts, c ∷ rest) (λ x. (after m.CloseRound x.1 >>= λ rest. Some (x.0, rest))) e
    ∙ bind_is (after m.CloseRound (c ∷ rest)) rest (λ rest. Some (ts, rest)) (after_is m.CloseRound (k.Code (t.Sign s.CloseRound)) c rest close_round_is j)

-- tokens in round brackets nest nowhere too deeply
pub flat_round : (ps rest : List Piece) (ts : List Token) → FlatPieces ps → Round ps ts rest → Flat ts
flat_round _ _ _ f (b.round o c ps rest ts i e j) = flat_front ts (c ∷ rest) (subst FlatPieces (in_brackets_is ps (c ∷ rest) ts 0 e) (flat_rest o ps f))

pub flat_all : (ts : List Token) → Flat ts → too_deep ts ≡ None
flat_all ts f = f.flat [] ts [] (sym (nothing_behind ts))
  where
    nothing_behind : (xs : List Token) → xs ++ [] ≡ xs
    nothing_behind [] = refl
    nothing_behind (x ∷ xs) = ap (λ l. x ∷ l) (nothing_behind xs)

-- an expression in round brackets
pub condition_complete : (ps rest : List Piece) (ts : List Token) (a : Expr) → FlatPieces ps → Round ps ts rest → SpelledExpression ts a → condition_first ps ≡ Some (a, rest)
condition_complete ps rest ts a f h e =
    bind_is (round ps) (ts, rest) (λ x. (plain x.0 >>= λ a. Some (a, x.1))) (round_complete ps rest ts h)
    ∙ bind_is (plain ts) a (λ a. Some (a, rest)) (plain_complete ts a (flat_all ts (flat_round ps rest ts f h)) e)

-- the head of a `foreach`

var_is : is_token m.Var (t.Word w.Var) ≡ true
unfolding word_mark mark_number
var_is = refl

in_is : is_token m.In (t.Word w.In) ≡ true
unfolding word_mark mark_number
in_is = refl

abbrev each_step : Token → List Token → Bool → Bool → Option (Ident × Expr)
each_step n ts v i = if not v || not i then None else (name_of n >>= λ name. (plain ts >>= λ a. Some (name, a)))

pub for_each_complete : (ts : List Token) (n : Token) (x : List ℕ) (a : Expr) → Flat ts → ForEachHead ts n x a → for_each_head ts ≡ Some (ident n x, a)
for_each_complete _ _ _ _ f (g.head x p v n i ts a e1 e2 e3 h) =
    ap (λ (b : Bool). each_step n ts b (is_token m.In i.kind)) (ap (is_token m.Var) e1 ∙ var_is)
    ∙ ap (λ (b : Bool). each_step n ts true b) (ap (is_token m.In) e3 ∙ in_is)
    ∙ bind_is (name_of n) (ident n x) (λ name. (plain ts >>= λ a. Some (name, a))) (ap (λ kind. name_by kind n) e2)
    ∙ bind_is (plain ts) a (λ a. Some (ident n x, a)) (plain_complete ts a (f.flat (v ∷ n ∷ i ∷ []) ts [] (ap (λ l. v ∷ n ∷ i ∷ l) (sym (nothing_behind ts)))) (p, h))
  where
    nothing_behind : (xs : List Token) → xs ++ [] ≡ xs
    nothing_behind [] = refl
    nothing_behind (x ∷ xs) = ap (λ l. x ∷ l) (nothing_behind xs)
