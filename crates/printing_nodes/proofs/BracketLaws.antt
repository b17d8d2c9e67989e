-- Tokens whose brackets are whole are those between two brackets.
use Rattle.std.proofs.Common.{◌≡◌, ℕ, suc, ◌+◌, Bool, true, false, List, [], ◌∷◌, ◌++◌, Some, None, refl, sym, ap, ◌∙◌, arith}
use Rattle.std.specs.declared.option.Option.{Option}
use Rattle.cs_token.specs.declared.token.Token.{Token}
use Rattle.cs_token.specs.declared.token.TokenKind.{TokenKind}
use Rattle.cs_token.specs.declared.token.TokenKind.TheVariants as t
use Rattle.cs_token.specs.declared.token.Sign.{Sign}
use Rattle.cs_token.specs.declared.token.Sign.TheVariants as s
use Rattle.cs_grammar.specs.Nesting.{opens, closes}
use Rattle.cs_grammar.specs.Tokens.{IsSign}
use Rattle.razor_token.specs.declared.piece.Piece.{Piece}
use Rattle.razor_ast.specs.Brackets.{Round, round, before, count_behind, count_behind_sign, with_token, in_brackets}
use Rattle.razor_ast.specs.Pieces.{codes_of}
use Rattle.razor_ast.specs.Pieces as pieces
use Rattle.printed_pieces.proofs.Nests.{Nests, NestsTexts, IsParting, is_flat}
use Rattle.printed_pieces.proofs.Nests as n

-- Counts i ts j rest: where i brackets are open, the tokens ts up to the rest close none but of their own, and j are open behind them.
pub data Counts : ℕ → List Token → ℕ → List Token → Type 0 where
  stop : (i : ℕ) (rest : List Token) → Counts i rest i rest
  go : (i j m : ℕ) (x : Token) (ts rest : List Token) → count_behind x.kind i ≡ Some j → Counts j ts m rest → Counts i (x ∷ ts) m rest

counts-join : (i j m : ℕ) (ts us rest : List Token) → Counts i ts j us → Counts j us m rest → Counts i ts m rest
counts-join _ _ m _ _ rest (stop i us) more = more
counts-join _ j m _ us rest (go i a _ x ts _ is later) more = go i a m x ts rest is (counts-join a j m ts us rest later more)

-- a token that is no bracket
flat-sign : (sign : Sign) → is_flat (t.Sign sign) ≡ true → (i : ℕ) → count_behind_sign sign i ≡ Some i
unfolding opens closes
flat-sign s.OpenRound e i = absurd (cc)
flat-sign s.CloseRound e i = absurd (cc)
flat-sign s.OpenSquare e i = absurd (cc)
flat-sign s.CloseSquare e i = absurd (cc)
flat-sign s.OpenBrace e i = absurd (cc)
flat-sign s.CloseBrace e i = absurd (cc)
flat-sign s.HoleOpen e i = absurd (cc)
flat-sign s.HoleClose e i = absurd (cc)
flat-sign _ e i = refl

flat-kind : (kind : TokenKind) → is_flat kind ≡ true → (i : ℕ) → count_behind kind i ≡ Some i
flat-kind (t.Sign sign) e i = flat-sign sign e i
flat-kind _ e i = refl

by-sign : (sign : Sign) (x : Token) (i j : ℕ) → IsSign sign x → count_behind_sign sign i ≡ Some j → count_behind x.kind i ≡ Some j
by-sign sign x i j is e = ap (λ z. count_behind z i) is ∙ e

opens-one : (sign : Sign) → opens sign ≡ true → (i : ℕ) → count_behind_sign sign i ≡ Some (i + 1)
opens-one sign e i = rw e refl

before-one : (i : ℕ) → before (i + 1) ≡ Some i
before-one i = let e : i + 1 ≡ suc i = omega arith in ap before e

closes-one : (sign : Sign) → opens sign ≡ false → closes sign ≡ true → (i : ℕ) → count_behind_sign sign (i + 1) ≡ Some i
closes-one sign shut e i = rw (shut, e) (before-one i)

parting-plain : (sign : Sign) → IsParting sign → (i : ℕ) → count_behind_sign sign i ≡ Some i
unfolding opens closes
parting-plain _ n.by_colon i = refl
parting-plain _ n.by_semicolon i = refl

-- an opening sign, what is between, and a closing one
bracketed : (open_sign close_sign : Sign) → opens open_sign ≡ true → opens close_sign ≡ false → closes close_sign ≡ true → (i : ℕ) (o c : Token) (ts us rest : List Token) → IsSign open_sign o → Counts (i + 1) ts (i + 1) (c ∷ us)
    → IsSign close_sign c → Counts i us i rest → Counts i (o ∷ ts) i rest
bracketed open_sign close_sign one two three i o c ts us rest is inner ends outer =
    go i (i + 1) i o ts rest (by-sign open_sign o i (i + 1) is (opens-one open_sign one i))
    (counts-join (i + 1) (i + 1) i ts (c ∷ us) rest inner (go (i + 1) i i c us rest (by-sign close_sign c (i + 1) i ends (closes-one close_sign two three i)) outer))

mutual
  unfolding opens closes

  pub nests-count : (b : Bool) (ts rest : List Token) → Nests b ts rest → (i : ℕ) → Counts i ts i rest
  nests-count _ _ _ (n.Nests.none b rest) i = stop i rest
  nests-count _ _ _ (n.flat b x ts rest is more) i = go i i i x ts rest (flat-kind x.kind is i) (nests-count b ts rest more i)
  nests-count _ _ _ (n.colon b x u ts rest is free more) i = go i i i x (u ∷ ts) rest (by-sign s.Colon x i i is refl) (nests-count b (u ∷ ts) rest more i)
  nests-count _ _ _ (n.parted x sign ts rest is parting more) i = go i i i x ts rest (by-sign sign x i i is (parting-plain sign parting i)) (nests-count false ts rest more i)
  nests-count _ _ _ (n.Nests.round b a o c ts us rest is inner ends outer) i = bracketed s.OpenRound s.CloseRound refl refl refl i o c ts us rest is (nests-count a ts (c ∷ us) inner (i + 1)) ends (nests-count b us rest outer i)
  nests-count _ _ _ (n.square b a o c ts us rest is inner ends outer) i = bracketed s.OpenSquare s.CloseSquare refl refl refl i o c ts us rest is (nests-count a ts (c ∷ us) inner (i + 1)) ends (nests-count b us rest outer i)
  nests-count _ _ _ (n.with_parts b a name o c ts us rest named is inner ends outer) i =
      go i i i name (o ∷ ts) rest (ap (λ z. count_behind z i) named)
      (bracketed s.OpenBrace s.CloseBrace refl refl refl i o c ts us rest is (nests-count a ts (c ∷ us) inner (i + 1)) ends (nests-count b us rest outer i))
  nests-count _ _ _ (n.braces a o c ts us rest is inner ends outer) i = bracketed s.OpenBrace s.CloseBrace refl refl refl i o c ts us rest is (nests-count a ts (c ∷ us) inner (i + 1)) ends (nests-count false us rest outer i)
  nests-count _ _ _ (n.interpolated b o c ts us rest is inner ends outer) i =
      go i i i o ts rest (by-sign s.InterpolationStart o i i is refl)
      (counts-join i i i ts (c ∷ us) rest (texts-count ts (c ∷ us) inner i) (go i i i c us rest (by-sign s.InterpolationEnd c i i ends refl) (nests-count b us rest outer i)))

  texts-count : (ts rest : List Token) → NestsTexts ts rest → (i : ℕ) → Counts i ts i rest
  texts-count _ _ (n.no_text rest) i = stop i rest
  texts-count _ _ (n.literal x p ts rest is more) i = go i i i p ts rest (ap (λ z. count_behind z i) is) (texts-count ts rest more i)
  texts-count _ _ (n.hole b o c ts us rest is inner ends outer) i = bracketed s.HoleOpen s.HoleClose refl refl refl i o c ts us rest is (nests-count b ts (c ∷ us) inner (i + 1)) ends (texts-count us rest outer i)

-- up to a bracket that closes one more
across : (i j : ℕ) (ts end : List Token) (ps : List Piece) → end ≡ [] → Counts i ts j end → in_brackets ps j ≡ Some ([], ps) → in_brackets (codes_of ts ++ ps) i ≡ Some (ts, ps)
across _ _ _ _ ps e (stop i end) closes_it = ap (λ z. in_brackets (codes_of z ++ ps) i) e ∙ closes_it ∙ ap (λ z. Some (z, ps)) (sym e)
across _ j _ end ps e (go i a _ x ts _ is later) closes_it =
    let more = across a j ts end ps e later closes_it in
    ap (λ (z : Option ℕ). elim z [ None ↦ Some ([], codes_of (x ∷ ts) ++ ps) | Some n ↦ with_token x (in_brackets (codes_of ts ++ ps) n) ]) is ∙ ap (λ z. with_token x z) more

close-stops : (c : Piece) (rest : List Piece) → pieces.IsSign s.CloseRound c → in_brackets (c ∷ rest) 0 ≡ Some ([], c ∷ rest)
unfolding opens closes
close-stops c rest is = rw is refl

-- tokens with whole brackets in round brackets
pub rounded : (b : Bool) (o c : Piece) (ts : List Token) (rest : List Piece) → pieces.IsSign s.OpenRound o → Nests b ts [] → pieces.IsSign s.CloseRound c → Round (o ∷ (codes_of ts ++ c ∷ rest)) ts rest
rounded b o c ts rest begins h ends =
    round o c (codes_of ts ++ c ∷ rest) rest ts begins (across 0 0 ts [] (c ∷ rest) refl (nests-count b ts [] h 0) (close-stops c rest ends)) ends
