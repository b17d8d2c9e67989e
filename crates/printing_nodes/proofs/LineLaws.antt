-- Printed tokens up to their last one, and in brackets.
use Rattle.std.proofs.Common.{◌≡◌, Bool, List, [], ◌∷◌, ◌++◌, refl, sym, ap, ◌∙◌, subst, append_assoc}
use Rattle.std.proofs.lemmas.List.{map-append}
use Rattle.cs_token.specs.declared.token.Token.{Token}
use Rattle.cs_token.specs.declared.token.TokenKind.TheVariants as k
use Rattle.cs_token.specs.declared.token.Sign.TheVariants as s
use Rattle.cs_grammar.specs.Tokens.{IsSign}
use Rattle.cs_print.specs.Printed.{Kinds, ended, in_round}
use Rattle.cs_print.proofs.LayLemmas.{Are}
use Rattle.cs_print.proofs.LayLemmas as l
use Rattle.cs_print.proofs.ReadLemmas as rd
use Rattle.razor_token.specs.declared.piece.Piece.{Piece}
use Rattle.razor_ast.specs.Brackets.{Round}
use Rattle.razor_ast.specs.Pieces.{code, codes_of}
use Rattle.razor_print.specs.Parts.{Parts, tokens}
use Rattle.razor_print.specs.Parts as parts
use Rattle.printed_pieces.specs.Meant.{Mean}
use Rattle.printed_pieces.specs.Meant as m
use Rattle.printed_pieces.proofs.Nests.{Nests}
use Rattle.printing_again.proofs.MeantLaws.{first-token, first-tokens}
use Rattle.printing_nodes.proofs.BracketLaws.{rounded}

pub codes-join : (ts us : List Token) → codes_of (ts ++ us) ≡ codes_of ts ++ codes_of us
codes-join ts us = map-append code ts us

pub tokens-join : (ks ms : Kinds) → tokens (ks ++ ms) ≡ tokens ks ++ tokens ms
tokens-join ks ms = map-append parts.token ks ms

-- a comment counts for nothing
pub without-comment : (b : Bool) (x later : Parts) (us : List Piece) → Mean (parts.apart ∷ later) us → Mean later us
without-comment b x _ _ (m.apart later us mean) = mean

-- the tokens before a rest
pub record Front (ks : Kinds) (ts rest : List Token) : Type 0 where
  pub front : List Token
  pub split : front ++ rest ≡ ts

pub front-of : (ks : Kinds) (ts rest : List Token) → Are ks ts rest → Front ks ts rest
front-of _ _ _ (l.nil rest) = record { front = []; split = refl }
front-of _ _ _ (l.cons kind t ks ts rest is more) = let x = front-of ks ts rest more in record { front = t ∷ x.front; split = ap (λ z. t ∷ z) x.split }

-- tokens with a semicolon behind them, and what is behind it
pub record Ends (ks : Kinds) (later : Parts) (us : List Piece) : Type 0 where
  pub ts : List Token
  pub c : Token
  pub rest : List Piece
  pub are : Are ks (ts ++ c ∷ []) (c ∷ [])
  pub is : IsSign s.Semicolon c
  pub split : codes_of (ts ++ c ∷ []) ++ rest ≡ us
  pub mean : Mean later rest

pub ends : (ks : Kinds) (later : Parts) (us : List Piece) → Mean (tokens (ended ks) ++ later) us → Ends ks later us
ends ks later us mean =
    let x = first-tokens (ended ks) later us mean in
    let e = rd.ended ks (k.Sign s.Semicolon) x.ts [] x.are in
    let f = front-of ks x.ts (e.t ∷ []) e.front in
    record {
      ts = f.front;
      c = e.t;
      rest = x.rest;
      are = subst (λ z. Are ks z (e.t ∷ [])) (sym f.split) e.front;
      is = e.is;
      split = ap (λ z. codes_of z ++ x.rest) f.split ∙ x.split;
      mean = x.mean;
    }

-- tokens in round brackets, and what is behind them
pub record Rounded (ks : Kinds) (later : Parts) (us : List Piece) : Type 0 where
  pub ts : List Token
  pub rest : List Piece
  pub are : Are ks ts []
  pub is : (b : Bool) → Nests b ts [] → Round us ts rest
  pub mean : Mean later rest

pub in-round : (ks : Kinds) (later : Parts) (us : List Piece) → Mean (tokens (in_round ks) ++ later) us → Rounded ks later us
in-round ks later us mean =
    let o = first-token (k.Sign s.OpenRound) (tokens (ks ++ k.Sign s.CloseRound ∷ []) ++ later) us mean in
    let inner = first-tokens ks (parts.token (k.Sign s.CloseRound) ∷ later) o.rest
    (subst (λ z. Mean z o.rest) (ap (λ z. z ++ later) (tokens-join ks (k.Sign s.CloseRound ∷ [])) ∙ append_assoc (tokens ks) (tokens (k.Sign s.CloseRound ∷ [])) later) o.mean) in
    let c = first-token (k.Sign s.CloseRound) later inner.rest inner.mean in
    record {
      ts = inner.ts;
      rest = c.rest;
      are = inner.are;
      is = λ b h. subst (λ z. Round z inner.ts c.rest) (ap (λ z. o.p ∷ (codes_of inner.ts ++ z)) c.split ∙ ap (λ z. o.p ∷ z) inner.split ∙ o.split) (rounded b o.p c.p inner.ts c.rest o.is h c.is);
      mean = c.mean;
    }

-- the first piece
pub record Begun (us : List Piece) : Type 0 where
  pub p : Piece
  pub others : List Piece
  pub split : p ∷ others ≡ us

pub begun : (ts : List Token) (c : Token) (rest us : List Piece) → codes_of (ts ++ c ∷ []) ++ rest ≡ us → Begun us
begun [] c rest us e = record { p = code c; others = rest; split = e }
begun (t ∷ ts) c rest us e = record { p = code t; others = codes_of (ts ++ c ∷ []) ++ rest; split = e }
