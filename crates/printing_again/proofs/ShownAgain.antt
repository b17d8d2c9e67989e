-- Expressions behind an at sign are spelled again.
use Rattle.std.proofs.Common.{◌≡◌, ℕ, List, [], ◌∷◌, ◌++◌, refl, ap, ◌∙◌, subst, append_assoc}
use Rattle.cs_ast.specs.declared.expression.Expr.{Expr}
use Rattle.cs_token.specs.declared.token.Sign.TheVariants as s
use Rattle.cs_token.specs.declared.token.Token.{Token}
use Rattle.cs_token.specs.declared.token.TokenKind.TheVariants as t
use Rattle.cs_grammar.specs.Lambdas.{Spelled, SpelledValue}
use Rattle.cs_print.specs.Printed.{Kinds, whole, printed}
use Rattle.cs_print.proofs.LayLemmas.{Are}
use Rattle.cs_print.proofs.LambdasAgain.{value_whole, spelled_whole}
use Rattle.razor_token.specs.declared.piece.Piece.{Piece}
use Rattle.razor_token.specs.declared.piece.PieceKind.TheVariants as k
use Rattle.razor_ast.specs.Attributes.{Led, EventValue}
use Rattle.razor_ast.specs.Attributes as ga
use Rattle.razor_ast.specs.Brackets.{token_of}
use Rattle.razor_ast.specs.Pieces.{IsKind, codes_of}
use Rattle.razor_ast.specs.Shown.{Shown}
use Rattle.razor_ast.specs.Shown as gs
use Rattle.razor_print.specs.Parts.{Parts, tokens, led, shown, expression_end}
use Rattle.razor_print.specs.Parts as parts
use Rattle.printed_pieces.specs.Meant.{Mean}
use Rattle.printed_pieces.specs.Written.{IsWritten}
use Rattle.printed_pieces.proofs.WrittenCode.{proper}
use Rattle.printing_again.specs.Again.{SpellsAgain}
use Rattle.printing_again.proofs.MeantLaws.{first-piece, first-tokens, piece-is}

codes-join : (ts us : List Token) → codes_of (ts ++ us) ≡ codes_of ts ++ codes_of us
codes-join [] us = refl
codes-join (t ∷ ts) us = ap (λ z. codes_of (t ∷ []) ++ z) (codes-join ts us)

-- an at sign, and the tokens of code in its brackets
record Bracketed (ks : Kinds) (later : Parts) (ps : List Piece) : Type 0 where
  at : Piece
  o : Token
  c : Token
  ts : List Token
  rest : List Piece
  is_at : IsKind k.At at
  opens : o.kind ≡ t.Sign s.OpenRound
  closes : c.kind ≡ t.Sign s.CloseRound
  are : Are ks ts []
  split : at ∷ (codes_of (o ∷ (ts ++ c ∷ [])) ++ rest) ≡ ps
  mean : Mean later rest

bracketed : (ks : Kinds) (later : Parts) (ps : List Piece) → Mean (led ks ++ later) ps → Bracketed ks later ps
bracketed ks later ps mean =
    let at = first-piece k.At (64 ∷ []) _ ps mean in
    let o = first-piece (k.Code (t.Sign s.OpenRound)) (40 ∷ []) _ at.rest at.mean in
    let inner = first-tokens ks (parts.piece (k.Code (t.Sign s.CloseRound)) (41 ∷ []) ∷ later) o.rest
    (subst (λ y. Mean y o.rest) (append_assoc (tokens ks) (parts.piece (k.Code (t.Sign s.CloseRound)) (41 ∷ []) ∷ []) later) o.mean) in
    let c = first-piece (k.Code (t.Sign s.CloseRound)) (41 ∷ []) later inner.rest inner.mean in
    let open_token = token_of o.p (t.Sign s.OpenRound) in
    let close_token = token_of c.p (t.Sign s.CloseRound) in
    let closing : codes_of (inner.ts ++ close_token ∷ []) ++ c.rest ≡ o.rest =
    ap (λ y. y ++ c.rest) (codes-join inner.ts (close_token ∷ []))
    ∙ append_assoc (codes_of inner.ts) (codes_of (close_token ∷ [])) c.rest
    ∙ ap (λ y. codes_of inner.ts ++ y ∷ c.rest) (piece-is c.p (t.Sign s.CloseRound) c.is)
    ∙ ap (λ y. codes_of inner.ts ++ y) c.split ∙ inner.split in
    let opening : codes_of (open_token ∷ (inner.ts ++ close_token ∷ [])) ++ c.rest ≡ at.rest =
    ap (λ y. y ∷ (codes_of (inner.ts ++ close_token ∷ []) ++ c.rest)) (piece-is o.p (t.Sign s.OpenRound) o.is) ∙ ap (λ y. o.p ∷ y) closing ∙ o.split in
    record {
      at = at.p;
      o = open_token;
      c = close_token;
      ts = inner.ts;
      rest = c.rest;
      is_at = at.is;
      opens = refl;
      closes = refl;
      are = inner.are;
      split = ap (λ y. at.p ∷ y) opening ∙ at.split;
      mean = c.mean;
    }

-- a content expression
pub shown_again : (a : Expr) (later : Parts) (ps : List Piece) → IsWritten SpelledValue a → Mean (shown (whole (printed a)) ++ later) ps → SpellsAgain Shown a later ps
shown_again a later ps h mean =
    let ks = whole (printed a) in
    let x = bracketed ks (expression_end ∷ later) ps (subst (λ y. Mean y ps) (append_assoc (led ks) (expression_end ∷ []) later) mean) in
    let end = first-piece k.ExpressionEnd [] later x.rest x.mean in
    let found = value_whole h.tokens a h.tree (proper h.tokens h.proper) in
    let z = found.reads x.ts x.are in
    let ts = x.o ∷ (x.ts ++ x.c ∷ []) in
    record {
      rest = end.rest;
      other = z.other;
      spelled = subst (λ y. Shown y end.rest z.other) (ap (λ y. x.at ∷ (codes_of ts ++ y)) end.split ∙ x.split)
          (gs.shown x.at end.p ts end.rest z.other x.is_at (gs.in_round x.o x.c x.ts z.other x.opens z.tree x.closes) end.is);
      alike = z.alike;
      mean = end.mean;
    }

-- a quoted value that is one expression
pub led_again : (a : Expr) (x : List ℕ) (later : Parts) (ps : List Piece) → IsWritten Spelled a → Mean (led (whole (printed a)) ++ parts.piece k.ValueEnd x ∷ later) ps → SpellsAgain Led a later ps
led_again a text later ps h mean =
    let x = bracketed (whole (printed a)) (parts.piece k.ValueEnd text ∷ later) ps mean in
    let end = first-piece k.ValueEnd text later x.rest x.mean in
    let found = spelled_whole h.tokens a h.tree (proper h.tokens h.proper) in
    let z = found.reads x.ts x.are in
    let ts = x.o ∷ (x.ts ++ x.c ∷ []) in
    record {
      rest = end.rest;
      other = z.other;
      spelled = subst (λ y. Led y end.rest z.other) (ap (λ y. x.at ∷ (codes_of ts ++ y)) end.split ∙ x.split)
          (ga.quoted x.at end.p ts end.rest z.other x.is_at (ga.in_round x.o x.c x.ts z.other x.opens z.tree x.closes) end.is);
      alike = z.alike;
      mean = end.mean;
    }

pub event_again : (a : Expr) (x : List ℕ) (later : Parts) (ps : List Piece) → IsWritten Spelled a → Mean (led (whole (printed a)) ++ parts.piece k.ValueEnd x ∷ later) ps → SpellsAgain EventValue a later ps
event_again a text later ps h mean =
    let found = led_again a text later ps h mean in
    record { rest = found.rest; other = found.other; spelled = ga.led ps found.rest found.other found.spelled; alike = found.alike; mean = found.mean }
