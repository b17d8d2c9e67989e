-- What is open at a piece, by the pieces that count; and how many bytes the text that is read has.
use Rattle.std.proofs.Common.{◌≡◌, ℕ, ◌+◌, ◌<◌, ◌≤◌, List, [], ◌∷◌, ◌++◌, length, refl, sym, ap, ◌∙◌, subst, arith}
use Rattle.std.proofs.lemmas.Bool.{ltb-true, ltb-false, le-ltb, lt-ltb}
use Rattle.std.proofs.lemmas.List.{length-append}
use Rattle.std.proofs.lemmas.Str.{encodes-append}
use Rattle.std.specs.Prelude.{Bool, true, false, ◌&&◌, ◌==◌, nat_lt, encode_utf8_all, if◌then◌else◌}
use mathlib.Core.Path.{fun_ext}
use Rattle.razor_token.specs.Answers.{Cover}
use Rattle.razor_token.specs.Answers as cover
use Rattle.razor_token.specs.declared.piece.Piece.{Piece}
use Rattle.razor_token.specs.declared.piece.PieceKind.{PieceKind}
use Rattle.razor_token.specs.declared.piece.PieceKind.TheVariants as k
use Rattle.razor_ast.specs.FileTexts.{without_mark, with_feeds, text_read}
use Rattle.razor_ast.specs.Nesting.{behind, open_before, open_at}
use Rattle.razor_ast.specs.Pieces.{is_counted, counted}

-- pieces that don't count open nothing
uncounted : (kind : PieceKind) (open_ones : List ℕ) → is_counted kind ≡ false → behind kind open_ones ≡ open_ones
uncounted k.Comment open_ones e = refl
uncounted k.Gap open_ones e = refl
uncounted _ open_ones e = absurd (cc)

later : (start at : ℕ) → start ≤ at → nat_lt at start ≡ false
later start at h = le-ltb _ _ h

-- behind this character nothing more is open before it
none_before : (start : ℕ) (open_ones : List ℕ) (at : ℕ) (text : List ℕ) (ps : List Piece) → start ≤ at → Cover at text ps → open_before start open_ones (counted ps) ≡ open_ones
none_before start open_ones at text ps h (cover.no_piece _) = refl
none_before start open_ones at text ps h (cover.one_piece _ here rest p us e f c) =
    go (is_counted p.kind) (none_before start open_ones p.end rest us (omega (arith, e, f)) c)
  where
    go : (b : Bool) → open_before start open_ones (counted us) ≡ open_ones → open_before start open_ones (if b then p ∷ counted us else counted us) ≡ open_ones
    go true more = ap (λ d. if d then open_before start (behind p.kind open_ones) (counted us) else open_ones) (later start p.start (omega (arith, e)))
    go false more = more

same_before : (start : ℕ) (open_ones : List ℕ) (at : ℕ) (text : List ℕ) (ps : List Piece) → Cover at text ps → open_before start open_ones ps ≡ open_before start open_ones (counted ps)
same_before start open_ones at text ps (cover.no_piece _) = refl
same_before start open_ones at text ps (cover.one_piece _ here rest p us e f c) =
    go (is_counted p.kind) refl (nat_lt p.start start) refl
    (same_before start (behind p.kind open_ones) p.end rest us c)
    (λ h. none_before start open_ones p.end rest us h c)
  where
    go : (b : Bool) → is_counted p.kind ≡ b → (d : Bool) → nat_lt p.start start ≡ d →
        open_before start (behind p.kind open_ones) us ≡ open_before start (behind p.kind open_ones) (counted us) →
        (start ≤ p.end → open_before start open_ones (counted us) ≡ open_ones) →
        (if d then open_before start (behind p.kind open_ones) us else open_ones) ≡ open_before start open_ones (if b then p ∷ counted us else counted us)
    go true i true j more none = more ∙ sym (ap (λ d. if d then open_before start (behind p.kind open_ones) (counted us) else open_ones) j)
    go true i false j more none = sym (ap (λ d. if d then open_before start (behind p.kind open_ones) (counted us) else open_ones) j)
    go false i true j more none = more ∙ ap (λ l. open_before start l (counted us)) (uncounted p.kind open_ones i)
    go false i false j more none = let h : start ≤ p.start = ltb-false _ _ j in sym (none (omega (arith, f, e)))

-- what is open at a piece is so by the pieces that count
pub same_around : (text : List ℕ) (ps : List Piece) → Cover 0 text ps → open_at ps ≡ open_at (counted ps)
unfolding open_at
same_around text ps c = fun_ext (λ p. same_before p.start [] 0 text ps c)

-- bytes
cons_bytes : (c : ℕ) (text : List ℕ) → length (encode_utf8_all (c ∷ text)) ≡ length (encode_utf8_all (c ∷ [])) + length (encode_utf8_all text)
cons_bytes c text = ap length (encodes-append (c ∷ []) text) ∙ length-append (encode_utf8_all (c ∷ [])) (encode_utf8_all text)

feeds_bytes : (text : List ℕ) → length (encode_utf8_all (with_feeds text)) ≤ length (encode_utf8_all text)
feeds_bytes [] = omega arith
feeds_bytes (c ∷ []) = omega arith
feeds_bytes (c ∷ d ∷ text) = go ((c == 13) && (d == 10)) (feeds_bytes (d ∷ text))
  where
    go : (b : Bool) → length (encode_utf8_all (with_feeds (d ∷ text))) ≤ length (encode_utf8_all (d ∷ text)) →
        length (encode_utf8_all (if b then with_feeds (d ∷ text) else c ∷ with_feeds (d ∷ text))) ≤ length (encode_utf8_all (c ∷ d ∷ text))
    go true h = let x = cons_bytes c (d ∷ text) in omega (arith, x, h)
    go false h = let x = cons_bytes c (d ∷ text) in let y = cons_bytes c (with_feeds (d ∷ text)) in omega (arith, x, y, h)

mark_bytes : (text : List ℕ) → length (encode_utf8_all (without_mark text)) ≤ length (encode_utf8_all text)
mark_bytes [] = omega arith
mark_bytes (c ∷ text) = go (c == 65279)
  where
    go : (b : Bool) → length (encode_utf8_all (if b then text else c ∷ text)) ≤ length (encode_utf8_all (c ∷ text))
    go true = let x = cons_bytes c text in omega (arith, x)
    go false = omega arith

-- the text that is read has no more bytes than the text that is given
pub read_bytes : (text : List ℕ) → length (encode_utf8_all (text_read text)) ≤ length (encode_utf8_all text)
unfolding text_read
read_bytes text = let x = feeds_bytes (without_mark text) in let y = mark_bytes text in omega (arith, x, y)
