-- Tokens of code that stand in a text: they are proper.
use Rattle.std.proofs.Common.{◌≡◌, true, false, List, [], ◌∷◌, ◌++◌, refl, subst}
use Rattle.cs_token.specs.declared.token.Token.{Token}
use Rattle.cs_token.specs.declared.token.TokenKind.{TokenKind}
use Rattle.cs_token.specs.declared.token.TokenKind.TheVariants as t
use Rattle.razor_token.specs.declared.piece.Piece.{Piece}
use Rattle.razor_token.specs.declared.piece.PieceKind.{PieceKind}
use Rattle.razor_token.specs.declared.piece.PieceKind.TheVariants as k
use Rattle.razor_ast.specs.Pieces.{IsKind, codes_of}
use Rattle.razor_ast.specs.Brackets.{Round, round}
use Rattle.razor_reader.proofs.HeadComplete.{in_brackets_is}
use Rattle.printed_pieces.specs.Sound.{IsSound}
use Rattle.printed_pieces.specs.Written.{IsLexeme, is_part, begins_part, AreProper, no_token, one_token}
use Rattle.printable_texts.specs.Stands.{Where, Fits, Leads, Stands, one_more, behind, begins_text_part, is_no_lead}

part_leads_none : (kind : TokenKind) → is_part kind ≡ true → is_no_lead (k.Code kind) ≡ true
part_leads_none (t.Part x) e = refl
part_leads_none _ e = absurd (cc)

pub begins_codes : (ts : List Token) (us : List Piece) → begins_text_part (codes_of ts ++ us) ≡ false → begins_part ts ≡ false
begins_codes [] us e = refl
begins_codes (u ∷ ts) us e = e

pub codes_stand : (place : Where) (ts : List Token) (us : List Piece) → Stands place (codes_of ts ++ us) → AreProper ts × Stands place us
codes_stand place [] us h = (no_token, h)
codes_stand place (u ∷ ts) us (one_more _ _ _ sound _ _ apart h) =
    let more = codes_stand place ts us h in
    (one_token u ts sound (λ e. begins_codes ts us (apart (part_leads_none u.kind e))) more.0, more.1)

-- a piece of this kind, and those behind it
pub step : (place : Where) (kind : PieceKind) (p : Piece) (ps : List Piece) → IsKind kind p → Stands place (p ∷ ps) → IsSound kind × Fits place kind × Stands (behind kind place) ps
step place kind p ps is (one_more _ _ _ sound fits _ _ h) = (subst IsSound is sound, subst (λ z. Fits place z) is fits, subst (λ z. Stands (behind z place) ps) is h)

-- what may stand behind it
pub led : (place : Where) (kind : PieceKind) (p : Piece) (ps : List Piece) → IsKind kind p → Stands place (p ∷ ps) → Leads kind place ps
led place kind p ps is (one_more _ _ _ _ _ leads _ _) = subst (λ z. Leads z place ps) is leads

-- a token that a piece is
pub piece_lexeme : (place : Where) (kind : TokenKind) (p : Piece) (ps : List Piece) → IsKind (k.Code kind) p → Stands place (p ∷ ps) → IsLexeme kind × Stands place ps
piece_lexeme place kind p ps is h = let one = step place (k.Code kind) p ps is h in (one.0, one.2)

pub round_stands : (place : Where) (ps us : List Piece) (ts : List Token) → Round ps ts us → Stands place ps → AreProper ts × Stands place us
round_stands place _ us ts (round o c ps _ _ opens inner closes) h =
    let first = piece_lexeme place _ o ps opens h in
    let codes = codes_stand place ts (c ∷ us) (subst (λ z. Stands place z) (in_brackets_is ps (c ∷ us) ts 0 inner) first.1) in
    (codes.0, (piece_lexeme place _ c us closes codes.1).1)

-- proper tokens in parts
pub proper_front : (ts us : List Token) → AreProper (ts ++ us) → AreProper ts
proper_front [] us h = no_token
proper_front (u ∷ ts) us (one_token _ _ is apart h) = one_token u ts is (λ e. no_front ts us (apart e)) (proper_front ts us h)
  where
    no_front : (ts us : List Token) → begins_part (ts ++ us) ≡ false → begins_part ts ≡ false
    no_front [] us e = refl
    no_front (u ∷ ts) us e = e

pub proper_behind : (ts us : List Token) → AreProper (ts ++ us) → AreProper us
proper_behind [] us h = h
proper_behind (u ∷ ts) us (one_token _ _ _ _ h) = proper_behind ts us h

pub proper_both : (ts us : List Token) → AreProper ts → AreProper us → begins_part us ≡ false → AreProper (ts ++ us)
proper_both [] us h more e = more
proper_both (u ∷ ts) us (one_token _ _ is apart h) more e = one_token u (ts ++ us) is (λ f. both ts us (apart f) e) (proper_both ts us h more e)
  where
    both : (ts us : List Token) → begins_part ts ≡ false → begins_part us ≡ false → begins_part (ts ++ us) ≡ false
    both [] us d e = e
    both (u ∷ ts) us d e = d
