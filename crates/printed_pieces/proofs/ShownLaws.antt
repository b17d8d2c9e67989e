-- Expressions in the brackets of an at sign are cut into their tokens.
use Rattle.std.proofs.Common.{◌≡◌, ℕ, ◌-◌, Bool, true, false, List, [], ◌∷◌, ◌++◌, length, take, Some, None, Ok, refl, sym, ap, ◌∙◌, subst, arith}
use Rattle.std.specs.declared.option.Option.{Option}
use Rattle.std.specs.Prelude.{◌&&◌}
use Rattle.cs_token.specs.declared.token.Sign.TheVariants as s
use Rattle.cs_token.specs.declared.token.Token.{Token}
use Rattle.cs_token.specs.declared.token.TokenKind.TheVariants as t
use Rattle.cs_token.specs.Reading.Fronts.{front_at, code_at}
use Rattle.cs_token.specs.Reading.Runs.{strip}
use Rattle.cs_token.specs.Reading.Signs.{sign_at, signs}
use Rattle.cs_token.specs.Signs.{mark}
use Rattle.cs_token.specs.Spelling.{behind_sign}
use Rattle.cs_print.specs.Layout.{code_text}
use Rattle.cs_print.specs.Printed.{Kinds}
use Rattle.cs_print.proofs.CodeKinds.{IsCode}
use Rattle.cs_print.proofs.LayLemmas.{Are, code-spelled}
use Rattle.razor_token.specs.declared.context.Context.{Context}
use Rattle.razor_token.specs.declared.context.Context.TheVariants as x
use Rattle.razor_token.specs.declared.context.Held.TheVariants as held
use Rattle.razor_token.specs.declared.context.Point.TheVariants as point
use Rattle.razor_token.specs.declared.piece.PieceKind.TheVariants as k
use Rattle.razor_token.specs.declared.piece.Quote.{Quote}
use Rattle.razor_token.specs.declared.piece.Quote.TheVariants as q
use Rattle.razor_token.specs.BlockFronts.{block_at, block_at_sign}
use Rattle.razor_token.specs.CodeFronts.{front_of, code_front, keeps_quote, where_it, bracket_piece, bracket_at, opening_at, opens, closes}
use Rattle.razor_token.specs.ContentFronts.{content_at, at_sign, transition_at, is_word}
use Rattle.razor_token.specs.Contexts.{innermost, leaves, becomes, enters_both, with_sign}
use Rattle.razor_token.specs.Cutting.{found_in, last_of}
use Rattle.razor_token.specs.Pieces.{piece}
use Rattle.razor_token.specs.ValueFronts.{mixed_at, code_lead_at}
use Rattle.razor_print.specs.Parts.{Parts, tokens, led, shown, expression_end}
use Rattle.razor_print.specs.Parts as parts
use Rattle.printed_pieces.specs.Cut.{Stand}
use Rattle.printed_pieces.specs.Places.{IsContentPlace, top, element}
use Rattle.printed_pieces.proofs.WalkLaws.{stand-join, stand-piece}
use Rattle.printed_pieces.proofs.GoesLaws.{Goes, stand-code}
use Rattle.printed_pieces.proofs.Nests.{Nests}
use Rattle.printed_pieces.proofs.NestGoes.{Round, in_bracket, are-kinds}

-- code that may stand in brackets
pub record IsClosed (ks : Kinds) : Type 0 where
  pub code : IsCode ks
  pub goes : (cs : List Context) → Goes (x.Bracket None false ∷ cs) [] ks (x.Bracket None false ∷ cs) []

-- code whose brackets are whole
pub closed : (ks : Kinds) → IsCode ks → ((ts : List Token) → Are ks ts [] → Nests false ts []) → IsClosed ks
closed ks code nests =
    let h = code-spelled ks code in
    record { code = code; goes = λ cs. in_kinds h.tokens h.are cs (in_bracket false h.tokens [] (nests h.tokens h.are) cs) }
  where
    in_kinds : (ts : List Token) → Are ks ts [] → (cs : List Context) → Round (x.Bracket None false ∷ cs) [] ts [] → Goes (x.Bracket None false ∷ cs) [] ks (x.Bracket None false ∷ cs) []
    in_kinds ts are cs round =
        subst (λ z. Goes (x.Bracket None false ∷ cs) [] z (x.Bracket None false ∷ cs) []) (are-kinds round.kinds ts [] refl round.are ∙ sym (are-kinds ks ts [] refl are)) round.goes

-- `)` before anything
close-front : (rest : List ℕ) → front_at None (41 ∷ rest) ≡ Ok (Some (t.Sign s.CloseRound), rest)
unfolding code_at strip sign_at signs mark
close-front rest = refl

close-code : (rest : List ℕ) → code_front None (41 ∷ rest) ≡ Some (record { token = Some (t.Sign s.CloseRound); count = 1 })
unfolding code_front
close-code rest =
    let count : length (41 ∷ rest) - length rest ≡ 1 = omega arith in
    ap (front_of (41 ∷ rest)) (close-front rest) ∙ rw count refl

close-found : (rest : List ℕ) → bracket_at None false None (41 ∷ rest) ≡ piece (k.Code (t.Sign s.CloseRound)) 1 (with_sign (Some s.CloseRound) leaves)
unfolding bracket_at opens closes
close-found rest = ap (λ o. bracket_piece None false None (41 ∷ rest) (where_it (λ front. keeps_quote None (take front.count (41 ∷ rest))) o)) (close-code rest)

open-found : (rest : List ℕ) → opening_at (40 ∷ rest) ≡ piece (k.Code (t.Sign s.OpenRound)) 1 (becomes (x.Bracket None false))
unfolding opening_at strip
open-found rest = refl

-- `(`, code and `)`
abbrev pub round_parts : Kinds → Parts
round_parts ks = parts.piece (k.Code (t.Sign s.OpenRound)) (40 ∷ []) ∷ (tokens ks ++ parts.piece (k.Code (t.Sign s.CloseRound)) (41 ∷ []) ∷ [])

abbrev pub round_text : Kinds → List ℕ
round_text ks = 40 ∷ (code_text ks ++ 41 ∷ [])

pub stand-round : (cs : List Context) (before rest : List ℕ) (ks : Kinds) → IsClosed ks → Stand (x.Opening ∷ cs) before (round_parts ks) (round_text ks) rest cs
unfolding behind_sign
stand-round cs before rest ks is =
    let inside = before ++ 40 ∷ [] in
    stand-join (x.Opening ∷ cs) (x.Bracket None false ∷ cs) cs before (parts.piece (k.Code (t.Sign s.OpenRound)) (40 ∷ []) ∷ []) (tokens ks ++ parts.piece (k.Code (t.Sign s.CloseRound)) (41 ∷ []) ∷ []) (40 ∷ []) (code_text ks ++ 41 ∷ []) rest
    (stand-piece (x.Opening ∷ cs) before (40 ∷ []) ((code_text ks ++ 41 ∷ []) ++ rest) (k.Code (t.Sign s.OpenRound)) (becomes (x.Bracket None false)) (open-found ((code_text ks ++ 41 ∷ []) ++ rest)) refl refl refl)
    (stand-join (x.Bracket None false ∷ cs) (x.Bracket None false ∷ cs) cs inside (tokens ks) (parts.piece (k.Code (t.Sign s.CloseRound)) (41 ∷ []) ∷ []) (code_text ks) (41 ∷ []) rest
    (stand-code (x.Bracket None false ∷ cs) (x.Bracket None false ∷ cs) inside (41 ∷ rest) ks is.code (is.goes cs))
    (stand-piece (x.Bracket None false ∷ cs) (inside ++ code_text ks) (41 ∷ []) rest (k.Code (t.Sign s.CloseRound)) (with_sign (Some s.CloseRound) leaves) (close-found rest) refl refl refl))

-- In these contexts an at sign and a bracket begin a content expression.
pub record Shows (cs : List Context) : Type 0 where
  pub begins : (last : Option ℕ) (rest : List ℕ) → found_in (innermost cs) false None last (64 ∷ 40 ∷ rest) ≡ piece k.At 1 (enters_both x.Closing x.Opening)

pub stand-shown : (cs : List Context) (before rest : List ℕ) (ks : Kinds) → Shows cs → IsClosed ks → Stand cs before (shown ks) (64 ∷ round_text ks ++ []) rest cs
stand-shown cs before rest ks shows is =
    let behind = before ++ 64 ∷ [] in
    stand-join cs (x.Opening ∷ x.Closing ∷ cs) cs before (parts.piece k.At (64 ∷ []) ∷ []) (round_parts ks ++ expression_end ∷ []) (64 ∷ []) (round_text ks ++ []) rest
    (stand-piece cs before (64 ∷ []) ((round_text ks ++ []) ++ rest) k.At (enters_both x.Closing x.Opening) (shows.begins (last_of before) _) refl refl refl)
    (stand-join (x.Opening ∷ x.Closing ∷ cs) (x.Closing ∷ cs) cs behind (round_parts ks) (expression_end ∷ []) (round_text ks) [] rest
    (stand-round (x.Closing ∷ cs) behind rest ks is)
    (stand-piece (x.Closing ∷ cs) (behind ++ round_text ks) [] rest k.ExpressionEnd leaves refl refl refl refl))

-- behind the quote of a value that is one expression
pub stand-led : (cs : List Context) (before rest : List ℕ) (ks : Kinds) → IsClosed ks → Stand (x.CodeLead ∷ cs) before (led ks) (64 ∷ round_text ks) rest cs
unfolding code_lead_at strip
stand-led cs before rest ks is =
    stand-join (x.CodeLead ∷ cs) (x.Opening ∷ cs) cs before (parts.piece k.At (64 ∷ []) ∷ []) (round_parts ks) (64 ∷ []) (round_text ks) rest
    (stand-piece (x.CodeLead ∷ cs) before (64 ∷ []) (round_text ks ++ rest) k.At (becomes x.Opening) refl refl refl refl)
    (stand-round cs (before ++ 64 ∷ []) rest ks is)

and-false : (b : Bool) → (b && false) ≡ false
and-false true = refl
and-false false = refl

top-shows : (last : Option ℕ) (rest : List ℕ) → content_at None last (64 ∷ 40 ∷ rest) ≡ piece k.At 1 (enters_both x.Closing x.Opening)
unfolding content_at at_sign transition_at strip
top-shows last rest = rw (and-false (is_word last)) refl

element-shows : (last : Option ℕ) (rest : List ℕ) → content_at (Some x.Element) last (64 ∷ 40 ∷ rest) ≡ piece k.At 1 (enters_both x.Closing x.Opening)
unfolding content_at at_sign transition_at strip
element-shows last rest = rw (and-false (is_word last)) refl

pub shows-content : (cs : List Context) → IsContentPlace cs → Shows cs
shows-content _ top = record { begins = top-shows }
shows-content _ (element cs) = record { begins = element-shows }

mixed-shows : (quote : Quote) (last : Option ℕ) (rest : List ℕ) → mixed_at quote last (64 ∷ 40 ∷ rest) ≡ piece k.At 1 (enters_both x.Closing x.Opening)
unfolding mixed_at strip
mixed-shows q.Double last rest = rw (and-false (is_word last)) refl
mixed-shows q.Single last rest = rw (and-false (is_word last)) refl

pub shows-mixed : (quote : Quote) (cs : List Context) → Shows (x.Value held.Mixed (Some quote) ∷ cs)
shows-mixed quote cs = record { begins = mixed-shows quote }

block-shows : (with_else : Bool) (rest : List ℕ) → block_at false point.Begins with_else None (64 ∷ 40 ∷ rest) ≡ piece k.At 1 (enters_both x.Closing x.Opening)
unfolding block_at block_at_sign strip
block-shows with_else rest = refl

pub shows-block : (with_else : Bool) (cs : List Context) → Shows (x.Block point.Begins with_else ∷ cs)
shows-block with_else cs = record { begins = λ last rest. block-shows with_else rest }
