-- The tokens that a text spells cover it.
use Rattle.std.proofs.Common.{◌≡◌, ℕ, ◌+◌, List, [], ◌∷◌, ◌++◌, length, Some, None, refl, sym, subst, arith, length-append, append_assoc, Result, Ok, Err, Vec, Global, MatchResult, IfOk}
use Rattle.std.proofs.lemmas.List.{append-nil}
use Rattle.std.specs.declared.option.Option.{Option}
use Rattle.cs_token.specs.declared.around.Around.{Around}
use Rattle.cs_token.specs.declared.token.Token.{Token}
use Rattle.cs_token.specs.Cover.{no_gap, one_gap, Cover, no_token, one_token}
use Rattle.cs_token.specs.Lexemes.{Stands, IsGap}
use Rattle.cs_token.specs.Lexemes as g
use Rattle.cs_token.specs.Spelling.{innermost, Moment, Piece, Step, step, beginning, token_there, tokens_among, Spells}
use Rattle.cs_token.specs.Walks.{Walk, stay, go}
use Rattle.cs_token.specs.Places.{place_after}
use Rattle.cs_token.proofs.FrontLengths.{stands-some}
use Rattle.cs_token.proofs.LexLemmas.{step-before}

-- a gap in a line is one anywhere
loose : (around : Option Around) (text rest : List ℕ) → IsGap around text rest → IsGap None text rest
loose around _ _ (g.white c rest is keeps) = g.white c rest is refl
loose around _ _ (g.line body rest all stops) = g.line body rest all stops
loose around _ _ (g.block body rest keeps first) = g.block body rest refl first

gap_of : (around : Option Around) (text rest : List ℕ) → Stands around None text rest → IsGap None text rest
gap_of _ _ _ (g.gap around text rest code is) = loose around text rest is

-- one gap more before tokens
gap_before : (at next : ℕ) (gap rest : List ℕ) (tokens : List Token) → IsGap None gap rest → next ≡ at + length gap → Cover next rest tokens → Cover at (gap ++ rest) tokens
gap_before at _ gap _ _ is follows (no_token next gaps are) =
    no_token at (gap ++ gaps) (one_gap gap gaps [] (subst (λ (x : List ℕ). IsGap None gap x) (sym (append-nil gaps)) is) are)
gap_before at _ gap _ _ is follows (one_token next gaps here rest token tokens are some start end more) =
    let long = length-append gap gaps in
    subst (λ (x : List ℕ). Cover at x (token ∷ tokens)) (append_assoc gap gaps (here ++ rest))
    (one_token at (gap ++ gaps) here rest token tokens (one_gap gap gaps (here ++ rest) is are) some (omega arith) end more)

-- one piece more before tokens
cover-step : (a b : Moment) (piece : Piece) → Step a piece b → (tokens : List Token) → Cover (length b.1) b.2 tokens
    → Cover (length a.1) a.2 (token_there piece.0 (length a.1) (length a.1 + length piece.1) (place_after a.1) ++ tokens)
cover-step _ _ _ (step opened before None text rest stands) tokens later =
    gap_before (length before) (length (before ++ text)) text rest tokens (gap_of (innermost opened) text rest stands) (length-append before text) later
cover-step _ _ _ (step opened before (Some kind) text rest stands) tokens later =
    let made : Token = record { kind = kind; start = length before; end = length before + length text; place = place_after before } in
    one_token (length before) [] text rest made tokens (no_gap (text ++ rest)) (stands-some (innermost opened) (Some kind) text rest stands) (omega arith) refl
    (subst (λ (n : ℕ). Cover n rest tokens) (length-append before text) later)

cover-walk : (a b : Moment) (pieces : List Piece) → Walk Step a pieces b → b.2 ≡ [] → Cover (length a.1) a.2 (tokens_among a.1 pieces)
cover-walk _ _ _ (stay here) ended = subst (λ (x : List ℕ). Cover (length here.1) x []) (sym ended) (no_token (length here.1) [] (no_gap []))
cover-walk _ _ _ (go here next there piece pieces first rest) ended =
    let later : Cover (length next.1) next.2 (tokens_among next.1 pieces) = cover-walk next there pieces rest ended in
    let moved : next.1 ≡ here.1 ++ piece.1 = step-before here next piece first in
    cover-step here next piece first (tokens_among (here.1 ++ piece.1) pieces) (subst (λ (x : List ℕ). Cover (length next.1) next.2 (tokens_among x pieces)) moved later)

pub spelled-cover : (text : List ℕ) (tokens : List Token) → Spells text tokens → Cover 0 text tokens
spelled-cover text tokens spelled =
    subst (λ (x : List Token). Cover 0 text x) (sym spelled.are) (cover-walk (beginning text) ([], text, []) spelled.pieces spelled.laid refl)

pub covered : {E : Type 0} (text : List ℕ) (answer : Result (Vec Token Global) E) (P : E → Type 0) → MatchResult answer (λ tokens. Spells text tokens.items) P → IfOk answer (λ tokens. Cover 0 text tokens.items)
covered text (Ok tokens) P spelled = spelled-cover text tokens.items spelled
covered text (Err e) P why = tt
