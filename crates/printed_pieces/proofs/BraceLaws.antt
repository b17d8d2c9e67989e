-- The braces of blocks are cut as meant.
use Rattle.std.proofs.Common.{◌≡◌, ℕ, ◌-◌, Bool, true, false, List, [], ◌∷◌, ◌++◌, length, Some, None, Ok, refl, sym, ap, ◌∙◌, subst, arith}
use Rattle.std.specs.declared.option.Option.{Option}
use Rattle.std.proofs.lemmas.Bool.{false≢true}
use Rattle.cs_token.specs.declared.token.Sign.TheVariants as s
use Rattle.cs_token.specs.declared.token.TokenKind.{TokenKind}
use Rattle.cs_token.specs.declared.token.TokenKind.TheVariants as t
use Rattle.cs_token.specs.Lexemes as g
use Rattle.cs_token.specs.Places.{place_after}
use Rattle.cs_token.specs.Reading.Fronts.{front_at, code_at}
use Rattle.cs_token.specs.Reading.Runs.{strip}
use Rattle.cs_token.specs.Reading.Signs.{sign_at, signs}
use Rattle.cs_token.specs.Signs.{mark}
use Rattle.cs_token.specs.Spelling.{behind_sign}
use Rattle.razor_token.specs.declared.context.Change.{Change}
use Rattle.razor_token.specs.declared.context.Context.{Context}
use Rattle.razor_token.specs.declared.context.Context.TheVariants as x
use Rattle.razor_token.specs.declared.context.Point.{Point}
use Rattle.razor_token.specs.declared.context.Point.TheVariants as point
use Rattle.razor_token.specs.declared.piece.PieceKind.TheVariants as k
use Rattle.razor_token.specs.BlockFronts.{head_piece, head_at, end_change, statement_piece, statement_at, block_at}
use Rattle.razor_token.specs.CodeFronts.{front_of, code_front}
use Rattle.razor_token.specs.Contexts.{innermost, changed, leaves, becomes, becomes_both, with_sign}
use Rattle.razor_token.specs.Cutting.{found_in, last_of, opened_behind}
use Rattle.razor_token.specs.Pieces.{piece}
use Rattle.razor_print.specs.Parts.{Parts, in_block, close_brace}
use Rattle.razor_print.specs.Parts as parts
use Rattle.printed_pieces.specs.Meant as m
use Rattle.printed_pieces.specs.Cut.{Lays, within, between, Stand}
use Rattle.printed_pieces.proofs.WalkLaws.{stand-join, stand-piece, step-found, lays-one}
use Rattle.printed_pieces.proofs.FrontLaws.{IsCodePlace, block}
use Rattle.printed_pieces.proofs.GoesLaws.{gap-lays}

-- a single token, where nothing is open of an interpolated text
pub stand-token : (cs : List Context) (before text rest : List ℕ) (kind : TokenKind) (change : Change)
    → found_in (innermost cs) false None (last_of before) (text ++ rest) ≡ piece (k.Code kind) (length text) change
    → opened_behind change.sign (place_after before) [] ≡ [] → Stand cs before (parts.token kind ∷ []) text rest (changed change cs)
stand-token cs before text rest kind change e opened =
    subst (λ z. Lays (between cs before (text ++ rest)) (parts.token kind ∷ []) (within (changed change cs) z (before ++ text) rest)) opened
    (lays-one _ _ (k.Code kind) (parts.token kind ∷ []) (step-found cs [] before text rest (k.Code kind) change e refl) refl (λ p is. m.token kind p [] [] is m.no_part))

-- a blank between tokens
pub stand-blank : (c : Context) (cs : List Context) (before rest : List ℕ) → IsCodePlace c → Stand (c ∷ cs) before [] (32 ∷ []) rest (c ∷ cs)
stand-blank c cs before rest place = gap-lays c cs [] before (32 ∷ []) rest place (g.gap None (32 ∷ []) rest refl (g.white 32 rest refl refl))

open-front : (rest : List ℕ) → front_at None (123 ∷ rest) ≡ Ok (Some (t.Sign s.OpenBrace), rest)
unfolding code_at strip sign_at signs mark
open-front rest = refl

close-front : (rest : List ℕ) → front_at None (125 ∷ rest) ≡ Ok (Some (t.Sign s.CloseBrace), rest)
unfolding code_at strip sign_at signs mark
close-front rest = refl

pub open-code : (rest : List ℕ) → code_front None (123 ∷ rest) ≡ Some (record { token = Some (t.Sign s.OpenBrace); count = 1 })
unfolding code_front
open-code rest = let count : length (123 ∷ rest) - length rest ≡ 1 = omega arith in ap (front_of (123 ∷ rest)) (open-front rest) ∙ rw count refl

pub close-code : (rest : List ℕ) → code_front None (125 ∷ rest) ≡ Some (record { token = Some (t.Sign s.CloseBrace); count = 1 })
unfolding code_front
close-code rest = let count : length (125 ∷ rest) - length rest ≡ 1 = omega arith in ap (front_of (125 ∷ rest)) (close-front rest) ∙ rw count refl

open-head : (with_else : Bool) (rest : List ℕ) → head_at with_else None (123 ∷ rest) ≡ piece (k.Code (t.Sign s.OpenBrace)) 1 (with_sign (Some s.OpenBrace) (becomes (x.Block point.Begins with_else)))
unfolding head_at
open-head with_else rest = ap (head_piece with_else None) (open-code rest)

-- not right behind `with`
abbrev pub is_with : Point → Bool
is_with point.BehindWith = true
is_with _ = false

open-block : (at : Point) (with_else : Bool) (rest : List ℕ) → is_with at ≡ false
    → block_at false at with_else None (123 ∷ rest) ≡ piece (k.Code (t.Sign s.OpenBrace)) 1 (with_sign (Some s.OpenBrace) (becomes_both (x.Block point.Begins with_else) (x.Block point.Begins false)))
unfolding block_at statement_at strip
open-block point.Begins with_else rest e = ap (statement_piece point.Begins with_else None (123 ∷ rest)) (open-code rest)
open-block point.Within with_else rest e = ap (statement_piece point.Within with_else None (123 ∷ rest)) (open-code rest)
open-block point.BehindWith with_else rest e = absurd (false≢true (sym e))

close-block : (at : Point) (with_else : Bool) (rest : List ℕ) → block_at false at with_else None (125 ∷ rest) ≡ piece (k.Code (t.Sign s.CloseBrace)) 1 (with_sign (Some s.CloseBrace) (end_change with_else rest))
unfolding block_at statement_at strip
close-block point.Begins with_else rest = ap (statement_piece point.Begins with_else None (125 ∷ rest)) (close-code rest)
close-block point.Within with_else rest = ap (statement_piece point.Within with_else None (125 ∷ rest)) (close-code rest)
close-block point.BehindWith with_else rest = ap (statement_piece point.BehindWith with_else None (125 ∷ rest)) (close-code rest)

-- code in braces, as text
abbrev pub block_text : List ℕ → List ℕ
block_text text = (123 ∷ 32 ∷ []) ++ (text ++ 125 ∷ [])

stand-open : (cs ds : List Context) (before rest : List ℕ) (c : Context) (change : Change) → ((last : Option ℕ) → found_in (innermost cs) false None last (123 ∷ (32 ∷ rest)) ≡ piece (k.Code (t.Sign s.OpenBrace)) 1 (with_sign (Some s.OpenBrace) change))
    → changed change cs ≡ c ∷ ds → IsCodePlace c → Stand cs before (parts.token (t.Sign s.OpenBrace) ∷ []) (123 ∷ 32 ∷ []) rest (c ∷ ds)
unfolding behind_sign
stand-open cs ds before rest c change found leads place =
    stand-join cs (c ∷ ds) (c ∷ ds) before (parts.token (t.Sign s.OpenBrace) ∷ []) [] (123 ∷ []) (32 ∷ []) rest
    (subst (λ z. Stand cs before (parts.token (t.Sign s.OpenBrace) ∷ []) (123 ∷ []) (32 ∷ rest) z) leads
    (stand-token cs before (123 ∷ []) (32 ∷ rest) (t.Sign s.OpenBrace) (with_sign (Some s.OpenBrace) change) (found (last_of before)) refl))
    (stand-blank c ds (before ++ 123 ∷ []) rest place)

-- a block between its braces
stand-braces : (cs ds es : List Context) (before rest : List ℕ) (at : Point) (with_else : Bool) (inner : Parts) (text : List ℕ) (change : Change)
    → ((front more : List ℕ) → Stand cs front (parts.token (t.Sign s.OpenBrace) ∷ []) (123 ∷ 32 ∷ []) more (x.Block point.Begins with_else ∷ ds))
    → ((front : List ℕ) → Stand (x.Block point.Begins with_else ∷ ds) front inner text (125 ∷ rest) (x.Block at with_else ∷ ds))
    → end_change with_else rest ≡ change → changed change (x.Block at with_else ∷ ds) ≡ es
    → Stand cs before (in_block inner) (block_text text) rest es
unfolding behind_sign
stand-braces cs ds es before rest at with_else inner text change opening within_it ends leads =
    let first = x.Block point.Begins with_else ∷ ds in
    let last = x.Block at with_else ∷ ds in
    let here = before ++ 123 ∷ 32 ∷ [] in
    stand-join cs first es before (parts.token (t.Sign s.OpenBrace) ∷ []) (inner ++ close_brace ∷ []) (123 ∷ 32 ∷ []) (text ++ 125 ∷ []) rest
    (opening before ((text ++ 125 ∷ []) ++ rest))
    (stand-join first last es here inner (close_brace ∷ []) text (125 ∷ []) rest (within_it here)
    (subst (λ z. Stand last (here ++ text) (close_brace ∷ []) (125 ∷ []) rest z) leads
    (stand-piece last (here ++ text) (125 ∷ []) rest (k.Code (t.Sign s.CloseBrace)) (with_sign (Some s.CloseBrace) change)
    (close-block at with_else rest ∙ ap (λ z. piece (k.Code (t.Sign s.CloseBrace)) 1 (with_sign (Some s.CloseBrace) z)) ends) refl refl refl)))

-- the block of a head
pub stand-body : (cs es : List Context) (before rest : List ℕ) (at : Point) (with_else : Bool) (inner : Parts) (text : List ℕ) (change : Change)
    → ((front : List ℕ) → Stand (x.Block point.Begins with_else ∷ cs) front inner text (125 ∷ rest) (x.Block at with_else ∷ cs))
    → end_change with_else rest ≡ change → changed change (x.Block at with_else ∷ cs) ≡ es
    → Stand (x.Head with_else ∷ cs) before (in_block inner) (block_text text) rest es
stand-body cs es before rest at with_else inner text change within_it ends leads =
    stand-braces (x.Head with_else ∷ cs) cs es before rest at with_else inner text change
    (λ front more. stand-open (x.Head with_else ∷ cs) cs front more (x.Block point.Begins with_else) (becomes (x.Block point.Begins with_else)) (λ last. open-head with_else (32 ∷ more)) refl (block point.Begins with_else))
    within_it ends leads

-- a block in a block
pub stand-inner : (cs : List Context) (before rest : List ℕ) (at last : Point) (with_else : Bool) (inner : Parts) (text : List ℕ) → is_with at ≡ false
    → ((front : List ℕ) → Stand (x.Block point.Begins false ∷ x.Block point.Begins with_else ∷ cs) front inner text (125 ∷ rest) (x.Block last false ∷ x.Block point.Begins with_else ∷ cs))
    → Stand (x.Block at with_else ∷ cs) before (in_block inner) (block_text text) rest (x.Block point.Begins with_else ∷ cs)
stand-inner cs before rest at last with_else inner text plain within_it =
    stand-braces (x.Block at with_else ∷ cs) (x.Block point.Begins with_else ∷ cs) (x.Block point.Begins with_else ∷ cs) before rest last false inner text leaves
    (λ front more. stand-open (x.Block at with_else ∷ cs) (x.Block point.Begins with_else ∷ cs) front more (x.Block point.Begins false) (becomes_both (x.Block point.Begins with_else) (x.Block point.Begins false)) (λ z. open-block at with_else (32 ∷ more) plain) refl (block point.Begins false))
    within_it refl refl
