-- Code in the brackets of a parameter's text is cut into literal pieces.
use Rattle.std.proofs.Common.{◌≡◌, ℕ, zero, suc, ◌+◌, ◌-◌, Bool, true, false, List, ◌∷◌, ◌++◌, length, take, Some, None, refl, ap, ◌∙◌, subst, arith}
use Rattle.std.specs.declared.option.Option.{Option}
use Rattle.std.proofs.Math.Seq.{take-append_seam}
use Rattle.text_core.specs.declared.place.Place.{Place}
use Rattle.cs_token.specs.declared.around.Around.{Around}
use Rattle.cs_token.specs.declared.around.Opened.{Opened}
use Rattle.cs_token.specs.declared.token.Sign.{Sign}
use Rattle.cs_token.specs.declared.token.TokenKind.{TokenKind}
use Rattle.cs_token.specs.declared.token.TokenKind.TheVariants as t
use Rattle.cs_token.specs.Lexemes.{Stands}
use Rattle.cs_token.specs.Places.{place_after}
use Rattle.cs_token.specs.Spelling as code
use Rattle.cs_token.specs.Spelling.{behind_kind}
use Rattle.razor_token.specs.declared.context.Context.{Context}
use Rattle.razor_token.specs.declared.context.Context.TheVariants as x
use Rattle.razor_token.specs.declared.piece.PieceKind.TheVariants as k
use Rattle.razor_token.specs.Contexts.{changed, with_sign}
use Rattle.razor_token.specs.CodeFronts.{sign_of, opens, closes, keeps_quote, where_it, bracket_change, bracket_piece, bracket_at}
use Rattle.razor_token.specs.Pieces.{piece}
use Rattle.razor_token.specs.Cutting.{opened_behind}
use Rattle.razor_print.specs.ValueTexts.{depth_behind}
use Rattle.printed_pieces.specs.Cut.{within}
use Rattle.printed_pieces.proofs.WalkLaws.{step-found}
use Rattle.printed_pieces.proofs.LiteralLaws.{Saying, saying-one}
use Rattle.printed_pieces.proofs.FrontLaws.{code-found}

-- so many brackets in these contexts
abbrev pub raws : ℕ → List Context → List Context
raws zero cs = cs
raws (suc depth) cs = x.Bracket None true ∷ raws depth cs

raw-found : (around : Option Around) (kind : Option TokenKind) (text rest : List ℕ) → Stands around kind text rest
    → bracket_at None true around (text ++ rest) ≡ piece (k.Literal text) (length text) (with_sign (sign_of kind) (bracket_change None true around (sign_of kind)))
unfolding bracket_at
raw-found around kind text rest h =
    ap (λ o. bracket_piece None true around (text ++ rest) (where_it (λ front. keeps_quote None (take front.count (text ++ rest))) o)) (code-found around kind text rest h)
    ∙ ap (λ z. piece (k.Literal z) (length text) (with_sign (sign_of kind) (bracket_change None true around (sign_of kind)))) (take-append_seam text rest)

-- as many brackets are open as contexts
raw-change : (around : Option Around) (sign : Option Sign) (depth : ℕ) (cs : List Context)
    → changed (with_sign sign (bracket_change None true around sign)) (raws (suc depth) cs) ≡ raws (depth_behind around sign (suc depth)) cs
raw-change (Some a) sign depth cs = refl
raw-change None None depth cs = refl
raw-change None (Some sign) depth cs = by (opens sign) (closes sign) refl refl
  where
    one_more : suc depth + 1 ≡ suc (suc depth)
    one_more = omega arith

    one_less : suc depth - 1 ≡ depth
    one_less = omega arith

    by : (b c : Bool) → opens sign ≡ b → closes sign ≡ c → changed (with_sign (Some sign) (bracket_change None true None (Some sign))) (raws (suc depth) cs) ≡ raws (depth_behind None (Some sign) (suc depth)) cs
    by true c e f = rw (e, one_more) refl
    by false true e f = rw (e, f, one_less) refl
    by false false e f = rw (e, f) refl

raw-opened : (kind : Option TokenKind) (place : Place) (o : List Opened) → opened_behind (sign_of kind) place o ≡ behind_kind kind place o
raw-opened None place o = refl
raw-opened (Some (t.Sign sign)) place o = refl
raw-opened (Some kind) place o = refl

pub raw-step : (depth : ℕ) (cs : List Context) (o : List Opened) (before front rest : List ℕ) (kind : Option TokenKind) → Stands (code.innermost o) kind front rest
    → Saying (within (raws (suc depth) cs) o before (front ++ rest)) front
    (within (raws (depth_behind (code.innermost o) (sign_of kind) (suc depth)) cs) (behind_kind kind (place_after before) o) (before ++ front) rest)
raw-step depth cs o before front rest kind stands =
    let from = within (raws (suc depth) cs) o before (front ++ rest) in
    let change = with_sign (sign_of kind) (bracket_change None true (code.innermost o) (sign_of kind)) in
    let found = raw-found (code.innermost o) kind front rest stands in
    let one = saying-one _ _ front (step-found (raws (suc depth) cs) o before front rest (k.Literal front) change found refl) in
    subst (λ z. Saying from front (within z (behind_kind kind (place_after before) o) (before ++ front) rest)) (raw-change (code.innermost o) (sign_of kind) depth cs)
    (subst (λ z. Saying from front (within (changed change (raws (suc depth) cs)) z (before ++ front) rest)) (raw-opened kind (place_after before) o) one)
