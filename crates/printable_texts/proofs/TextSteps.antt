-- What stands at the front of the text of a parameter, in quotes or in the brackets of `@(..)`.
use Rattle.std.proofs.Common.{◌≡◌, ℕ, suc, ◌-◌, Bool, true, false, List, [], ◌∷◌, ◌++◌, length, take, drop, Some, None, Ok, Err, refl, sym, ap, ◌∙◌, subst, arith, length-append}
use Rattle.std.specs.Prelude.{◌==◌, codes, is_some, if◌then◌else◌}
use Rattle.std.specs.declared.option.Option.{Option}
use Rattle.std.specs.List.{list_all}
use Rattle.std.proofs.Math.Seq.{take-append_seam, drop-append_seam}
use Rattle.cs_token.specs.declared.around.Around.{Around}
use Rattle.cs_token.specs.declared.fault.Cause.TheVariants.{UnendedText}
use Rattle.cs_token.specs.declared.token.TokenKind.{TokenKind}
use Rattle.cs_token.specs.Lexemes.{Stands}
use Rattle.cs_token.specs.Reading.Fronts.{Read, front_at}
use Rattle.cs_token.specs.Reading.Runs.{strip}
use Rattle.cs_token.specs.Wrong as wrong
use Rattle.cs_token.proofs.ExactLemmas.{wrong-again, nothing_there}
use Rattle.cs_token.proofs.RunLemmas.{strip-some}
use Rattle.cs_token.proofs.SoundLemmas.{Sound, front-sound}
use Rattle.razor_token.specs.declared.context.Context.TheVariants as x
use Rattle.razor_token.specs.declared.found.Found.{Found}
use Rattle.razor_token.specs.declared.piece.PieceKind.TheVariants as k
use Rattle.razor_token.specs.declared.piece.Quote.{Quote}
use Rattle.razor_token.specs.declared.runs.RunKind.{RunKind}
use Rattle.razor_token.specs.CodeFronts.{front_of, code_front, where_it, sign_of, keeps_quote, bracket_change, bracket_piece, bracket_at}
use Rattle.razor_token.specs.Contexts.{stays, leaves, enters, with_sign}
use Rattle.razor_token.specs.Pieces.{literal}
use Rattle.razor_token.specs.Runs.{is_of, run, begins}
use Rattle.razor_token.specs.ValueFronts.{quoted_run, text_at}

-- outside brackets: the end, two at signs, an at sign and its bracket, an at sign, or other characters
pub data TextGoes (quote : Quote) (text : List ℕ) : Option Found → Type 0 where
  nothing : TextGoes quote text None
  ends : TextGoes quote text (Some (record { kind = k.ValueEnd; count = 1; change = leaves }))
  two : (rest : List ℕ) → text ≡ 64 ∷ 64 ∷ rest → TextGoes quote text (Some (record { kind = k.Literal (64 ∷ 64 ∷ []); count = 2; change = stays }))
  bracket : (rest : List ℕ) → text ≡ 64 ∷ 40 ∷ rest → TextGoes quote text (Some (record { kind = k.Literal (64 ∷ 40 ∷ []); count = 2; change = enters (x.Bracket None true) }))
  one : (rest : List ℕ) → text ≡ 64 ∷ rest → begins (codes "@@") text ≡ false → begins (codes "@(") text ≡ false → TextGoes quote text (Some (record { kind = k.Literal (64 ∷ []); count = 1; change = stays }))
  plain : (count : ℕ) → list_all (is_of (quoted_run quote)) (take count text) ≡ true → TextGoes quote text (Some (record { kind = k.Literal (take count text); count = count; change = stays }))

by_test : (quote : Quote) (text : List ℕ) (b : Bool) (y z : Option Found) → (b ≡ true → TextGoes quote text y) → (b ≡ false → TextGoes quote text z) → TextGoes quote text (if b then y else z)
by_test quote text true y z h i = h refl
by_test quote text false y z h i = i refl

record Begun (front text : List ℕ) : Type 0 where
  rest : List ℕ
  laid : text ≡ front ++ rest

begun : (front text : List ℕ) → begins front text ≡ true → Begun front text
begun front text e = go (strip front text) refl e
  where
    go : (o : Option (List ℕ)) → strip front text ≡ o → is_some o ≡ true → Begun front text
    go None is e = absurd (cc)
    go (Some rest) is e = record { rest = rest; laid = strip-some front text rest is }

run_all : (kind : RunKind) (text : List ℕ) → list_all (is_of kind) (take (run kind text) text) ≡ true
run_all kind [] = refl
run_all kind (c ∷ text) = go (is_of kind c) refl (run_all kind text)
  where
    go : (b : Bool) → is_of kind c ≡ b → list_all (is_of kind) (take (run kind text) text) ≡ true → list_all (is_of kind) (take (run kind (c ∷ text)) (c ∷ text)) ≡ true
    go true e all =
        let long : run kind (c ∷ text) ≡ suc (run kind text) = rw e (omega arith) in
        ap (λ m. list_all (is_of kind) (take m (c ∷ text))) long ∙ rw (e, all) refl
    go false e all = let none : run kind (c ∷ text) ≡ 0 = rw e refl in ap (λ m. list_all (is_of kind) (take m (c ∷ text))) none

plain_goes : (quote : Quote) (text : List ℕ) → TextGoes quote text (literal (run (quoted_run quote) text) text)
plain_goes quote text = by_test quote text (run (quoted_run quote) text == 0) None _ (λ e. nothing) (λ e. plain (run (quoted_run quote) text) (run_all (quoted_run quote) text))

pub text_goes : (quote : Quote) (text : List ℕ) → TextGoes quote text (text_at quote text)
unfolding text_at
text_goes quote text =
    by_test quote text _ _ _ (λ e. ends)
    (λ a. by_test quote text (begins (codes "@@") text) _ _ (λ e. let h = begun (codes "@@") text e in two h.rest h.laid)
    (λ b. by_test quote text (begins (codes "@(") text) _ _ (λ e. let h = begun (codes "@(") text e in bracket h.rest h.laid)
    (λ d. by_test quote text (begins (codes "@") text) _ _ (λ e. let h = begun (codes "@") text e in one h.rest h.laid b d) (λ e. plain_goes quote text))))

-- in brackets: code, taken as it is
pub data RawGoes (around : Option Around) (text : List ℕ) : Option Found → Type 0 where
  nothing : RawGoes around text None
  some : (token : Option TokenKind) (count : ℕ) (here rest : List ℕ) → text ≡ here ++ rest → take count text ≡ here → drop count text ≡ rest → Stands around token here rest
      → RawGoes around text (Some (record { kind = k.Literal (take count text); count = count; change = with_sign (sign_of token) (bracket_change None true around (sign_of token)) }))

pub front_nothing : (around : Option Around) → front_at around [] ≡ Err (UnendedText, [])
front_nothing None = nothing_there None
front_nothing (Some a) = wrong-again (Some a) UnendedText [] [] (wrong.unended_line (Some a) [] refl refl)

pub counts : (here rest : List ℕ) → length (here ++ rest) - length rest ≡ length here
counts here rest = simp length-append (omega arith)

read_goes : (around : Option Around) (text : List ℕ) (found : Read) → Sound around text found → RawGoes around text (bracket_piece None true around text (where_it (λ front. keeps_quote None (take front.count text)) (front_of text found)))
read_goes around text (Err fault) h = nothing
read_goes around text (Ok found) h =
    let count : length text - length found.1 ≡ length h.here = ap (λ z. length z - length found.1) h.laid ∙ counts h.here found.1 in
    some found.0 (length text - length found.1) h.here found.1 h.laid
    (ap (λ n. take n text) count ∙ ap (take (length h.here)) h.laid ∙ take-append_seam h.here found.1)
    (ap (λ n. drop n text) count ∙ ap (drop (length h.here)) h.laid ∙ drop-append_seam h.here found.1)
    h.stands

pub raw_goes : (around : Option Around) (text : List ℕ) → RawGoes around text (bracket_at None true around text)
unfolding bracket_at code_front
raw_goes around [] = subst (λ z. RawGoes around [] (bracket_piece None true around [] (where_it (λ front. keeps_quote None (take front.count [])) (front_of [] z)))) (sym (front_nothing around)) nothing
raw_goes around (d ∷ text) = read_goes around (d ∷ text) (front_at around (d ∷ text)) (front-sound around (d ∷ text) (omega arith))
