-- In a value, what is found is a piece of it or its end.
use Rattle.std.proofs.Common.{◌≡◌, ℕ, zero, suc, ◌+◌, Bool, true, false, List, [], ◌∷◌, take, drop, Some, None, refl, sym, ap, ◌∙◌, subst, add-one}
use Rattle.std.specs.Prelude.{◌==◌, ◌||◌, not, codes, if◌then◌else◌}
use Rattle.std.specs.declared.option.Option.{Option}
use Rattle.std.specs.List.{list_all}
use Rattle.std.proofs.lemmas.Bool.{false≢true}
use Rattle.cs_token.specs.declared.around.Around.{Around}
use Rattle.razor_token.specs.declared.context.Context.{Context}
use Rattle.razor_token.specs.declared.context.Context.TheVariants as x
use Rattle.razor_token.specs.declared.context.Held.{Held}
use Rattle.razor_token.specs.declared.context.Held.TheVariants as held
use Rattle.razor_token.specs.declared.context.Holds.{Holds}
use Rattle.razor_token.specs.declared.context.Holds.TheVariants as h
use Rattle.razor_token.specs.declared.found.CodeFront.{CodeFront}
use Rattle.razor_token.specs.declared.found.Found.{Found}
use Rattle.razor_token.specs.declared.piece.PieceKind.TheVariants as k
use Rattle.razor_token.specs.declared.piece.Quote.{Quote}
use Rattle.razor_token.specs.CodeFronts.{mark, sign_of, code_front, code_in, where_it, keeps_bare, bracket_at}
use Rattle.razor_token.specs.ContentFronts.{is_within_word}
use Rattle.razor_token.specs.Contexts.{innermost, stays, leaves, enters, enters_both, becomes}
use Rattle.razor_token.specs.Cutting.{found_in}
use Rattle.razor_token.specs.Pieces.{piece, literal}
use Rattle.razor_token.specs.Runs.{is_of, run, begins, is_bare, bare_run}
use Rattle.razor_token.specs.ValueFronts.{quoted_run, shown_in, mixed_at, text_at, bare_text_at, plain_code, code_value_at, bare_code_at}
use Rattle.printable_texts.specs.Stands.{IsWithin, within, is_within, FitsValue}
use Rattle.printable_texts.proofs.OutsideLaws.{IsOuter}
use Rattle.printable_texts.proofs.TextSteps.{TextGoes, text_goes, RawGoes, raw_goes}
use Rattle.printable_texts.proofs.TextSteps as steps
use Rattle.printable_texts.proofs.ValueStacks.{is_inner, is_mixed, MayHold, holds_mixed, holds_text, holds_bare, holds_code, holds_ended, InValue, base, inner, in_brackets, ValueGoes, nothing, on, ends, choose, code_goes, bracket_in, in_bracket, in_name, in_opening, in_chain, in_closing, in_code_lead, in_shown_lead}

-- literal text in quotes
or_true : (a b : Bool) → b ≡ true → (a || b) ≡ true
or_true true b e = refl
or_true false b e = e

take_more : (n c : ℕ) (text : List ℕ) → take (n + 1) (c ∷ text) ≡ c ∷ take n text
take_more n c text = ap (λ m. take m (c ∷ text)) (add-one n)

run_all : (quote : Quote) (text : List ℕ) → list_all (is_within (Some quote)) (take (run (quoted_run quote) text) text) ≡ true
run_all quote [] = refl
run_all quote (c ∷ text) = go (is_of (quoted_run quote) c) refl (run_all quote text)
  where
    go : (b : Bool) → is_of (quoted_run quote) c ≡ b → list_all (is_within (Some quote)) (take (run (quoted_run quote) text) text) ≡ true
        → list_all (is_within (Some quote)) (take (run (quoted_run quote) (c ∷ text)) (c ∷ text)) ≡ true
    go true e all =
        let long : run (quoted_run quote) (c ∷ text) ≡ run (quoted_run quote) text + 1 = rw e refl in
        ap (λ m. list_all (is_within (Some quote)) (take m (c ∷ text))) long ∙ ap (list_all (is_within (Some quote))) (take_more (run (quoted_run quote) text) c text)
        ∙ rw (or_true (c == 64) (is_of (quoted_run quote) c) e, all) refl
    go false e all = let none : run (quoted_run quote) (c ∷ text) ≡ 0 = rw e refl in ap (λ m. list_all (is_within (Some quote)) (take m (c ∷ text))) none

run_within : (quote : Quote) (text : List ℕ) → (run (quoted_run quote) text == 0) ≡ false → IsWithin (Some quote) (take (run (quoted_run quote) text) text)
run_within quote [] some = absurd (false≢true (sym some))
run_within quote (c ∷ text) some = go (is_of (quoted_run quote) c) refl (run_all quote (c ∷ text))
  where
    go : (b : Bool) → is_of (quoted_run quote) c ≡ b → list_all (is_within (Some quote)) (take (run (quoted_run quote) (c ∷ text)) (c ∷ text)) ≡ true
        → IsWithin (Some quote) (take (run (quoted_run quote) (c ∷ text)) (c ∷ text))
    go true e all =
        let long : run (quoted_run quote) (c ∷ text) ≡ run (quoted_run quote) text + 1 = rw e refl in
        let whole = ap (λ m. take m (c ∷ text)) long ∙ take_more (run (quoted_run quote) text) c text in
        subst (IsWithin (Some quote)) (sym whole) (within c (take (run (quoted_run quote) text) text) (ap (list_all (is_within (Some quote))) (sym whole) ∙ all))
    go false e all = let none : run (quoted_run quote) (c ∷ text) ≡ 0 = rw e refl in absurd (false≢true (sym some ∙ ap (λ m. m == 0) none))

-- and without
pub bare_all : (text : List ℕ) → list_all is_bare (take (bare_run text) text) ≡ true
bare_all [] = refl
bare_all (c ∷ text) = go (is_bare c) (not (begins (47 ∷ 62 ∷ []) (c ∷ text))) refl refl (bare_all text)
  where
    none : bare_run (c ∷ text) ≡ 0 → list_all is_bare (take (bare_run (c ∷ text)) (c ∷ text)) ≡ true
    none e = ap (λ m. list_all is_bare (take m (c ∷ text))) e

    go : (a b : Bool) → is_bare c ≡ a → not (begins (47 ∷ 62 ∷ []) (c ∷ text)) ≡ b → list_all is_bare (take (bare_run text) text) ≡ true → list_all is_bare (take (bare_run (c ∷ text)) (c ∷ text)) ≡ true
    go true true e f all =
        let long : bare_run (c ∷ text) ≡ bare_run text + 1 = rw (e, f) refl in
        ap (λ m. list_all is_bare (take m (c ∷ text))) long ∙ ap (list_all is_bare) (take_more (bare_run text) c text) ∙ rw (e, all) refl
    go true false e f all = none (rw (e, f) refl)
    go false b e f all = none (rw e refl)

bare_within : (x : List ℕ) → list_all is_bare x ≡ true → (x ≡ [] → ⊥) → IsWithin None x
bare_within [] all some = absurd (some refl)
bare_within (c ∷ x) all some = within c x all

taken_some : (n : ℕ) (text : List ℕ) → bare_run text ≡ n → (n == 0) ≡ false → take n text ≡ [] → ⊥
taken_some n [] is e none = false≢true (sym e ∙ ap (λ m. m == 0) (sym is))
taken_some zero (c ∷ text) is e none = false≢true (sym e)
taken_some (suc n) (c ∷ text) is e none = absurd (cc)

-- literal text that fits
fits_within : (holds : Holds) (quote : Option Quote) (x : List ℕ) → IsWithin quote x → FitsValue holds quote x
fits_within h.Mixed quote x e = e
fits_within h.Text quote x e = tt
fits_within h.Code quote x e = tt
fits_within h.Supplied quote x e = tt
fits_within h.Event quote x e = tt

fits_any : (holds : Holds) (quote : Option Quote) (x : List ℕ) → is_mixed holds ≡ false → FitsValue holds quote x
fits_any h.Mixed quote x e = absurd (cc)
fits_any h.Text quote x e = tt
fits_any h.Code quote x e = tt
fits_any h.Supplied quote x e = tt
fits_any h.Event quote x e = tt

module _ (component void : Bool) (holds : Holds) where
  -- literal text and expressions
  mixed_literal : (quote : Quote) (text : List ℕ) (cs : List Context) → InValue component void holds (Some quote) cs → ValueGoes component void holds (Some quote) cs (literal (run (quoted_run quote) text) text)
  mixed_literal quote text cs here = go (run (quoted_run quote) text == 0) refl
    where
      go : (b : Bool) → (run (quoted_run quote) text == 0) ≡ b → ValueGoes component void holds (Some quote) cs (if b then None else piece (k.Literal (take (run (quoted_run quote) text) text)) (run (quoted_run quote) text) stays)
      go true e = nothing
      go false e = on (k.Literal (take (run (quoted_run quote) text) text)) (run (quoted_run quote) text) stays (fits_within holds (Some quote) _ (run_within quote text e)) here

  shown_goes : (quote : Quote) (text : List ℕ) (cs : List Context) → InValue component void holds (Some quote) cs → ValueGoes component void holds (Some quote) cs (shown_in quote text)
  shown_goes quote text cs here =
      choose component void holds (Some quote) cs _ _ _ (on k.At 1 (enters_both x.Closing x.Opening) tt (inner x.Opening (x.Closing ∷ cs) refl (inner x.Closing cs refl here)))
      (choose component void holds (Some quote) cs _ _ _ (on k.At 1 (enters (x.Name (Some quote))) tt (inner (x.Name (Some quote)) cs refl here)) nothing)

  in_mixed : (quote : Quote) (last : Option ℕ) (text : List ℕ) (outer : List Context) → IsOuter outer
      → ValueGoes component void holds (Some quote) (x.Value held.Mixed (Some quote) ∷ x.StartTag component void ∷ outer) (mixed_at quote last text)
  unfolding mixed_at
  in_mixed quote last text outer all =
      let cs = x.Value held.Mixed (Some quote) ∷ x.StartTag component void ∷ outer in
      let here : InValue component void holds (Some quote) cs = base held.Mixed outer (holds_mixed quote) all in
      let one : FitsValue holds (Some quote) (64 ∷ []) = fits_within holds (Some quote) (64 ∷ []) (within 64 [] refl) in
      choose component void holds (Some quote) cs (begins (mark quote ∷ []) text) _ _ (ends 1 leaves outer refl all)
      (choose component void holds (Some quote) cs (begins (codes "@@") text) _ _ (on (k.Literal (64 ∷ [])) 2 stays one here)
      (choose component void holds (Some quote) cs (begins (codes "@") text) _ _ (choose component void holds (Some quote) cs (is_within_word last (drop 1 text)) _ _ (on (k.Literal (64 ∷ [])) 1 stays one here) (shown_goes quote text cs here))
      (mixed_literal quote text cs here)))

  -- a text
  text_in : (quote : Quote) (rest : List ℕ) (outer : List Context) → is_mixed holds ≡ false → IsOuter outer → (o : Option Found) → TextGoes quote rest o
      → ValueGoes component void holds (Some quote) (x.Value held.Text (Some quote) ∷ x.StartTag component void ∷ outer) o
  text_in quote rest outer other all _ steps.nothing = nothing
  text_in quote rest outer other all _ steps.ends = ends 1 leaves outer refl all
  text_in quote rest outer other all _ (steps.two behind_it laid) = on (k.Literal (64 ∷ 64 ∷ [])) 2 stays (fits_any holds (Some quote) _ other) (base held.Text outer (holds_text quote other) all)
  text_in quote rest outer other all _ (steps.bracket behind_it laid) =
      on (k.Literal (64 ∷ 40 ∷ [])) 2 (enters (x.Bracket None true)) (fits_any holds (Some quote) _ other) (in_brackets _ other (base held.Text outer (holds_text quote other) all))
  text_in quote rest outer other all _ (steps.one behind_it laid two bracket) = on (k.Literal (64 ∷ [])) 1 stays (fits_any holds (Some quote) _ other) (base held.Text outer (holds_text quote other) all)
  text_in quote rest outer other all _ (steps.plain count plain) = on (k.Literal (take count rest)) count stays (fits_any holds (Some quote) _ other) (base held.Text outer (holds_text quote other) all)

  raw_in : (quote : Option Quote) (around : Option Around) (rest : List ℕ) (cs : List Context) → is_mixed holds ≡ false → InValue component void holds quote cs → (o : Option Found) → RawGoes around rest o
      → ValueGoes component void holds quote (x.Bracket None true ∷ cs) o
  raw_in quote around rest cs other here _ steps.nothing = nothing
  raw_in quote around rest cs other here _ (steps.some token count front behind_it laid front_is rest_is stands) =
      on (k.Literal (take count rest)) count _ (fits_any holds quote _ other) (bracket_in component void holds quote None true around (sign_of token) cs (λ ds i. in_brackets ds other i) here)

  in_bare_text : (rest : List ℕ) (outer : List Context) → IsOuter outer → ValueGoes component void holds None (x.Value held.Text None ∷ x.StartTag component void ∷ outer) (bare_text_at rest)
  unfolding bare_text_at
  in_bare_text rest outer all = go (bare_run rest == 0) refl
    where
      go : (b : Bool) → (bare_run rest == 0) ≡ b
          → ValueGoes component void holds None (x.Value held.Text None ∷ x.StartTag component void ∷ outer) (if b then None else piece (k.Literal (take (bare_run rest) rest)) (bare_run rest) (becomes (x.Value held.Ended None)))
      go true e = nothing
      go false e =
          on (k.Literal (take (bare_run rest) rest)) (bare_run rest) (becomes (x.Value held.Ended None))
          (fits_within holds None _ (bare_within (take (bare_run rest) rest) (bare_all rest) (taken_some (bare_run rest) rest refl e))) (base held.Ended outer (holds_ended None) all)

  -- code
  plain_goes : (quote : Option Quote) (cs : List Context) → InValue component void holds quote cs → (o : Option CodeFront) → ValueGoes component void holds quote cs (plain_code o)
  plain_goes quote cs here None = nothing
  plain_goes quote cs here (Some front) = code_goes component void holds quote cs front.token front.count _ here

  in_code_value : (quote : Quote) (around : Option Around) (rest : List ℕ) (outer : List Context) → IsOuter outer
      → ValueGoes component void holds (Some quote) (x.Value held.Code (Some quote) ∷ x.StartTag component void ∷ outer) (code_value_at quote around rest)
  unfolding code_value_at
  in_code_value quote around rest outer all =
      choose component void holds (Some quote) _ _ _ _ (ends 1 leaves outer refl all) (plain_goes (Some quote) _ (base held.Code outer (holds_code (Some quote)) all) (code_in (Some quote) around rest))

  in_bare_code : (around : Option Around) (rest : List ℕ) (outer : List Context) → IsOuter outer
      → ValueGoes component void holds None (x.Value held.Code None ∷ x.StartTag component void ∷ outer) (bare_code_at around rest)
  unfolding bare_code_at
  in_bare_code around rest outer all =
      choose component void holds None _ _ _ _ (ends 0 leaves outer refl all) (plain_goes None _ (base held.Code outer (holds_code None) all) (where_it (keeps_bare rest) (code_front around rest)))

  in_base : (quote : Option Quote) (kind : Held) (line : Bool) (around : Option Around) (last : Option ℕ) (rest : List ℕ) (outer : List Context) → MayHold holds quote kind → IsOuter outer
      → ValueGoes component void holds quote (x.Value kind quote ∷ x.StartTag component void ∷ outer) (found_in (Some (x.Value kind quote)) line around last rest)
  in_base _ _ line around last rest outer (holds_mixed quote) all = in_mixed quote last rest outer all
  in_base _ _ line around last rest outer (holds_text quote other) all = text_in quote rest outer other all (text_at quote rest) (text_goes quote rest)
  in_base _ _ line around last rest outer holds_bare all = in_bare_text rest outer all
  in_base _ _ line around last rest outer (holds_code (Some quote)) all = in_code_value quote around rest outer all
  in_base _ _ line around last rest outer (holds_code None) all = in_bare_code around rest outer all
  in_base _ _ line around last rest outer (holds_ended quote) all = ends 0 leaves outer refl all

  in_inner : (quote : Option Quote) (c : Context) (line : Bool) (around : Option Around) (last : Option ℕ) (rest : List ℕ) (cs : List Context) → is_inner c ≡ true → InValue component void holds quote cs
      → ValueGoes component void holds quote (c ∷ cs) (found_in (Some c) line around last rest)
  in_inner quote x.CodeLead line around last rest cs e here = in_code_lead component void holds quote rest cs here
  in_inner quote x.ShownLead line around last rest cs e here = in_shown_lead component void holds quote rest cs here
  in_inner quote x.Opening line around last rest cs e here = in_opening component void holds quote rest cs here
  in_inner quote (x.Name quotes) line around last rest cs e here = in_name component void holds quote quotes rest cs here
  in_inner quote (x.Chain quotes) line around last rest cs e here = in_chain component void holds quote quotes rest cs here
  in_inner quote x.Closing line around last rest cs e here = in_closing component void holds quote cs here
  in_inner quote (x.Bracket quotes false) line around last rest cs e here = in_bracket component void holds quote quotes around rest cs here
  in_inner quote _ line around last rest cs e here = absurd (false≢true e)

  pub value_goes : (quote : Option Quote) (cs : List Context) (line : Bool) (around : Option Around) (last : Option ℕ) (rest : List ℕ) → InValue component void holds quote cs
      → ValueGoes component void holds quote cs (found_in (innermost cs) line around last rest)
  value_goes quote _ line around last rest (base kind outer may all) = in_base quote kind line around last rest outer may all
  value_goes quote _ line around last rest (inner c cs e here) = in_inner quote c line around last rest cs e here
  value_goes quote _ line around last rest (in_brackets cs other here) = raw_in quote around rest cs other here (bracket_at None true around rest) (raw_goes around rest)
