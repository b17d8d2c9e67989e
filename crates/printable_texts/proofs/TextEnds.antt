-- Steps through a text that is the value of a parameter, and which text lies before its end.
use Rattle.std.proofs.Common.{◌≡◌, ℕ, zero, suc, ◌-◌, ◌≤◌, ◌<◌, Bool, true, false, List, [], ◌∷◌, ◌++◌, length, map, drop, Some, None, Ok, refl, ap, ◌∙◌, arith, length-append}
use Rattle.std.specs.Prelude.{◌==◌, ◌||◌, ◌&&◌, not, codes}
use Rattle.std.specs.declared.option.Option.{Option}
use Rattle.std.specs.List.{list_all}
use Rattle.std.proofs.Math.Seq.{drop-append_seam}
use Rattle.text_core.specs.declared.place.Place.{Place}
use Rattle.cs_token.specs.declared.around.Around.{Around}
use Rattle.cs_token.specs.declared.around.Around.TheVariants as around
use Rattle.cs_token.specs.declared.around.Opened.{Opened}
use Rattle.cs_token.specs.declared.token.Sign.{Sign}
use Rattle.cs_token.specs.declared.token.Sign.TheVariants as s
use Rattle.cs_token.specs.declared.token.TokenKind.{TokenKind}
use Rattle.cs_token.specs.declared.token.TokenKind.TheVariants as t
use Rattle.cs_token.specs.Lexemes.{Stands}
use Rattle.cs_token.specs.Places.{first_place}
use Rattle.cs_token.specs.Reading.Fronts.{Read, front_at}
use Rattle.cs_token.specs.Reading.Runs.{strip}
use Rattle.cs_token.specs.Spelling.{innermost, closed, with_brace, behind_sign, behind_kind}
use Rattle.cs_token.proofs.ExactLemmas.{front-again}
use Rattle.cs_token.proofs.FrontLengths.{stands-some}
use Rattle.razor_token.specs.declared.piece.Quote.{Quote}
use Rattle.razor_token.specs.declared.piece.Quote.TheVariants as q
use Rattle.razor_token.specs.CodeFronts.{mark, sign_of}
use Rattle.razor_token.specs.Cutting.{opened_behind}
use Rattle.razor_token.specs.Runs.{is_of, begins}
use Rattle.razor_token.specs.ValueFronts.{quoted_run}
use Rattle.razor_print.specs.ValueTexts.{outside, inside, depth_behind, ends_from}
use Rattle.razor_print.specs.ValueTexts as steps
use Rattle.printable_texts.proofs.FrontShrinks.{shorter}
use Rattle.printable_texts.proofs.TextSteps.{counts}

-- enough steps lead through the text
abbrev pub Ends : Quote → ℕ → List Opened → List ℕ → Type 0
Ends quote depth opened text = (n : ℕ) → length text ≤ n → ends_from quote n depth opened text ≡ true

pub ends_empty : (quote : Quote) (opened : List Opened) → Ends quote 0 opened []
ends_empty quote opened n less = refl

-- a step outside brackets
outside_step : (quote : Quote) (n : ℕ) (opened : List Opened) (c : ℕ) (text : List ℕ) (step : steps.Step) → outside quote opened (c ∷ text) ≡ Some step
    → ends_from quote n step.depth step.opened (drop step.count (c ∷ text)) ≡ true → ends_from quote (suc n) 0 opened (c ∷ text) ≡ true
outside_step quote n opened c text step e h =
    ap (λ (z : Option steps.Step). elim z [ None ↦ false | Some step ↦ ends_from quote n step.depth step.opened (drop step.count (c ∷ text)) ]) e ∙ h

two_steps : (quote : Quote) (opened : List Opened) (text : List ℕ) → outside quote opened (64 ∷ 64 ∷ text) ≡ Some (record { count = 2; depth = 0; opened = opened })
unfolding strip
two_steps q.Double opened text = refl
two_steps q.Single opened text = refl

bracket_step : (quote : Quote) (opened : List Opened) (text : List ℕ) → outside quote opened (64 ∷ 40 ∷ text) ≡ Some (record { count = 2; depth = 1; opened = opened })
unfolding strip
bracket_step q.Double opened text = refl
bracket_step q.Single opened text = refl

at_step : (quote : Quote) (opened : List Opened) (text : List ℕ) → begins (codes "@@") (64 ∷ text) ≡ false → begins (codes "@(") (64 ∷ text) ≡ false
    → outside quote opened (64 ∷ text) ≡ Some (record { count = 1; depth = 0; opened = opened })
unfolding strip
at_step q.Double opened text two bracket = rw (bracket, two) refl
at_step q.Single opened text two bracket = rw (bracket, two) refl

no_at : (a b : Bool) → not (a || b) ≡ true → (a ≡ false) × (b ≡ false)
no_at true b e = absurd (cc)
no_at false true e = absurd (cc)
no_at false false e = (refl, refl)

pub plain_marks : (quote : Quote) (c : ℕ) → is_of (quoted_run quote) c ≡ true → ((c == 64) ≡ false) × ((c == mark quote) ≡ false)
plain_marks q.Double c e = no_at (c == 64) (c == 34) e
plain_marks q.Single c e = no_at (c == 64) (c == 39) e

pub not_begun : (a c : ℕ) (front text : List ℕ) → (c == a) ≡ false → begins (a ∷ front) (c ∷ text) ≡ false
unfolding strip
not_begun a c front text e = rw e refl

plain_step : (quote : Quote) (opened : List Opened) (c : ℕ) (text : List ℕ) → is_of (quoted_run quote) c ≡ true → outside quote opened (c ∷ text) ≡ Some (record { count = 1; depth = 0; opened = opened })
plain_step quote opened c text e =
    let marks = plain_marks quote c e in
    rw (not_begun (mark quote) c [] text marks.1, not_begun 64 c (40 ∷ []) text marks.0, not_begun 64 c (64 ∷ []) text marks.0) refl

pub ends_two : (quote : Quote) (opened : List Opened) (text : List ℕ) → Ends quote 0 opened text → Ends quote 0 opened (64 ∷ 64 ∷ text)
ends_two quote opened text more zero less = absurd (omega (arith, less))
ends_two quote opened text more (suc n) less =
    let enough : length text ≤ n = omega (arith, less) in
    outside_step quote n opened 64 (64 ∷ text) (record { count = 2; depth = 0; opened = opened }) (two_steps quote opened text) (more n enough)

pub ends_bracket : (quote : Quote) (opened : List Opened) (text : List ℕ) → Ends quote 1 opened text → Ends quote 0 opened (64 ∷ 40 ∷ text)
ends_bracket quote opened text more zero less = absurd (omega (arith, less))
ends_bracket quote opened text more (suc n) less =
    let enough : length text ≤ n = omega (arith, less) in
    outside_step quote n opened 64 (40 ∷ text) (record { count = 2; depth = 1; opened = opened }) (bracket_step quote opened text) (more n enough)

pub ends_at : (quote : Quote) (opened : List Opened) (text : List ℕ) → begins (codes "@@") (64 ∷ text) ≡ false → begins (codes "@(") (64 ∷ text) ≡ false → Ends quote 0 opened text → Ends quote 0 opened (64 ∷ text)
ends_at quote opened text two bracket more zero less = absurd (omega (arith, less))
ends_at quote opened text two bracket more (suc n) less =
    let enough : length text ≤ n = omega (arith, less) in
    outside_step quote n opened 64 text (record { count = 1; depth = 0; opened = opened }) (at_step quote opened text two bracket) (more n enough)

pub first_plain : (quote : Quote) (c : ℕ) (x : List ℕ) → list_all (is_of (quoted_run quote)) (c ∷ x) ≡ true → (is_of (quoted_run quote) c ≡ true) × (list_all (is_of (quoted_run quote)) x ≡ true)
first_plain quote c x e = go (is_of (quoted_run quote) c) refl e
  where
    go : (b : Bool) → is_of (quoted_run quote) c ≡ b → (b && list_all (is_of (quoted_run quote)) x) ≡ true → (is_of (quoted_run quote) c ≡ true) × (list_all (is_of (quoted_run quote)) x ≡ true)
    go true is e = (is, e)
    go false is e = absurd (cc)

pub ends_plain : (quote : Quote) (opened : List Opened) (x text : List ℕ) → list_all (is_of (quoted_run quote)) x ≡ true → Ends quote 0 opened text → Ends quote 0 opened (x ++ text)
ends_plain quote opened [] text all more n less = more n less
ends_plain quote opened (c ∷ x) text all more zero less = absurd (omega (arith, less))
ends_plain quote opened (c ∷ x) text all more (suc n) less =
    let two = first_plain quote c x all in
    let enough : length (x ++ text) ≤ n = omega (arith, less) in
    outside_step quote n opened c (x ++ text) (record { count = 1; depth = 0; opened = opened }) (plain_step quote opened c (x ++ text) two.0) (ends_plain quote opened x text two.1 more n enough)

-- a step in brackets
inside_step : (quote : Quote) (n depth : ℕ) (opened : List Opened) (here text : List ℕ) (token : Option TokenKind) → 0 < length here → front_at (innermost opened) (here ++ text) ≡ Ok (token, text)
    → ends_from quote n (depth_behind (innermost opened) (sign_of token) (suc depth)) (behind_kind token first_place opened) text ≡ true → ends_from quote (suc n) (suc depth) opened (here ++ text) ≡ true
inside_step quote n depth opened [] text token some e h = absurd (omega (arith, some))
inside_step quote n depth opened (c ∷ x) text token some e h =
    let whole = c ∷ x ++ text in
    let behind_it : drop (length whole - length text) whole ≡ text = ap (λ k. drop k whole) (counts (c ∷ x) text) ∙ drop-append_seam (c ∷ x) text in
    ap (λ (z : Read). elim (inside (suc depth) opened whole z) [ None ↦ false | Some step ↦ ends_from quote n step.depth step.opened (drop step.count whole) ]) e
    ∙ ap (λ z. ends_from quote n (depth_behind (innermost opened) (sign_of token) (suc depth)) (behind_kind token first_place opened) z) behind_it ∙ h

pub ends_inside : (quote : Quote) (depth : ℕ) (opened : List Opened) (here text more : List ℕ) (token : Option TokenKind) → Stands (innermost opened) token here (text ++ more)
    → Ends quote (depth_behind (innermost opened) (sign_of token) (suc depth)) (behind_kind token first_place opened) text → Ends quote (suc depth) opened (here ++ text)
ends_inside quote depth opened here text more token stands later zero less =
    let some = stands-some (innermost opened) token here (text ++ more) stands in
    let long = simp length-append at less in
    absurd (omega (arith, long, some))
ends_inside quote depth opened here text more token stands later (suc n) less =
    let some = stands-some (innermost opened) token here (text ++ more) stands in
    let long = simp length-append at less in
    let enough : length text ≤ n = omega (arith, long, some) in
    inside_step quote n depth opened here text token some (front-again (innermost opened) token here text (shorter (innermost opened) token here text more stands)) (later n enough)

-- what is open of an interpolated text, without places
abbrev pub arounds : List Opened → List Around
arounds = map (λ o. o.around)

pub alike_innermost : (a b : List Opened) → arounds a ≡ arounds b → innermost a ≡ innermost b
alike_innermost [] [] e = refl
alike_innermost [] (o ∷ b) e = absurd (cc)
alike_innermost (o ∷ a) [] e = absurd (cc)
alike_innermost (o ∷ a) (i ∷ b) e = cc

alike_closed : (a b : List Opened) → arounds a ≡ arounds b → arounds (closed a) ≡ arounds (closed b)
alike_closed [] [] e = refl
alike_closed [] (o ∷ b) e = absurd (cc)
alike_closed (o ∷ a) [] e = absurd (cc)
alike_closed (o ∷ a) (i ∷ b) e = cc

alike_brace : (p q : Place) (a b : List Opened) → arounds a ≡ arounds b → arounds (with_brace p a) ≡ arounds (with_brace q b)
alike_brace p q [] [] e = refl
alike_brace p q [] (o ∷ b) e = absurd (cc)
alike_brace p q (o ∷ a) [] e = absurd (cc)
alike_brace p q (o ∷ a) (i ∷ b) e = ap (λ z. around.Braces ∷ z) e

alike_sign : (sign : Sign) (p q : Place) (a b : List Opened) → arounds a ≡ arounds b → arounds (behind_sign sign p a) ≡ arounds (behind_sign sign q b)
unfolding behind_sign
alike_sign s.InterpolationStart p q a b e = ap (λ z. around.Interpolation ∷ z) e
alike_sign s.InterpolationEnd p q a b e = alike_closed a b e
alike_sign s.HoleOpen p q a b e = ap (λ z. around.Hole ∷ z) e
alike_sign s.HoleClose p q a b e = alike_closed a b e
alike_sign s.OpenBrace p q a b e = alike_brace p q a b e
alike_sign s.CloseBrace p q a b e = alike_closed a b e
alike_sign _ p q a b e = e

pub alike_behind : (token : Option TokenKind) (p : Place) (a b : List Opened) → arounds a ≡ arounds b → arounds (opened_behind (sign_of token) p a) ≡ arounds (behind_kind token first_place b)
alike_behind None p a b e = e
alike_behind (Some (t.Sign sign)) p a b e = alike_sign sign p first_place a b e
alike_behind (Some _) p a b e = e
