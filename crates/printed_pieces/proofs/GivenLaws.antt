-- The text of a parameter is cut into pieces that say it.
use Rattle.std.proofs.Common.{◌≡◌, ℕ, zero, suc, Bool, true, false, List, [], ◌∷◌, ◌++◌, length, Some, None, refl, sym, ap, ◌∙◌, subst, append_assoc, append-nil, arith}
use Rattle.std.specs.declared.option.Option.{Option}
use Rattle.std.specs.Prelude.{◌+◌, ◌==◌}
use Rattle.std.specs.List.{list_all}
use Rattle.cs_token.specs.declared.around.Around.{Around}
use Rattle.cs_token.specs.declared.around.Opened.{Opened}
use Rattle.cs_token.specs.declared.token.TokenKind.{TokenKind}
use Rattle.cs_token.specs.Lexemes.{Stands}
use Rattle.cs_token.specs.Places.{place_after}
use Rattle.cs_token.specs.Reading.Runs.{strip}
use Rattle.cs_token.specs.Spelling.{innermost, behind_kind}
use Rattle.text_core.specs.declared.place.Place.{Place}
use Rattle.razor_token.specs.declared.context.Context.{Context}
use Rattle.razor_token.specs.declared.context.Context.TheVariants as x
use Rattle.razor_token.specs.declared.context.Held.TheVariants as held
use Rattle.razor_token.specs.declared.piece.PieceKind.TheVariants as k
use Rattle.razor_token.specs.declared.piece.Quote.{Quote}
use Rattle.razor_token.specs.declared.piece.Quote.TheVariants as q
use Rattle.razor_token.specs.declared.runs.RunKind.{RunKind}
use Rattle.razor_token.specs.Runs.{is_of, run}
use Rattle.razor_token.specs.CodeFronts.{mark, sign_of}
use Rattle.razor_token.specs.ValueFronts.{quoted_run, text_at}
use Rattle.razor_token.specs.Contexts.{stays, enters}
use Rattle.razor_token.specs.Pieces.{piece, literal}
use Rattle.razor_print.specs.ValueTexts.{depth_behind, stands_in}
use Rattle.printed_pieces.specs.Cut.{within, between}
use Rattle.printed_pieces.proofs.WalkLaws.{step-found}
use Rattle.printed_pieces.proofs.GoesLaws.{arounds, first, same-first, same-behind}
use Rattle.printed_pieces.proofs.LiteralLaws.{Saying, saying-one, saying-join, saying-nothing, run-front, some-literal, both}
use Rattle.printed_pieces.proofs.ValueLaws.{text-plain, mark-ends}
use Rattle.printed_pieces.proofs.RawBrackets.{raws, raw-step}
use Rattle.printed_pieces.proofs.ValueSteps.{Given, nothing, two, one, last, plain, opening, code, any_behind, given}

-- what stands at the front

two-found : (quote : Quote) (rest : List ℕ) → text_at quote (64 ∷ 64 ∷ rest) ≡ piece (k.Literal (64 ∷ 64 ∷ [])) 2 stays
unfolding text_at strip
two-found q.Double rest = refl
two-found q.Single rest = refl

opening-found : (quote : Quote) (rest : List ℕ) → text_at quote (64 ∷ 40 ∷ rest) ≡ piece (k.Literal (64 ∷ 40 ∷ [])) 2 (enters (x.Bracket None true))
unfolding text_at strip
opening-found q.Double rest = refl
opening-found q.Single rest = refl

one-found : (quote : Quote) (c : ℕ) (rest : List ℕ) → (c == 64) ≡ false → (c == 40) ≡ false → text_at quote (64 ∷ c ∷ rest) ≡ piece (k.Literal (64 ∷ [])) 1 stays
unfolding text_at strip
one-found q.Double c rest e f = rw (e, f) refl
one-found q.Single c rest e f = rw (e, f) refl

last-found : (quote : Quote) (rest : List ℕ) → text_at quote (64 ∷ mark quote ∷ rest) ≡ piece (k.Literal (64 ∷ [])) 1 stays
last-found q.Double rest = one-found q.Double 34 rest refl refl
last-found q.Single rest = one-found q.Single 39 rest refl refl

stops-behind : (kind : RunKind) (back rest : List ℕ) → run kind back ≡ 0 → run kind rest ≡ 0 → run kind (back ++ rest) ≡ 0
stops-behind kind [] rest here later = later
stops-behind kind (c ∷ back) rest here later = go (is_of kind c) refl
  where
    some : run kind back + 1 ≡ 0 → ⊥
    some e = absurd (omega (arith, e))

    go : (b : Bool) → is_of kind c ≡ b → run kind (c ∷ (back ++ rest)) ≡ 0
    go true e = absurd (some (rw e at here))
    go false e = rw e refl

-- what holds where nothing of an interpolated text is open
closed : (P : List Opened → Type 0) (opened : List Opened) → arounds opened ≡ [] → P [] → P opened
closed P [] e is = is
closed P (o ∷ opened) e is = absurd (cc)

any-opened : (kind : Option TokenKind) (place : Place) (opened : List Opened) (open_ones : List Around) → arounds opened ≡ open_ones → arounds (behind_kind kind place opened) ≡ any_behind kind open_ones
any-opened None place opened open_ones e = e
any-opened (Some kind) place opened open_ones e = same-behind kind place opened ∙ ap (λ z. any_behind (Some kind) z) e

module _ (cs : List Context) (quote : Quote) (rest : List ℕ) where
  -- in the value
  abbrev value : List Context
  value = x.Value held.Text (Some quote) ∷ cs

  -- the text is said from here to the quote behind it
  abbrev Said : ℕ → List Opened → List ℕ → List ℕ → Type 0
  Said depth opened text before =
      Saying (within (raws depth value) opened before (text ++ mark quote ∷ rest)) text (between value (before ++ text) (mark quote ∷ rest))

  -- a front of the text, and the others
  said-behind : (depth next : ℕ) (opened behind : List Opened) (front text before : List ℕ)
      → Saying (within (raws depth value) opened before (front ++ (text ++ mark quote ∷ rest))) front (within (raws next value) behind (before ++ front) (text ++ mark quote ∷ rest))
      → Said next behind text (before ++ front) → Said depth opened (front ++ text) before
  said-behind depth next opened behind front text before here others =
      subst (λ z. Saying (within (raws depth value) opened before z) (front ++ text) (between value (before ++ (front ++ text)) (mark quote ∷ rest))) (sym (append_assoc front text (mark quote ∷ rest)))
      (subst (λ z. Saying (within (raws depth value) opened before (front ++ (text ++ mark quote ∷ rest))) (front ++ text) (between value z (mark quote ∷ rest))) (append_assoc before front text)
      (saying-join _ _ _ front text here others))

  given-parts : (depth : ℕ) (open_ones : List Around) (text : List ℕ) → Given quote (mark quote ∷ rest) depth open_ones text → (opened : List Opened) → arounds opened ≡ open_ones → (before : List ℕ) → Said depth opened text before
  given-parts _ _ _ nothing opened e before =
      closed (λ z. Said zero z [] before) opened e
      (subst (λ z. Saying (between value before (mark quote ∷ rest)) [] (between value z (mark quote ∷ rest))) (sym (append-nil before)) (saying-nothing _))
  given-parts _ _ _ (two text v) opened e before =
      closed (λ z. Said zero z (64 ∷ 64 ∷ text) before) opened e
      (said-behind zero zero [] [] (64 ∷ 64 ∷ []) text before
      (saying-one _ _ (64 ∷ 64 ∷ []) (step-found value [] before (64 ∷ 64 ∷ []) (text ++ mark quote ∷ rest) (k.Literal (64 ∷ 64 ∷ [])) stays (two-found quote (text ++ mark quote ∷ rest)) refl))
      (given-parts zero [] text v [] refl (before ++ 64 ∷ 64 ∷ [])))
  given-parts _ _ _ (one c text f g v) opened e before =
      closed (λ z. Said zero z (64 ∷ c ∷ text) before) opened e
      (said-behind zero zero [] [] (64 ∷ []) (c ∷ text) before
      (saying-one _ _ (64 ∷ []) (step-found value [] before (64 ∷ []) (c ∷ (text ++ mark quote ∷ rest)) (k.Literal (64 ∷ [])) stays (one-found quote c (text ++ mark quote ∷ rest) f g) refl))
      (given-parts zero [] (c ∷ text) v [] refl (before ++ 64 ∷ [])))
  given-parts _ _ _ last opened e before =
      closed (λ z. Said zero z (64 ∷ []) before) opened e
      (saying-one _ _ (64 ∷ []) (step-found value [] before (64 ∷ []) (mark quote ∷ rest) (k.Literal (64 ∷ [])) stays (last-found quote rest) refl))
  given-parts _ _ _ (plain c front back is all stops v) opened e before =
      let more = back ++ mark quote ∷ rest in
      let ends = stops-behind (quoted_run quote) back (mark quote ∷ rest) stops (mark-ends quote rest) in
      let found = text-plain quote c (front ++ more) is
      ∙ ap (λ n. literal n ((c ∷ front) ++ more)) (run-front (quoted_run quote) (c ∷ front) more (both (is_of (quoted_run quote) c) (list_all (is_of (quoted_run quote)) front) is all) ends) ∙ some-literal c front more in
      closed (λ z. Said zero z ((c ∷ front) ++ back) before) opened e
      (said-behind zero zero [] [] (c ∷ front) back before (saying-one _ _ (c ∷ front) (step-found value [] before (c ∷ front) more (k.Literal (c ∷ front)) stays found refl))
      (given-parts zero [] back v [] refl (before ++ (c ∷ front))))
  given-parts _ _ _ (opening text v) opened e before =
      closed (λ z. Said zero z (64 ∷ 40 ∷ text) before) opened e
      (said-behind zero (suc zero) [] [] (64 ∷ 40 ∷ []) text before
      (saying-one _ _ (64 ∷ 40 ∷ []) (step-found value [] before (64 ∷ 40 ∷ []) (text ++ mark quote ∷ rest) (k.Literal (64 ∷ 40 ∷ [])) (enters (x.Bracket None true)) (opening-found quote (text ++ mark quote ∷ rest)) refl))
      (given-parts (suc zero) [] text v [] refl (before ++ 64 ∷ 40 ∷ [])))
  given-parts _ _ _ (code depth open_ones kind front text stands v) opened e before =
      let around_is : first open_ones ≡ innermost opened = sym (ap first e) ∙ same-first opened in
      let behind = behind_kind kind (place_after before) opened in
      let here = raw-step depth value opened before front (text ++ mark quote ∷ rest) kind (subst (λ z. Stands z kind front (text ++ mark quote ∷ rest)) around_is stands) in
      let others = given-parts (depth_behind (first open_ones) (sign_of kind) (suc depth)) (any_behind kind open_ones) text v behind (any-opened kind (place_after before) opened open_ones e) (before ++ front) in
      said-behind (suc depth) (depth_behind (innermost opened) (sign_of kind) (suc depth)) opened behind front text before here
      (subst (λ z. Said (depth_behind z (sign_of kind) (suc depth)) behind text (before ++ front)) around_is others)

  pub given-saying : (text : List ℕ) → stands_in quote text ≡ true → (before : List ℕ)
      → Saying (between (x.Value held.Text (Some quote) ∷ cs) before (text ++ mark quote ∷ rest)) text (between (x.Value held.Text (Some quote) ∷ cs) (before ++ text) (mark quote ∷ rest))
  unfolding stands_in
  given-saying text h before = given-parts zero [] text (given quote (mark quote ∷ rest) (length text) zero [] text (λ e. refl) h) [] refl before
