-- The steps through a text that is the value of a parameter, where more text stands behind it.
use Rattle.std.proofs.Common.{◌≡◌, ℕ, zero, suc, ◌+◌, ◌-◌, ◌<◌, Bool, true, false, List, [], ◌∷◌, ◌++◌, length, drop, Some, None, Ok, Err, refl, sym, ap, ◌∙◌, subst, append_assoc, arith, length-append, eqb-true}
use Rattle.std.specs.declared.option.Option.{Option}
use Rattle.std.specs.Prelude.{◌==◌}
use Rattle.std.specs.List.{list_all}
use Rattle.std.proofs.lemmas.Bool.{false≢true}
use Rattle.std.proofs.Math.Seq.{drop-append_seam}
use Rattle.cs_token.specs.declared.around.Around.{Around}
use Rattle.cs_token.specs.declared.around.Opened.{Opened}
use Rattle.cs_token.specs.declared.token.Sign.{Sign}
use Rattle.cs_token.specs.declared.token.Sign.TheVariants as s
use Rattle.cs_token.specs.declared.token.TokenKind.{TokenKind}
use Rattle.cs_token.specs.declared.token.TokenKind.TheVariants as t
use Rattle.cs_token.specs.Lexemes.{Stands}
use Rattle.cs_token.specs.Places.{first_place}
use Rattle.cs_token.specs.Spelling.{innermost, behind_kind}
use Rattle.cs_token.specs.Reading.Fronts.{Read, front_at}
use Rattle.cs_token.specs.Reading.Runs.{strip}
use Rattle.cs_token.proofs.FrontLengths.{stands-some}
use Rattle.cs_token.proofs.SoundLemmas.{Sound, front-sound}
use Rattle.razor_token.specs.declared.piece.Quote.{Quote}
use Rattle.razor_token.specs.declared.piece.Quote.TheVariants as q
use Rattle.razor_token.specs.Runs.{is_of, run}
use Rattle.razor_token.specs.CodeFronts.{mark, sign_of, opens, closes}
use Rattle.razor_token.specs.ValueFronts.{quoted_run}
use Rattle.razor_print.specs.ValueTexts.{Step, outside, inside, depth_behind, ends_from}
use Rattle.printed_pieces.proofs.GoesLaws.{arounds, first, around_behind, same-first, same-behind}
use Rattle.printed_pieces.proofs.LiteralLaws.{both}
use Rattle.printed_pieces.proofs.MoreBehind.{Settled, closing, some, still, EndsPart, part-code, part-ends}

-- what is open of interpolated texts behind a token, white space or a comment
abbrev pub any_behind : Option TokenKind → List Around → List Around
any_behind None open_ones = open_ones
any_behind (Some kind) open_ones = around_behind kind open_ones

-- Such a text, where so many brackets and this of interpolated texts are open: outside brackets by its at signs and the runs between
-- them, in brackets by what C# finds there.
pub data Given (quote : Quote) (more : List ℕ) : ℕ → List Around → List ℕ → Type 0 where
  nothing : Given quote more zero [] []
  two : (text : List ℕ) → Given quote more zero [] text → Given quote more zero [] (64 ∷ 64 ∷ text)
  one : (c : ℕ) (text : List ℕ) → (c == 64) ≡ false → (c == 40) ≡ false → Given quote more zero [] (c ∷ text) → Given quote more zero [] (64 ∷ c ∷ text)
  last : Given quote more zero [] (64 ∷ [])
  plain : (c : ℕ) (front back : List ℕ) → is_of (quoted_run quote) c ≡ true → list_all (is_of (quoted_run quote)) front ≡ true → run (quoted_run quote) back ≡ 0 → Given quote more zero [] back
      → Given quote more zero [] (c ∷ (front ++ back))
  opening : (text : List ℕ) → Given quote more (suc zero) [] text → Given quote more zero [] (64 ∷ 40 ∷ text)
  code : (depth : ℕ) (open_ones : List Around) (kind : Option TokenKind) (front text : List ℕ) → Stands (first open_ones) kind front (text ++ more)
      → Given quote more (depth_behind (first open_ones) (sign_of kind) (suc depth)) (any_behind kind open_ones) text → Given quote more (suc depth) open_ones (front ++ text)

no-run : (quote : Quote) (text : List ℕ) → run (quoted_run quote) (64 ∷ text) ≡ 0
no-run q.Double text = refl
no-run q.Single text = refl

grow : (quote : Quote) (more : List ℕ) (c : ℕ) (text : List ℕ) → is_of (quoted_run quote) c ≡ true → Given quote more zero [] text → Given quote more zero [] (c ∷ text)
grow quote more c _ is nothing = plain c [] [] is refl refl nothing
grow quote more c _ is (two text v) = plain c [] (64 ∷ 64 ∷ text) is refl (no-run quote (64 ∷ text)) (two text v)
grow quote more c _ is (one d text e f v) = plain c [] (64 ∷ d ∷ text) is refl (no-run quote (d ∷ text)) (one d text e f v)
grow quote more c _ is last = plain c [] (64 ∷ []) is refl (no-run quote []) last
grow quote more c _ is (opening text v) = plain c [] (64 ∷ 40 ∷ text) is refl (no-run quote (40 ∷ text)) (opening text v)
grow quote more c _ is (plain d front back here all stops v) = plain c (d ∷ front) back is (both (is_of (quoted_run quote) d) (list_all (is_of (quoted_run quote)) front) here all) stops v

-- in brackets some text is left
inside-some : (quote : Quote) (more : List ℕ) (depth : ℕ) (open_ones : List Around) (text : List ℕ) → Given quote more (suc depth) open_ones text → 0 < length text
inside-some quote more _ _ _ (code depth open_ones kind front text stands later) =
    let long = length-append front text in
    let some_front = stands-some (first open_ones) kind front (text ++ more) stands in
    omega (arith, long, some_front)

-- behind what stands in brackets brackets are open, or the last of them is closed there
data Turns (around : Option Around) (sign : Option Sign) (depth : ℕ) : Type 0 where
  stays_in : (left : ℕ) → depth_behind around sign (suc depth) ≡ suc left → Turns around sign depth
  closes_one : (closing_sign : Sign) → around ≡ None → sign ≡ Some closing_sign → closes closing_sign ≡ true → Turns around sign depth

turns : (around : Option Around) (sign : Option Sign) (depth : ℕ) → Turns around sign depth
turns (Some a) sign depth = stays_in depth refl
turns None None depth = stays_in depth refl
turns None (Some sign) depth = by (opens sign) (closes sign) refl refl
  where
    by : (b c : Bool) → opens sign ≡ b → closes sign ≡ c → Turns None (Some sign) depth
    by true c e f = let one_more : suc depth + 1 ≡ suc (suc depth) = omega arith in stays_in (suc depth) (rw e one_more)
    by false true e f = closes_one sign refl refl f
    by false false e f = stays_in depth (rw (e, f) refl)

-- literal text of an interpolated text
abbrev is_literal : Option TokenKind → Bool
is_literal (Some (t.Part said)) = true
is_literal _ = false

settled-some : (kind : Option TokenKind) (rest more : List ℕ) → is_literal kind ≡ false → 0 < length rest → Settled kind rest more
settled-some (Some (t.Part said)) rest more e behind = absurd (false≢true (sym e))
settled-some (Some (t.Sign sign)) rest more e behind = some behind
settled-some None rest more e behind = behind
settled-some _ rest more e behind = behind

settled-closing : (kind : Option TokenKind) (sign : Sign) (rest more : List ℕ) → sign_of kind ≡ Some sign → closes sign ≡ true → Settled kind rest more
settled-closing (Some (t.Sign found)) sign rest more e is = let same : sign ≡ found = cc in closing (subst (λ z. closes z ≡ true) same is)
settled-closing None sign rest more e is = absurd (cc)
settled-closing _ sign rest more e is = absurd (cc)

no-sign : (around : Option Around) (depth : ℕ) → depth_behind around None depth ≡ depth
no-sign None depth = refl
no-sign (Some a) depth = refl

module _ (quote : Quote) (more : List ℕ) where
  settled-part : (depth : ℕ) (open_ones : List Around) (text said front : List ℕ) → Stands (first open_ones) (Some (t.Part said)) front text → Given quote more (suc depth) open_ones text → EndsPart (text ++ more)
  settled-part _ _ _ said body here (code depth open_ones kind front text stands later) =
      subst (λ z. EndsPart z) (sym (append_assoc front text more))
      (part-ends (first open_ones) said body (front ++ text) kind front text (text ++ more) (part-code (first open_ones) said body (front ++ text) here) here stands refl)

  -- what stands at the front here stands there before more text too
  settled : (depth : ℕ) (around : Option Around) (open_ones : List Around) (kind : Option TokenKind) (front text : List ℕ) → around ≡ first open_ones → Stands around kind front text
      → Given quote more (depth_behind around (sign_of kind) (suc depth)) (any_behind kind open_ones) text → Settled kind text more
  settled depth around open_ones (Some (t.Part said)) front text e stands later =
      settled-part depth open_ones text said front (subst (λ z. Stands z (Some (t.Part said)) front text) e stands) (subst (λ z. Given quote more z open_ones text) (no-sign around (suc depth)) later)
  settled depth around open_ones kind front text e stands later = by (is_literal kind) refl (turns around (sign_of kind) depth)
    where
      by : (b : Bool) → is_literal kind ≡ b → Turns around (sign_of kind) depth → Settled kind text more
      by true f turn = absurd (false≢true f)
      by false f (closes_one sign none is closing_sign) = settled-closing kind sign text more is closing_sign
      by false f (stays_in left depth_is) =
          settled-some kind text more f (inside-some quote more left (any_behind kind open_ones) text (subst (λ z. Given quote more z (any_behind kind open_ones) text) depth_is later))

  inside-step : (depth : ℕ) (around : Option Around) (open_ones : List Around) (kind : Option TokenKind) (front text : List ℕ) → around ≡ first open_ones → Stands around kind front text
      → Given quote more (depth_behind around (sign_of kind) (suc depth)) (any_behind kind open_ones) text → Given quote more (suc depth) open_ones (front ++ text)
  inside-step depth around open_ones kind front text e stands later =
      code depth open_ones kind front text (subst (λ z. Stands z kind front (text ++ more)) e (still around kind front text more stands (settled depth around open_ones kind front text e stands later)))
      (subst (λ z. Given quote more (depth_behind z (sign_of kind) (suc depth)) (any_behind kind open_ones) text) e later)

-- steps outside brackets

out-quote : (quote : Quote) (text : List ℕ) → outside quote [] (mark quote ∷ text) ≡ None
unfolding strip
out-quote q.Double text = refl
out-quote q.Single text = refl

out-two : (quote : Quote) (text : List ℕ) → outside quote [] (64 ∷ 64 ∷ text) ≡ Some (record { count = 2; depth = 0; opened = [] })
unfolding strip
out-two q.Double text = refl
out-two q.Single text = refl

out-opening : (quote : Quote) (text : List ℕ) → outside quote [] (64 ∷ 40 ∷ text) ≡ Some (record { count = 2; depth = 1; opened = [] })
unfolding strip
out-opening q.Double text = refl
out-opening q.Single text = refl

out-one : (quote : Quote) (c : ℕ) (text : List ℕ) → (c == 64) ≡ false → (c == 40) ≡ false → outside quote [] (64 ∷ c ∷ text) ≡ Some (record { count = 1; depth = 0; opened = [] })
unfolding strip
out-one q.Double c text e f = rw (e, f) refl
out-one q.Single c text e f = rw (e, f) refl

out-last : (quote : Quote) → outside quote [] (64 ∷ []) ≡ Some (record { count = 1; depth = 0; opened = [] })
unfolding strip
out-last q.Double = refl
out-last q.Single = refl

out-plain : (quote : Quote) (c : ℕ) (text : List ℕ) → (c == 64) ≡ false → (c == mark quote) ≡ false → outside quote [] (c ∷ text) ≡ Some (record { count = 1; depth = 0; opened = [] })
unfolding strip
out-plain q.Double c text e f = rw (e, f) refl
out-plain q.Single c text e f = rw (e, f) refl

of-run : (quote : Quote) (c : ℕ) → (c == 64) ≡ false → (c == mark quote) ≡ false → is_of (quoted_run quote) c ≡ true
of-run q.Double c e f = rw (e, f) refl
of-run q.Single c e f = rw (e, f) refl

-- what a step comes to
abbrev behind_step : Quote → ℕ → List ℕ → Option Step → Bool
behind_step quote n text found = elim found [ None ↦ false | Some step ↦ ends_from quote n step.depth step.opened (drop step.count text) ]

-- where steps lead through the text, it is such a text
abbrev Goes_on : Quote → List ℕ → ℕ → Type 0
Goes_on quote more n = (depth : ℕ) (opened : List Opened) (text : List ℕ) → (depth ≡ 0 → arounds opened ≡ []) → ends_from quote n depth opened text ≡ true → Given quote more depth (arounds opened) text

module _ (quote : Quote) (more : List ℕ) (n : ℕ) (goes_on : Goes_on quote more n) where
  outer : (text : List ℕ) → ends_from quote n zero [] text ≡ true → Given quote more zero [] text
  outer text h = goes_on zero [] text (λ e. refl) h

  leads : (c : ℕ) (text : List ℕ) (found : Option Step) → ends_from quote (suc n) zero [] (c ∷ text) ≡ true → outside quote [] (c ∷ text) ≡ found → behind_step quote n (c ∷ text) found ≡ true
  leads c text found h e = subst (λ z. behind_step quote n (c ∷ text) z ≡ true) e h

  behind-at : (text : List ℕ) → ends_from quote (suc n) zero [] (64 ∷ text) ≡ true → Given quote more zero [] (64 ∷ text)
  behind-at [] h = last
  behind-at (c ∷ text) h = by (c == 64) (c == 40) refl refl
    where
      by : (a b : Bool) → (c == 64) ≡ a → (c == 40) ≡ b → Given quote more zero [] (64 ∷ c ∷ text)
      by true b e f =
          let same = eqb-true c 64 e in
          subst (λ z. Given quote more zero [] (64 ∷ z ∷ text)) (sym same)
          (two text (outer text (leads 64 (64 ∷ text) (Some (record { count = 2; depth = 0; opened = [] })) (subst (λ z. ends_from quote (suc n) zero [] (64 ∷ z ∷ text) ≡ true) same h) (out-two quote text))))
      by false true e f =
          let same = eqb-true c 40 f in
          subst (λ z. Given quote more zero [] (64 ∷ z ∷ text)) (sym same)
          (opening text (goes_on (suc zero) [] text (λ z. refl) (leads 64 (40 ∷ text) (Some (record { count = 2; depth = 1; opened = [] })) (subst (λ z. ends_from quote (suc n) zero [] (64 ∷ z ∷ text) ≡ true) same h) (out-opening quote text))))
      by false false e f = one c text e f (outer (c ∷ text) (leads 64 (c ∷ text) (Some (record { count = 1; depth = 0; opened = [] })) h (out-one quote c text e f)))

  outside-given : (c : ℕ) (text : List ℕ) → ends_from quote (suc n) zero [] (c ∷ text) ≡ true → Given quote more zero [] (c ∷ text)
  outside-given c text h = by (c == 64) (c == mark quote) refl refl
    where
      by : (a b : Bool) → (c == 64) ≡ a → (c == mark quote) ≡ b → Given quote more zero [] (c ∷ text)
      by true b e f =
          let same = eqb-true c 64 e in
          subst (λ z. Given quote more zero [] (z ∷ text)) (sym same) (behind-at text (subst (λ z. ends_from quote (suc n) zero [] (z ∷ text) ≡ true) same h))
      by false true e f =
          let same = eqb-true c (mark quote) f in
          absurd (false≢true (leads (mark quote) text None (subst (λ z. ends_from quote (suc n) zero [] (z ∷ text) ≡ true) same h) (out-quote quote text)))
      by false false e f = grow quote more c text (of-run quote c e f) (outer text (leads c text (Some (record { count = 1; depth = 0; opened = [] })) h (out-plain quote c text e f)))

  closed : (sign : Sign) → closes sign ≡ true → around_behind (t.Sign sign) [] ≡ []
  unfolding closes
  closed s.InterpolationStart e = absurd (false≢true e)
  closed s.HoleOpen e = absurd (false≢true e)
  closed _ e = refl

  -- behind the last bracket nothing of an interpolated text is open
  nothing-open : (depth : ℕ) (opened : List Opened) (kind : Option TokenKind) → depth_behind (innermost opened) (sign_of kind) (suc depth) ≡ 0 → arounds (behind_kind kind first_place opened) ≡ []
  nothing-open depth opened kind none = by opened kind (turns (innermost opened) (sign_of kind) depth) none
    where
      of_kind : (kind : Option TokenKind) (sign : Sign) → sign_of kind ≡ Some sign → closes sign ≡ true → arounds (behind_kind kind first_place []) ≡ []
      of_kind (Some (t.Sign found)) sign e is =
          let same : sign ≡ found = cc in
          same-behind (t.Sign found) first_place [] ∙ closed found (subst (λ z. closes z ≡ true) same is)
      of_kind None sign e is = absurd (cc)
      of_kind _ sign e is = absurd (cc)

      by : (opened : List Opened) (kind : Option TokenKind) → Turns (innermost opened) (sign_of kind) depth → depth_behind (innermost opened) (sign_of kind) (suc depth) ≡ 0 → arounds (behind_kind kind first_place opened) ≡ []
      by opened kind (stays_in left e) none = absurd (omega (arith, sym e ∙ none))
      by [] kind (closes_one sign e is closing_sign) none = of_kind kind sign is closing_sign
      by (o ∷ opened) kind (closes_one sign e is closing_sign) none = absurd (cc)

  same-any : (kind : Option TokenKind) (opened : List Opened) → arounds (behind_kind kind first_place opened) ≡ any_behind kind (arounds opened)
  same-any None opened = refl
  same-any (Some kind) opened = same-behind kind first_place opened

  inside-given : (depth : ℕ) (opened : List Opened) (c : ℕ) (text : List ℕ) → ends_from quote (suc n) (suc depth) opened (c ∷ text) ≡ true → Given quote more (suc depth) (arounds opened) (c ∷ text)
  inside-given depth opened c text h = by (front_at (innermost opened) (c ∷ text)) (front-sound (innermost opened) (c ∷ text) (omega arith)) h
    where
      by : (found : Read) → Sound (innermost opened) (c ∷ text) found → behind_step quote n (c ∷ text) (inside (suc depth) opened (c ∷ text) found) ≡ true → Given quote more (suc depth) (arounds opened) (c ∷ text)
      by (Err wrong) sound h = absurd (false≢true h)
      by (Ok front) sound h =
          let around = innermost opened in
          let behind = behind_kind front.0 first_place opened in
          let depth_is = depth_behind around (sign_of front.0) (suc depth) in
          let long = length-append sound.here front.1 in
          let whole = ap length sound.laid in
          let count : length (c ∷ text) - length front.1 ≡ length sound.here = omega (arith, long, whole) in
          let rest_is : drop (length (c ∷ text) - length front.1) (c ∷ text) ≡ front.1 = ap (λ z. drop z (c ∷ text)) count ∙ ap (λ z. drop (length sound.here) z) sound.laid ∙ drop-append_seam sound.here front.1 in
          let later = goes_on depth_is behind front.1 (nothing-open depth opened front.0) (subst (λ z. ends_from quote n depth_is behind z ≡ true) rest_is h) in
          subst (λ z. Given quote more (suc depth) (arounds opened) z) (sym sound.laid)
          (inside-step quote more depth around (arounds opened) front.0 sound.here front.1 (sym (same-first opened)) sound.stands
          (subst (λ z. Given quote more depth_is z front.1) (same-any front.0 opened) later))

no-open : (opened : List Opened) → arounds opened ≡ [] → opened ≡ []
no-open [] e = refl
no-open (o ∷ opened) e = absurd (cc)

pub given : (quote : Quote) (more : List ℕ) (n : ℕ) → Goes_on quote more n
given quote more n zero opened [] none h = subst (λ z. Given quote more zero z []) (sym (none refl)) nothing
given quote more n (suc depth) opened [] none h = absurd (omega (arith, eqb-true (suc depth) 0 h))
given quote more zero depth opened (c ∷ text) none h = absurd (false≢true h)
given quote more (suc n) zero opened (c ∷ text) none h =
    let nothing_open = no-open opened (none refl) in
    subst (λ z. Given quote more zero (arounds z) (c ∷ text)) (sym nothing_open)
    (outside-given quote more n (λ d o x none so. given quote more n d o x none so) c text (subst (λ z. ends_from quote (suc n) zero z (c ∷ text) ≡ true) nothing_open h))
given quote more (suc n) (suc depth) opened (c ∷ text) none h = inside-given quote more n (λ d o x none so. given quote more n d o x none so) depth opened c text h
