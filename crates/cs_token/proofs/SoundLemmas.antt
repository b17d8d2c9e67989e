-- What was read at the front of a text stands there, or is wrong there.
use Rattle.std.proofs.Common.{◌≡◌, ◌≢◌, ◌⊎◌, ℕ, ◌<◌, true, false, cond, List, [], ◌∷◌, ◌++◌, length, Some, None, Ok, Err, refl, ap, sym, ◌∙◌, subst, arith, eqb, inl, inr, append_assoc}
use Rattle.std.specs.declared.option.Option.{Option}
use Rattle.std.specs.Prelude.{ℤ, ◌&&◌, is_some, codes}
use Rattle.std.proofs.lemmas.Bool.{and_parts, cases_Bool, eqb-true, eqb-false, false≢true}
use Rattle.text_core.specs.Decimal.{i32_of}
use Rattle.cs_token.specs.declared.around.Around.{Around}
use Rattle.cs_token.specs.declared.around.Around.TheVariants as open_
use Rattle.cs_token.specs.declared.characters.Class.TheVariants as class
use Rattle.cs_token.specs.declared.fault.Cause.{Cause}
use Rattle.cs_token.specs.declared.fault.Cause.TheVariants as cause
use Rattle.cs_token.specs.declared.token.Sign.{Sign}
use Rattle.cs_token.specs.declared.token.Sign.TheVariants as s
use Rattle.cs_token.specs.declared.token.TokenKind.{TokenKind}
use Rattle.cs_token.specs.declared.token.TokenKind.TheVariants as k
use Rattle.cs_token.specs.declared.token.Word.{Word}
use Rattle.cs_token.specs.declared.written.Form.TheVariants.{Quoted, Part}
use Rattle.cs_token.specs.Characters.{is_in, AreAll, IsRun, IsName, begins_with}
use Rattle.cs_token.specs.Lexemes.{is_code, keeps_line, Stands, IsGap}
use Rattle.cs_token.specs.Lexemes as g
use Rattle.cs_token.specs.Wrong.{IsWrong}
use Rattle.cs_token.specs.Wrong as w
use Rattle.cs_token.specs.Signs.{mark}
use Rattle.cs_token.specs.Words.{spelling}
use Rattle.cs_token.specs.Written.{IsWritten, nothing, more, doubled}
use Rattle.cs_token.specs.Reading.Runs.{front, past, strip}
use Rattle.cs_token.specs.Reading.Signs.{sign_at}
use Rattle.cs_token.specs.Reading.Words.{word_of}
use Rattle.cs_token.specs.Reading.Written.{unit_at, said_at}
use Rattle.cs_token.specs.Reading.Fronts.{Read, behind, stopped_at, past_end, comment_at, text_at, part_at, name_kind, name_at, number_kind, digits_at, sign_in, sign_read, white_at, code_at, front_at}
use Rattle.cs_token.proofs.CharacterLemmas.{letter-is-word, neither-word, feed-white}
use Rattle.cs_token.proofs.CommentLemmas.{past_end-some, past_end-none, past_line-none}
use Rattle.cs_token.proofs.OptionLemmas.{some_none}
use Rattle.cs_token.proofs.RunLemmas.{front-past, AreAll-front, past-stops, strip-some, strip-none}
use Rattle.cs_token.proofs.SignLemmas.{sign_at-some, sign_at-none}
use Rattle.cs_token.proofs.WordLemmas.{word_of-some, word_of-none}
use Rattle.cs_token.proofs.WrittenLemmas.{unit_at-none, said_at-cut}

-- a token, white space or a comment stands first
pub record Found (around : Option Around) (text : List ℕ) (kind : Option TokenKind) (rest : List ℕ) : Type 0 where
  pub here : List ℕ
  pub laid : text ≡ here ++ rest
  pub stands : Stands around kind here rest

-- the text can't go on
pub record Failed (around : Option Around) (text : List ℕ) (cause : Cause) (from : List ℕ) : Type 0 where
  pub good : List ℕ
  pub laid : text ≡ good ++ from
  pub wrong : IsWrong around cause good from

-- what was read is so
abbrev pub Sound : Option Around → List ℕ → Read → Type 0
Sound around text (Ok found) = Found around text found.0 found.1
Sound around text (Err fault) = Failed around text fault.0 fault.1

behind-sound : (around : Option Around) (text : List ℕ) (o : Option (List ℕ)) (found : List ℕ → Read) (otherwise : Read) → ((rest : List ℕ) → o ≡ Some rest → Sound around text (found rest))
    → (o ≡ None → Sound around text otherwise) → Sound around text (behind o found otherwise)
behind-sound around text (Some rest) found otherwise there none = there rest refl
behind-sound around text None found otherwise there none = none refl

-- white space

feed-ends : (c : ℕ) → eqb c 10 ≡ true → is_in class.Inline c ≡ false
feed-ends c e = rw e refl

keeps : (around : Option Around) (c : ℕ) → (is_some around && eqb c 10) ≡ false → keeps_line around (c ∷ []) ≡ true
keeps (Some a) c e = rw e refl
keeps None c e = refl

white-sound : (around : Option Around) (text : List ℕ) → is_code around ≡ true → begins_with class.White text ≡ true → Sound around text (white_at (is_some around) text)
white-sound around [] code is = absurd (false≢true is)
white-sound around (c ∷ rest) code is = elim (cases_Bool (is_some around && eqb c 10)) [
  | inl ends ↦
      let parts = and_parts (is_some around) (eqb c 10) ends in
      rw ends (record { good = []; laid = refl; wrong = w.unended_line around (c ∷ rest) parts.0 (feed-ends c parts.1) })
  | inr goes_on ↦ rw goes_on (record { here = c ∷ []; laid = refl; stands = g.gap around (c ∷ []) rest code (g.white c rest is (keeps around c goes_on)) })
]

-- names, words and numbers

front-begins : (text : List ℕ) → begins_with class.Letter text ≡ true → begins_with class.Letter (front class.Word text) ≡ true
front-begins [] is = is
front-begins (c ∷ text) is = rw (letter-is-word c is) is

name-kind-sound : (around : Option Around) (text name rest : List ℕ) (o : Option Word) → word_of name ≡ o → is_code around ≡ true → IsName name → text ≡ name ++ rest → begins_with class.Word rest ≡ false
    → Sound around text (Ok (Some (name_kind o name), rest))
name-kind-sound around text name rest (Some word) e code is laid stops =
    record { here = spelling word; laid = laid ∙ ap (λ (x : List ℕ). x ++ rest) (word_of-some name word e); stands = g.word around word rest code stops }
name-kind-sound around text name rest None e code is laid stops =
    record { here = name; laid = laid; stands = g.name around name rest code is stops (word_of-none name e) }

name-sound : (around : Option Around) (text : List ℕ) → is_code around ≡ true → begins_with class.Letter text ≡ true → Sound around text (name_at text)
name-sound around text code is =
    name-kind-sound around text (front class.Word text) (past class.Word text) (word_of (front class.Word text)) refl code
    (record { begins = front-begins text is; all = AreAll-front class.Word text }) (sym (front-past class.Word text)) (past-stops class.Word text)

front-some : (text : List ℕ) → begins_with class.Digit text ≡ true → 0 < length (front class.Digit text)
front-some [] is = absurd (false≢true is)
front-some (c ∷ text) is = rw is (omega arith)

number-kind-sound : (around : Option Around) (text digits rest : List ℕ) (o : Option ℤ) → i32_of digits ≡ o → is_code around ≡ true → IsRun class.Digit digits → text ≡ digits ++ rest → begins_with class.Digit rest ≡ false
    → Sound around text (number_kind o text rest)
number-kind-sound around text digits rest (Some n) e code is laid stops =
    record { here = digits; laid = laid; stands = g.number around n digits rest code is stops e }
number-kind-sound around text digits rest None e code is laid stops =
    record { good = []; laid = refl; wrong = subst (λ (x : List ℕ). IsWrong around cause.NumberTooWide [] x) (sym laid) (w.too_wide around digits rest code is stops e) }

digits-sound : (around : Option Around) (text : List ℕ) → is_code around ≡ true → begins_with class.Digit text ≡ true → Sound around text (digits_at text)
digits-sound around text code is =
    number-kind-sound around text (front class.Digit text) (past class.Digit text) (i32_of (front class.Digit text)) refl code
    (record { some = front-some text is; all = AreAll-front class.Digit text }) (sym (front-past class.Digit text)) (past-stops class.Digit text)

-- texts

not_first : (d c : ℕ) (rest : List ℕ) → strip (d ∷ []) (c ∷ rest) ≡ None → c ≢ d
not_first d c rest none e = strip-none (d ∷ []) (c ∷ rest) none rest (ap (λ (x : ℕ). x ∷ rest) e)

inline-other : (c : ℕ) → is_in class.Inline c ≡ true → c ≢ 10
inline-other c is e = false≢true (rw e at is)

unclosed-sound : (around : Option Around) (text body said rest : List ℕ) → is_code around ≡ true → text ≡ 34 ∷ (body ++ rest) → IsWritten Quoted body said → unit_at Quoted rest ≡ None
    → strip (34 ∷ []) rest ≡ None → Sound around text (stopped_at text rest)
unclosed-sound around text body said [] code laid is stops unclosed =
    record { good = []; laid = refl; wrong = subst (λ (x : List ℕ). IsWrong around cause.UnendedText [] x) (sym laid) (w.unended_text around body said [] code is refl) }
unclosed-sound around text body said (c ∷ rest) code laid is stops unclosed = elim (cases_Bool (is_in class.Inline c)) [
  | inl inline ↦
      rw inline
      (record {
        good = 34 ∷ body;
        laid = laid;
        wrong = w.bad_escape around body said c rest code is (unit_at-none Quoted (c ∷ rest) stops) (not_first 34 c rest unclosed) (inline-other c inline);
      })
  | inr ends ↦
      rw ends
      (record { good = []; laid = refl; wrong = subst (λ (x : List ℕ). IsWrong around cause.UnendedText [] x) (sym laid) (w.unended_text around body said (c ∷ rest) code is ends) })
]

text-sound : (around : Option Around) (text body : List ℕ) → is_code around ≡ true → text ≡ 34 ∷ body → Sound around text (text_at text body)
text-sound around text body code laid =
    let cut = said_at-cut Quoted body in
    let whole : text ≡ 34 ∷ (cut.body ++ (said_at Quoted body).1) = laid ∙ ap (λ (x : List ℕ). 34 ∷ x) cut.laid in
    behind-sound around text (strip (34 ∷ []) (said_at Quoted body).1) (λ rest. Ok (Some (k.Text (said_at Quoted body).0), rest)) (stopped_at text (said_at Quoted body).1)
    (λ rest e. record {
      here = 34 ∷ (cut.body ++ 34 ∷ []);
      laid = whole ∙ ap (λ (x : List ℕ). 34 ∷ (cut.body ++ x)) (strip-some (34 ∷ []) _ rest e) ∙ ap (λ (x : List ℕ). 34 ∷ x) (sym (append_assoc cut.body (34 ∷ []) rest));
      stands = g.text around cut.body _ rest code cut.is;
    })
    (λ unclosed. unclosed-sound around text cut.body _ _ code whole cut.is cut.stops unclosed)

-- comments

not_in_line : (around : Option Around) → is_some around ≡ false → around ≡ None
not_in_line None e = refl
not_in_line (Some a) e = absurd (false≢true (sym e))

keeps-body : (around : Option Around) (body : List ℕ) → (is_some around ≡ true → AreAll class.Inline body) → keeps_line around body ≡ true
keeps-body None body line = refl
keeps-body (Some a) body line = line refl

comment-sound : (around : Option Around) (text body : List ℕ) → is_code around ≡ true → text ≡ codes "/*" ++ body → Sound around text (comment_at (is_some around) text body)
comment-sound around text body code laid =
    behind-sound around text (past_end (is_some around) body) (λ rest. Ok (None, rest)) (cond (is_some around) (Err (cause.UnendedText, text)) (Err (cause.UnendedComment, text)))
    (λ rest e.
    let cut = past_end-some (is_some around) body rest e in
    record {
      here = codes "/*" ++ (cut.body ++ codes "*/");
      laid = laid ∙ ap (λ (x : List ℕ). codes "/*" ++ x) (cut.laid ∙ sym (append_assoc cut.body (codes "*/") rest));
      stands = g.gap around _ rest code (g.block cut.body rest (keeps-body around cut.body cut.line) cut.first);
    })
    (λ none. elim (cases_Bool (is_some around)) [
      | inl line ↦
          let cut = past_line-none body (rw line at none) in
          let whole : text ≡ codes "/*" ++ (cut.body ++ cut.rest) = laid ∙ ap (λ (x : List ℕ). codes "/*" ++ x) cut.laid in
          rw line
          (record {
            good = [];
            laid = refl;
            wrong = subst (λ (x : List ℕ). IsWrong around cause.UnendedText [] x) (sym whole) (w.unended_line_in_comment around cut.body cut.rest code line cut.line cut.endless cut.ends);
          })
      | inr free ↦
          rw free
          (record {
            good = [];
            laid = refl;
            wrong = subst (λ (a : Option Around). IsWrong a cause.UnendedComment [] text) (sym (not_in_line around free))
                (subst (λ (x : List ℕ). IsWrong None cause.UnendedComment [] x) (sym laid) (w.unended_comment body (past_end-none body (rw free at none))));
          })
    ])

-- signs

braces : {A : Type 0} → Some open_.Braces ≡ Some open_.Hole → A
braces e = absurd (cc)

hole-cases : (sign : Sign) → (sign ≡ s.CloseBrace) ⊎ ((sign_in (Some open_.Hole) sign ≡ sign) × (sign ≢ s.CloseBrace))
hole-cases s.CloseBrace = inl refl
hole-cases _ = inr (refl, λ e. cc)

in-hole : (sign : Sign) (text rest : List ℕ) → text ≡ mark sign ++ rest → g.IsLongest sign rest → Found (Some open_.Hole) text (Some (k.Sign (sign_in (Some open_.Hole) sign))) rest
unfolding mark
in-hole sign text rest laid longest = elim (hole-cases sign) [
  | inl close ↦ rw close (record { here = mark s.HoleClose; laid = laid ∙ ap (λ (x : Sign). mark x ++ rest) close; stands = g.hole_close rest })
  | inr other ↦ rw other.0 (record { here = mark sign; laid = laid; stands = g.sign (Some open_.Hole) sign rest refl longest (λ hole. other.1) })
]

meant-sound : (around : Option Around) (sign : Sign) (text rest : List ℕ) → is_code around ≡ true → text ≡ mark sign ++ rest → g.IsLongest sign rest → Found around text (Some (k.Sign (sign_in around sign))) rest
meant-sound None sign text rest code laid longest =
    record { here = mark sign; laid = laid; stands = g.sign None sign rest code longest (λ hole. absurd (some_none open_.Hole (sym hole))) }
meant-sound (Some open_.Interpolation) sign text rest code laid longest = absurd (false≢true code)
meant-sound (Some open_.Hole) sign text rest code laid longest = in-hole sign text rest laid longest
meant-sound (Some open_.Braces) sign text rest code laid longest =
    record { here = mark sign; laid = laid; stands = g.sign (Some open_.Braces) sign rest code longest (λ hole. braces hole) }

sign-some-sound : (around : Option Around) (text : List ℕ) (sign : Sign) → is_code around ≡ true → sign_at text ≡ Some sign → strip (codes "//") text ≡ None → strip (codes "/*") text ≡ None
    → Sound around text (sign_read around text (Some sign))
sign-some-sound around text sign code e line block =
    let cut = sign_at-some text sign e in
    let laid : text ≡ mark sign ++ cut.rest = strip-some (mark sign) text cut.rest cut.front in
    rw cut.front
    (meant-sound around sign text cut.rest code laid (record {
      of_code = cut.of_code;
      longest = λ other more of_code same. cut.longest other more of_code (laid ∙ same);
      no_line = λ more same. strip-none (codes "//") text line more (laid ∙ same);
      no_block = λ more same. strip-none (codes "/*") text block more (laid ∙ same);
    }))

unknown-sound : (around : Option Around) (text : List ℕ) → is_code around ≡ true → 0 < length text → begins_with class.White text ≡ false → begins_with class.Letter text ≡ false → begins_with class.Digit text ≡ false
    → strip (34 ∷ []) text ≡ None → sign_at text ≡ None → Sound around text (stopped_at text text)
unknown-sound around [] code some white letter digit quote none = absurd (omega arith)
unknown-sound around (c ∷ rest) code some white letter digit quote none = elim (cases_Bool (is_in class.Inline c)) [
  | inl inline ↦
      rw inline
      (record {
        good = [];
        laid = refl;
        wrong = w.bad_character around c rest code white (neither-word c letter digit) (not_first 34 c rest quote) (sign_at-none (c ∷ rest) none);
      })
  | inr feed ↦ absurd (false≢true (sym white ∙ feed-white c feed))
]

sign-sound : (around : Option Around) (text : List ℕ) (o : Option Sign) → sign_at text ≡ o → is_code around ≡ true → 0 < length text → begins_with class.White text ≡ false → begins_with class.Letter text ≡ false
    → begins_with class.Digit text ≡ false → strip (34 ∷ []) text ≡ None → strip (codes "//") text ≡ None → strip (codes "/*") text ≡ None → Sound around text (sign_read around text o)
sign-sound around text (Some sign) e code some white letter digit quote line block = sign-some-sound around text sign code e line block
sign-sound around text None e code some white letter digit quote line block = unknown-sound around text code some white letter digit quote e

-- code

code-sound : (around : Option Around) (text : List ℕ) → is_code around ≡ true → 0 < length text → Sound around text (code_at around text)
unfolding code_at
code-sound around text code some = elim (cases_Bool (begins_with class.White text)) [
  | inl white ↦ rw white (white-sound around text code white)
  | inr dense ↦ elim (cases_Bool (begins_with class.Letter text)) [
    | inl letter ↦ rw (dense, letter) (name-sound around text code letter)
    | inr nameless ↦ elim (cases_Bool (begins_with class.Digit text)) [
      | inl digit ↦ rw (dense, nameless, digit) (digits-sound around text code digit)
      | inr numberless ↦
          rw (dense, nameless, numberless)
          (behind-sound around text (strip (34 ∷ []) text) (text_at text) _ (λ body e. text-sound around text body code (strip-some (34 ∷ []) text body e))
          (λ quote. behind-sound around text (strip (codes "//") text) (λ body. Ok (None, past class.Inline body)) _
          (λ body e. record {
            here = codes "//" ++ front class.Inline body;
            laid = strip-some (codes "//") text body e ∙ ap (λ (x : List ℕ). codes "//" ++ x) (sym (front-past class.Inline body));
            stands = g.gap around _ _ code (g.line (front class.Inline body) (past class.Inline body) (AreAll-front class.Inline body) (past-stops class.Inline body));
          })
          (λ line. behind-sound around text (strip (codes "/*") text) (comment_at (is_some around) text) _
          (λ body e. comment-sound around text body code (strip-some (codes "/*") text body e))
          (λ block. sign-sound around text (sign_at text) refl code some dense nameless numberless quote line block))))
    ]
  ]
]

-- the literal text of an interpolated text

stuck-sound : (rest : List ℕ) → unit_at Part rest ≡ None → strip (34 ∷ []) rest ≡ None → strip (123 ∷ []) rest ≡ None → Sound (Some open_.Interpolation) rest (stopped_at rest rest)
stuck-sound [] stops quote brace = record { good = []; laid = refl; wrong = w.unended_line (Some open_.Interpolation) [] refl refl }
stuck-sound (c ∷ rest) stops quote brace = elim (cases_Bool (is_in class.Inline c)) [
  | inl inline ↦
      rw inline
      (record {
        good = [];
        laid = refl;
        wrong = w.bad_part c rest (unit_at-none Part (c ∷ rest) stops) (not_first 34 c rest quote) (inline-other c inline) (not_first 123 c rest brace);
      })
  | inr ends ↦ rw ends (record { good = []; laid = refl; wrong = w.unended_line (Some open_.Interpolation) (c ∷ rest) refl ends })
]

single : (text rest : List ℕ) → unit_at Part text ≡ None → text ≡ 123 ∷ rest → (next : List ℕ) → rest ≢ codes "{" ++ next
single text rest stops laid next e = unit_at-none Part text stops (123 ∷ 123 ∷ []) next 123 (doubled 123 refl) (laid ∙ ap (λ (x : List ℕ). 123 ∷ x) e)

bound-sound : (rest : List ℕ) → unit_at Part rest ≡ None
    → Sound (Some open_.Interpolation) rest (behind (strip (34 ∷ []) rest) (λ after. Ok (Some (k.Sign s.InterpolationEnd), after)) (behind (strip (123 ∷ []) rest) (λ after. Ok (Some (k.Sign s.HoleOpen), after)) (stopped_at rest rest)))
unfolding mark
bound-sound rest stops =
    behind-sound (Some open_.Interpolation) rest (strip (34 ∷ []) rest) (λ after. Ok (Some (k.Sign s.InterpolationEnd), after)) _
    (λ after e. record { here = 34 ∷ []; laid = strip-some (34 ∷ []) rest after e; stands = g.interpolation_end after })
    (λ quote. behind-sound (Some open_.Interpolation) rest (strip (123 ∷ []) rest) (λ after. Ok (Some (k.Sign s.HoleOpen), after)) _
    (λ after e.
    let laid : rest ≡ 123 ∷ after = strip-some (123 ∷ []) rest after e in
    record { here = 123 ∷ []; laid = laid; stands = g.hole_open after (single rest after stops laid) })
    (λ brace. stuck-sound rest stops quote brace))

said-nothing : (body said : List ℕ) → IsWritten Part body said → length said ≡ 0 → body ≡ []
said-nothing _ _ nothing e = refl
said-nothing _ _ (more unit text said c is written) e = absurd (omega arith)

part-sound : (text : List ℕ) → Sound (Some open_.Interpolation) text (part_at text)
unfolding part_at
part-sound text =
    let cut = said_at-cut Part text in
    elim (cases_Bool (eqb (length (said_at Part text).0) 0)) [
      | inl none ↦
          let body : cut.body ≡ [] = said-nothing cut.body _ cut.is (eqb-true _ _ none) in
          let laid : text ≡ (said_at Part text).1 = cut.laid ∙ ap (λ (x : List ℕ). x ++ (said_at Part text).1) body in
          rw none
          (subst (λ (x : List ℕ). Sound (Some open_.Interpolation) x (behind (strip (34 ∷ []) (said_at Part text).1) (λ after. Ok (Some (k.Sign s.InterpolationEnd), after)) (behind (strip (123 ∷ []) (said_at Part text).1) (λ after. Ok (Some (k.Sign s.HoleOpen), after)) (stopped_at (said_at Part text).1 (said_at Part text).1)))) (sym laid)
          (bound-sound (said_at Part text).1 cut.stops))
      | inr some ↦
          let ne = eqb-false _ _ some in
          rw some (record { here = cut.body; laid = cut.laid; stands = g.part cut.body (said_at Part text).0 (said_at Part text).1 (omega arith) cut.is (unit_at-none Part _ cut.stops) })
    ]

pub front-sound : (around : Option Around) (text : List ℕ) → 0 < length text → Sound around text (front_at around text)
front-sound None text some = code-sound None text refl some
front-sound (Some open_.Interpolation) text some = part-sound text
front-sound (Some open_.Hole) text some = code-sound (Some open_.Hole) text refl some
front-sound (Some open_.Braces) text some = code-sound (Some open_.Braces) text refl some
