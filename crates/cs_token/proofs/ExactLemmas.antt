-- What stands at the front of a text is read, and so is what is wrong there.
use Rattle.std.proofs.Common.{◌≡◌, ◌≢◌, ℕ, ◌<◌, true, false, List, [], ◌∷◌, ◌++◌, length, Some, None, Ok, Err, refl, ap, sym, ◌∙◌, arith, eqb, inl, inr, append_assoc}
use Rattle.std.specs.declared.option.Option.{Option}
use Rattle.std.specs.Prelude.{◌&&◌, is_some, codes}
use Rattle.std.specs.List.{list_all}
use Rattle.std.proofs.lemmas.Bool.{and_parts, cases_Bool, eqb-true, false≢true, ne_eqb}
use Rattle.text_core.specs.Decimal.{i32_of}
use Rattle.cs_token.specs.declared.around.Around.{Around}
use Rattle.cs_token.specs.declared.around.Around.TheVariants as open_
use Rattle.cs_token.specs.declared.characters.Class.TheVariants as class
use Rattle.cs_token.specs.declared.fault.Cause.{Cause}
use Rattle.cs_token.specs.declared.fault.Cause.TheVariants as cause
use Rattle.cs_token.specs.declared.token.Sign.{Sign}
use Rattle.cs_token.specs.declared.token.Sign.TheVariants as s
use Rattle.cs_token.specs.declared.token.TokenKind.{TokenKind}
use Rattle.cs_token.specs.declared.token.TokenKind.TheVariants as k
use Rattle.cs_token.specs.declared.written.Form.TheVariants.{Quoted, Part}
use Rattle.cs_token.specs.Characters.{is_in, AreAll, IsRun, IsName, begins_with}
use Rattle.cs_token.specs.Lexemes.{is_code, keeps_line, has_end, Stands, IsGap, IsLongest}
use Rattle.cs_token.specs.Lexemes as g
use Rattle.cs_token.specs.Wrong.{IsWrong, EndsLine, NoSign}
use Rattle.cs_token.specs.Wrong as w
use Rattle.cs_token.specs.Signs.{mark, is_of_code}
use Rattle.cs_token.specs.Words.{spelling}
use Rattle.cs_token.specs.Written.{IsWritten, NoUnit}
use Rattle.cs_token.specs.Reading.Runs.{past, strip}
use Rattle.cs_token.specs.Reading.Signs.{signs, sign_at}
use Rattle.cs_token.specs.Reading.Words.{word_of}
use Rattle.cs_token.specs.Reading.Written.{unit_at, doubled_at}
use Rattle.cs_token.specs.Reading.Fronts.{Read, behind, stopped_at, comment_at, text_at, part_at, name_kind, name_at, number_kind, digits_at, sign_in, code_at, front_at}
use Rattle.cs_token.proofs.CharacterLemmas.{letter-not-white, digit-not-white, digit-not-letter, word-not-letter, word-not-digit}
use Rattle.cs_token.proofs.CommentLemmas.{past_end-again, none-past_end, none-past_line}
use Rattle.cs_token.proofs.RunLemmas.{run-again, past-again, strip-again, none-strip}
use Rattle.cs_token.proofs.SignLemmas.{sign_at-again, none-sign_at, sign_no_white, sign_no_letter, sign_no_digit, sign_no_quote}
use Rattle.cs_token.proofs.WordLemmas.{name_spelling, word_of-spelling, none-word_of}
use Rattle.cs_token.proofs.WrittenLemmas.{none-unit_at, said_at-again, said_at-none}

-- in code

in-code : (around : Option Around) (text : List ℕ) → is_code around ≡ true → front_at around text ≡ code_at around text
in-code None text code = refl
in-code (Some open_.Interpolation) text code = absurd (false≢true code)
in-code (Some open_.Hole) text code = refl
in-code (Some open_.Braces) text code = refl

-- white space and comments

no_feed : (around : Option Around) (c : ℕ) → keeps_line around (c ∷ []) ≡ true → (is_some around && eqb c 10) ≡ false
no_feed None c keeps = refl
no_feed (Some a) c keeps = elim (cases_Bool (eqb c 10)) [ inl is ↦ absurd (false≢true (rw is at keeps)) | inr fails ↦ fails ]

white-again : (around : Option Around) (c : ℕ) (rest : List ℕ) → is_in class.White c ≡ true → keeps_line around (c ∷ []) ≡ true → code_at around (c ∷ rest) ≡ Ok (None, rest)
unfolding code_at
white-again around c rest is keeps = rw (is, no_feed around c keeps) refl

line-again : (around : Option Around) (body rest : List ℕ) → AreAll class.Inline body → begins_with class.Inline rest ≡ false → code_at around (codes "//" ++ (body ++ rest)) ≡ Ok (None, rest)
unfolding code_at
line-again around body rest all stops =
    rw (none-strip (34 ∷ []) (codes "//" ++ (body ++ rest)) (λ r e. cc), strip-again (codes "//") (body ++ rest), past-again class.Inline body rest all stops) refl

block_open : (around : Option Around) (body : List ℕ) → code_at around (codes "/*" ++ body) ≡ comment_at (is_some around) (codes "/*" ++ body) body
unfolding code_at
block_open around body =
    rw (none-strip (34 ∷ []) (codes "/*" ++ body) (λ r e. cc), none-strip (codes "//") (codes "/*" ++ body) (λ r e. cc), strip-again (codes "/*") body) refl

block-again : (around : Option Around) (body rest : List ℕ) → keeps_line around body ≡ true → has_end (body ++ codes "*") ≡ false → code_at around (codes "/*" ++ (body ++ (codes "*/" ++ rest))) ≡ Ok (None, rest)
block-again around body rest keeps first =
    block_open around (body ++ (codes "*/" ++ rest)) ∙ rw (past_end-again (is_some around) body rest keeps first) refl

gap-again : (around : Option Around) (text rest : List ℕ) → IsGap around text rest → code_at around (text ++ rest) ≡ Ok (None, rest)
gap-again around _ _ (g.white c rest is keeps) = white-again around c rest is keeps
gap-again around _ _ (g.line body rest all stops) = line-again around body rest all stops
gap-again around _ _ (g.block body rest keeps first) =
    ap (λ (x : List ℕ). code_at around (codes "/*" ++ x)) (append_assoc body (codes "*/") rest) ∙ block-again around body rest keeps first

-- names, words and numbers

letter_first : (text rest : List ℕ) → begins_with class.Letter text ≡ true → (begins_with class.White (text ++ rest) ≡ false) × (begins_with class.Letter (text ++ rest) ≡ true)
letter_first [] rest is = absurd (false≢true is)
letter_first (c ∷ text) rest is = (letter-not-white c is, is)

digit_first : (digits rest : List ℕ) → IsRun class.Digit digits
    → (begins_with class.White (digits ++ rest) ≡ false) × (begins_with class.Letter (digits ++ rest) ≡ false) × (begins_with class.Digit (digits ++ rest) ≡ true)
digit_first [] rest is = let some = is.some in absurd (omega arith)
digit_first (c ∷ digits) rest is =
    let first = (and_parts (is_in class.Digit c) (list_all (is_in class.Digit) digits) is.all).0 in
    (digit-not-white c first, digit-not-letter c first, first)

code_name : (around : Option Around) (text : List ℕ) → begins_with class.White text ≡ false → begins_with class.Letter text ≡ true → code_at around text ≡ name_at text
unfolding code_at
code_name around text dense letter = rw (dense, letter) refl

code_digits : (around : Option Around) (text : List ℕ) → begins_with class.White text ≡ false → begins_with class.Letter text ≡ false → begins_with class.Digit text ≡ true → code_at around text ≡ digits_at text
unfolding code_at
code_digits around text dense nameless digit = rw (dense, nameless, digit) refl

made_name : List ℕ → List ℕ → Read
made_name name rest = Ok (Some (name_kind (word_of name) name), rest)

name_front : (around : Option Around) (text rest : List ℕ) → IsName text → begins_with class.Word rest ≡ false → code_at around (text ++ rest) ≡ Ok (Some (name_kind (word_of text) text), rest)
unfolding made_name
name_front around text rest is stops =
    let first = letter_first text rest is.begins in
    code_name around (text ++ rest) first.0 first.1 ∙ ap (λ (x : List ℕ). made_name x (past class.Word (text ++ rest))) (run-again class.Word text rest is.all stops)
    ∙ ap (made_name text) (past-again class.Word text rest is.all stops)

number_front : (around : Option Around) (digits rest : List ℕ) → IsRun class.Digit digits → begins_with class.Digit rest ≡ false → code_at around (digits ++ rest) ≡ number_kind (i32_of digits) (digits ++ rest) rest
number_front around digits rest is stops =
    let first = digit_first digits rest is in
    code_digits around (digits ++ rest) first.0 first.1 first.2
    ∙ ap (λ (x : List ℕ). number_kind (i32_of x) (digits ++ rest) (past class.Digit (digits ++ rest))) (run-again class.Digit digits rest is.all stops)
    ∙ ap (λ (x : List ℕ). number_kind (i32_of digits) (digits ++ rest) x) (past-again class.Digit digits rest is.all stops)

-- texts

quote_stops : (rest : List ℕ) → unit_at Quoted (34 ∷ rest) ≡ None
unfolding unit_at doubled_at
quote_stops rest = refl

feed_stops : (rest : List ℕ) → EndsLine rest → unit_at Quoted rest ≡ None
unfolding unit_at doubled_at
feed_stops [] ends = refl
feed_stops (c ∷ rest) ends = elim (cases_Bool (eqb c 10)) [ inl is ↦ rw (eqb-true _ _ is) refl | inr fails ↦ absurd (false≢true (sym (rw fails at ends))) ]

text_open : (around : Option Around) (body : List ℕ) → code_at around (34 ∷ body) ≡ text_at (34 ∷ body) body
unfolding code_at
text_open around body = rw (strip-again (34 ∷ []) body) refl

text-again : (around : Option Around) (body said rest : List ℕ) → IsWritten Quoted body said → code_at around (34 ∷ (body ++ 34 ∷ rest)) ≡ Ok (Some (k.Text said), rest)
text-again around body said rest is =
    text_open around (body ++ 34 ∷ rest) ∙ rw (said_at-again Quoted body said (34 ∷ rest) is (quote_stops rest), strip-again (34 ∷ []) rest) refl

-- signs

sign_open : (around : Option Around) (sign : Sign) (rest : List ℕ) → IsLongest sign rest → code_at around (mark sign ++ rest) ≡ Ok (Some (k.Sign (sign_in around sign)), rest)
unfolding code_at
sign_open around sign rest longest =
    rw (
      sign_no_white sign rest longest.of_code,
      sign_no_letter sign rest longest.of_code,
      sign_no_digit sign rest longest.of_code,
      sign_no_quote sign rest longest.of_code,
      none-strip (codes "//") (mark sign ++ rest) longest.no_line,
      none-strip (codes "/*") (mark sign ++ rest) longest.no_block,
      sign_at-again sign rest longest,
      strip-again (mark sign) rest,
    ) refl

sign_meant : (around : Option Around) (sign : Sign) → (around ≡ Some open_.Hole → sign ≢ s.CloseBrace) → sign_in around sign ≡ sign
sign_meant None sign other = refl
sign_meant (Some open_.Interpolation) sign other = refl
sign_meant (Some open_.Braces) sign other = refl
sign_meant (Some open_.Hole) s.CloseBrace other = absurd (other refl refl)
sign_meant (Some open_.Hole) _ other = refl

brace_sign : (rest : List ℕ) → sign_at (125 ∷ rest) ≡ Some s.CloseBrace
unfolding sign_at signs mark strip
brace_sign rest = refl

hole_close-again : (rest : List ℕ) → code_at (Some open_.Hole) (mark s.HoleClose ++ rest) ≡ Ok (Some (k.Sign s.HoleClose), rest)
unfolding code_at mark
hole_close-again rest =
    rw (
      none-strip (34 ∷ []) (125 ∷ rest) (λ r e. cc),
      none-strip (codes "//") (125 ∷ rest) (λ r e. cc),
      none-strip (codes "/*") (125 ∷ rest) (λ r e. cc),
      brace_sign rest,
      strip-again (125 ∷ []) rest,
    ) refl

-- the literal text of an interpolated text

part-again : (body said rest : List ℕ) → 0 < length said → IsWritten Part body said → NoUnit Part rest → part_at (body ++ rest) ≡ Ok (Some (k.Part said), rest)
unfolding part_at
part-again body said rest some is stops = rw (said_at-again Part body said rest is (none-unit_at Part rest stops), ne_eqb (length said) 0 (λ e. omega arith)) refl

bound_open : (text : List ℕ) → unit_at Part text ≡ None
    → part_at text ≡ behind (strip (34 ∷ []) text) (λ rest. Ok (Some (k.Sign s.InterpolationEnd), rest)) (behind (strip (123 ∷ []) text) (λ rest. Ok (Some (k.Sign s.HoleOpen), rest)) (stopped_at text text))
unfolding part_at
bound_open text stops = rw (said_at-none Part text stops) refl

quote_part : (rest : List ℕ) → unit_at Part (34 ∷ rest) ≡ None
unfolding unit_at doubled_at
quote_part [] = refl
quote_part (c ∷ rest) = refl

end-again : (rest : List ℕ) → part_at (mark s.InterpolationEnd ++ rest) ≡ Ok (Some (k.Sign s.InterpolationEnd), rest)
unfolding mark
end-again rest = bound_open (34 ∷ rest) (quote_part rest) ∙ rw (strip-again (34 ∷ []) rest) refl

brace_part : (rest : List ℕ) → ((more : List ℕ) → rest ≢ codes "{" ++ more) → unit_at Part (123 ∷ rest) ≡ None
unfolding unit_at doubled_at
brace_part [] single = refl
brace_part (c ∷ rest) single = elim (cases_Bool (eqb c 123)) [
  | inl is ↦ absurd (single rest (ap (λ (x : ℕ). x ∷ rest) (eqb-true _ _ is)))
  | inr fails ↦ rw fails refl
]

hole_open-again : (rest : List ℕ) → ((more : List ℕ) → rest ≢ codes "{" ++ more) → part_at (mark s.HoleOpen ++ rest) ≡ Ok (Some (k.Sign s.HoleOpen), rest)
unfolding mark
hole_open-again rest single =
    bound_open (123 ∷ rest) (brace_part rest single) ∙ rw (none-strip (34 ∷ []) (123 ∷ rest) (λ r e. cc), strip-again (123 ∷ []) rest) refl

-- whatever stands

pub front-again : (around : Option Around) (kind : Option TokenKind) (text rest : List ℕ) → Stands around kind text rest → front_at around (text ++ rest) ≡ Ok (kind, rest)
front-again _ _ _ _ (g.gap around text rest code is) = in-code around (text ++ rest) code ∙ gap-again around text rest is
front-again _ _ _ _ (g.name around text rest code is stops other) =
    in-code around (text ++ rest) code ∙ name_front around text rest is stops ∙ rw (none-word_of text other) refl
front-again _ _ _ _ (g.word around word rest code stops) =
    in-code around (spelling word ++ rest) code ∙ name_front around (spelling word) rest (name_spelling word) stops ∙ rw (word_of-spelling word) refl
front-again _ _ _ _ (g.number around n digits rest code is stops says) =
    in-code around (digits ++ rest) code ∙ number_front around digits rest is stops ∙ rw says refl
front-again _ _ _ _ (g.text around body said rest code is) =
    in-code around (34 ∷ (body ++ 34 ∷ [] ++ rest)) code ∙ ap (λ (x : List ℕ). code_at around (34 ∷ x)) (append_assoc body (34 ∷ []) rest) ∙ text-again around body said rest is
front-again _ _ _ _ (g.sign around sign rest code longest other) =
    in-code around (mark sign ++ rest) code ∙ sign_open around sign rest longest ∙ rw (sign_meant around sign other) refl
front-again _ _ _ _ (g.hole_close rest) = hole_close-again rest
front-again _ _ _ _ (g.part body said rest some is stops) = part-again body said rest some is stops
front-again _ _ _ _ (g.hole_open rest single) = hole_open-again rest single
front-again _ _ _ _ (g.interpolation_end rest) = end-again rest

-- whatever is wrong

first_other : (d c : ℕ) (rest : List ℕ) → c ≢ d → strip (d ∷ []) (c ∷ rest) ≡ None
first_other d c rest other = none-strip (d ∷ []) (c ∷ rest) (λ r e. other (cc))

inline : (c : ℕ) → c ≢ 10 → is_in class.Inline c ≡ true
inline c other = rw (ne_eqb c 10 other) refl

no_comment : (d : ℕ) (text : List ℕ) → NoSign text → strip (47 ∷ d ∷ []) text ≡ None
unfolding mark is_of_code
no_comment d text none = none-strip (47 ∷ d ∷ []) text (λ rest e. none s.Slash (d ∷ rest) refl e)

bad_character-again : (around : Option Around) (c : ℕ) (rest : List ℕ) → is_in class.White c ≡ false → is_in class.Word c ≡ false → c ≢ 34 → NoSign (c ∷ rest) → code_at around (c ∷ rest) ≡ Err (cause.BadCharacter, c ∷ rest)
unfolding code_at
bad_character-again around c rest white word quote none =
    rw (
      white,
      word-not-letter c word,
      word-not-digit c word,
      first_other 34 c rest quote,
      no_comment 47 (c ∷ rest) none,
      no_comment 42 (c ∷ rest) none,
      none-sign_at (c ∷ rest) none,
      inline c (λ e. false≢true (sym white ∙ rw e refl)),
    ) refl

no_quote : (rest : List ℕ) → EndsLine rest → strip (34 ∷ []) rest ≡ None
no_quote rest ends = none-strip (34 ∷ []) rest (λ r e. false≢true (sym ends ∙ rw e refl))

unended_text-again : (around : Option Around) (body said rest : List ℕ) → IsWritten Quoted body said → EndsLine rest → code_at around (34 ∷ (body ++ rest)) ≡ Err (cause.UnendedText, 34 ∷ (body ++ rest))
unended_text-again around body said rest is ends =
    text_open around (body ++ rest) ∙ rw (said_at-again Quoted body said rest is (feed_stops rest ends), no_quote rest ends, ends) refl

bad_escape-again : (around : Option Around) (body said : List ℕ) (c : ℕ) (rest : List ℕ) → IsWritten Quoted body said → NoUnit Quoted (c ∷ rest) → c ≢ 34 → c ≢ 10
    → code_at around (34 ∷ (body ++ c ∷ rest)) ≡ Err (cause.BadCharacter, c ∷ rest)
bad_escape-again around body said c rest is stops quote feed =
    text_open around (body ++ c ∷ rest) ∙ rw (said_at-again Quoted body said (c ∷ rest) is (none-unit_at Quoted (c ∷ rest) stops), first_other 34 c rest quote, inline c feed) refl

bad_part-again : (c : ℕ) (rest : List ℕ) → NoUnit Part (c ∷ rest) → c ≢ 34 → c ≢ 10 → c ≢ 123 → part_at (c ∷ rest) ≡ Err (cause.BadCharacter, c ∷ rest)
bad_part-again c rest stops quote feed brace =
    bound_open (c ∷ rest) (none-unit_at Part (c ∷ rest) stops) ∙ rw (first_other 34 c rest quote, first_other 123 c rest brace, inline c feed) refl

-- at the line's end

part_stops : (rest : List ℕ) → EndsLine rest → unit_at Part rest ≡ None
unfolding unit_at doubled_at
part_stops [] ends = refl
part_stops (c ∷ []) ends = elim (cases_Bool (eqb c 10)) [ inl is ↦ rw (eqb-true _ _ is) refl | inr fails ↦ absurd (false≢true (sym (rw fails at ends))) ]
part_stops (c ∷ d ∷ rest) ends = elim (cases_Bool (eqb c 10)) [ inl is ↦ rw (eqb-true _ _ is) refl | inr fails ↦ absurd (false≢true (sym (rw fails at ends))) ]

no_brace : (rest : List ℕ) → EndsLine rest → strip (123 ∷ []) rest ≡ None
no_brace rest ends = none-strip (123 ∷ []) rest (λ r e. false≢true (sym ends ∙ rw e refl))

part_line-again : (rest : List ℕ) → EndsLine rest → part_at rest ≡ Err (cause.UnendedText, rest)
part_line-again rest ends = bound_open rest (part_stops rest ends) ∙ rw (no_quote rest ends, no_brace rest ends, ends) refl

no_sign_there : sign_at [] ≡ None
unfolding sign_at signs mark strip
no_sign_there = refl

pub nothing_there : (around : Option Around) → code_at around [] ≡ Err (cause.UnendedText, [])
unfolding code_at strip
nothing_there around = rw no_sign_there refl

code_line-again : (around : Option Around) (rest : List ℕ) → is_some around ≡ true → EndsLine rest → code_at around rest ≡ Err (cause.UnendedText, rest)
unfolding code_at
code_line-again around [] line ends = nothing_there around
code_line-again around (c ∷ rest) line ends = elim (cases_Bool (eqb c 10)) [
  | inl is ↦ let feed : c ≡ 10 = eqb-true _ _ is in rw (feed, line) refl
  | inr fails ↦ absurd (false≢true (sym (rw fails at ends)))
]

line-again-wrong : (around : Option Around) (rest : List ℕ) → is_some around ≡ true → EndsLine rest → front_at around rest ≡ Err (cause.UnendedText, rest)
line-again-wrong None rest line ends = absurd (false≢true line)
line-again-wrong (Some open_.Interpolation) rest line ends = part_line-again rest ends
line-again-wrong (Some open_.Hole) rest line ends = code_line-again (Some open_.Hole) rest line ends
line-again-wrong (Some open_.Braces) rest line ends = code_line-again (Some open_.Braces) rest line ends

pub wrong-again : (around : Option Around) (cause : Cause) (good from : List ℕ) → IsWrong around cause good from → front_at around (good ++ from) ≡ Err (cause, from)
wrong-again _ _ _ _ (w.bad_character around c rest code white word quote none) = in-code around (c ∷ rest) code ∙ bad_character-again around c rest white word quote none
wrong-again _ _ _ _ (w.bad_escape around body said c rest code is stops quote feed) =
    in-code around (34 ∷ (body ++ c ∷ rest)) code ∙ bad_escape-again around body said c rest is stops quote feed
wrong-again _ _ _ _ (w.bad_part c rest stops quote feed brace) = bad_part-again c rest stops quote feed brace
wrong-again _ _ _ _ (w.unended_text around body said rest code is ends) = in-code around (34 ∷ (body ++ rest)) code ∙ unended_text-again around body said rest is ends
wrong-again _ _ _ _ (w.unended_line around rest line ends) = line-again-wrong around rest line ends
wrong-again _ _ _ _ (w.unended_line_in_comment around body rest code line all endless ends) =
    in-code around (codes "/*" ++ (body ++ rest)) code ∙ block_open around (body ++ rest) ∙ rw (line, none-past_line body rest all endless ends) refl
wrong-again _ _ _ _ (w.unended_comment body endless) = block_open None body ∙ rw (none-past_end body endless) refl
wrong-again _ _ _ _ (w.too_wide around digits rest code is stops says) = in-code around (digits ++ rest) code ∙ number_front around digits rest is stops ∙ rw says refl
