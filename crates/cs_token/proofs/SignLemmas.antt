-- Which sign stands first in a text.
use Rattle.std.proofs.Common.{◌≡◌, ℕ, ◌≤◌, Bool, true, false, List, [], ◌∷◌, ◌++◌, length, take, Some, None, refl, ap, sym, ◌∙◌, subst, arith, inl, inr}
use Rattle.std.specs.declared.option.Option.{Option}
use Rattle.std.specs.Prelude.{◌&&◌, nat_le, is_some}
use Rattle.std.specs.List.{find, list_all}
use Rattle.std.specs.Str.{bytes_eq}
use Rattle.std.proofs.lemmas.Bool.{and_parts, cases_Bool, leb-true}
use Rattle.std.proofs.Math.Seq.{take-append_seam}
use Rattle.cs_token.specs.declared.characters.Class.TheVariants as class
use Rattle.cs_token.specs.declared.token.Sign.{Sign}
use Rattle.cs_token.specs.declared.token.Sign.TheVariants as s
use Rattle.cs_token.specs.Characters.{begins_with}
use Rattle.cs_token.specs.Lexemes.{IsLongest}
use Rattle.cs_token.specs.Wrong.{NoSign}
use Rattle.cs_token.specs.Signs.{mark, is_of_code}
use Rattle.cs_token.specs.Reading.Runs.{strip}
use Rattle.cs_token.specs.Reading.Signs.{signs, stands_first, sign_at}
use Rattle.cs_token.proofs.FindLemmas.{Among, here, there, find-holds, find-among, find-none, all-among}
use Rattle.cs_token.proofs.OptionLemmas.{some_is}
use Rattle.cs_token.proofs.RunLemmas.{strip-some, strip-again}

-- the sign that is written so

unfoldable marked : List ℕ → Option Sign
marked text = find (λ sign. bytes_eq (mark sign) text) signs

marked-mark : (sign : Sign) → is_of_code sign ≡ true → marked (mark sign) ≡ Some sign
unfolding marked mark signs is_of_code
marked-mark s.OpenRound e = refl
marked-mark s.CloseRound e = refl
marked-mark s.OpenSquare e = refl
marked-mark s.CloseSquare e = refl
marked-mark s.OpenBrace e = refl
marked-mark s.CloseBrace e = refl
marked-mark s.Comma e = refl
marked-mark s.Semicolon e = refl
marked-mark s.Dot e = refl
marked-mark s.QuestionDot e = refl
marked-mark s.Question e = refl
marked-mark s.QuestionQuestion e = refl
marked-mark s.Colon e = refl
marked-mark s.Assign e = refl
marked-mark s.AddAssign e = refl
marked-mark s.SubtractAssign e = refl
marked-mark s.MultiplyAssign e = refl
marked-mark s.DivideAssign e = refl
marked-mark s.RemainderAssign e = refl
marked-mark s.Equal e = refl
marked-mark s.NotEqual e = refl
marked-mark s.Less e = refl
marked-mark s.Greater e = refl
marked-mark s.LessOrEqual e = refl
marked-mark s.GreaterOrEqual e = refl
marked-mark s.Plus e = refl
marked-mark s.Minus e = refl
marked-mark s.Star e = refl
marked-mark s.Slash e = refl
marked-mark s.Percent e = refl
marked-mark s.PlusPlus e = refl
marked-mark s.MinusMinus e = refl
marked-mark s.Not e = refl
marked-mark s.And e = refl
marked-mark s.Or e = refl
marked-mark s.Arrow e = refl
marked-mark s.InterpolationStart e = refl
marked-mark s.InterpolationEnd e = cc
marked-mark s.HoleOpen e = cc
marked-mark s.HoleClose e = cc

same_sign : (a b : Sign) → is_of_code a ≡ true → is_of_code b ≡ true → mark a ≡ mark b → a ≡ b
same_sign a b of_a of_b e = some_is a b (sym (marked-mark a of_a) ∙ ap marked e ∙ marked-mark b of_b)

among_signs : (sign : Sign) → is_of_code sign ≡ true → Among sign signs
unfolding marked
among_signs sign of_code = find-among (λ (x : Sign). bytes_eq (mark x) (mark sign)) signs sign (marked-mark sign of_code)

-- the signs of code, and no others
all_of_code : list_all is_of_code signs ≡ true
unfolding signs is_of_code
all_of_code = refl

-- the longer ones first

descends : List Sign → Bool
descends [] = true
descends (x ∷ xs) = list_all (λ y. nat_le (length (mark y)) (length (mark x))) xs && descends xs

descends-signs : descends signs ≡ true
unfolding descends signs mark
descends-signs = refl

longest-found : (p : Sign → Bool) (y : Sign) (xs : List Sign) (x : Sign) → descends xs ≡ true → find p xs ≡ Some x → Among y xs → p y ≡ true → length (mark y) ≤ length (mark x)
unfolding descends
longest-found p y _ x falls e (here xs) is =
    let same : y ≡ x = some_is y x (rw is at e) in
    subst (λ (z : Sign). length (mark y) ≤ length (mark z)) same (omega arith)
longest-found p y _ x falls e (there z xs among) is =
    let parts = and_parts (list_all (λ v. nat_le (length (mark v)) (length (mark z))) xs) (descends xs) falls in
    elim (cases_Bool (p z)) [
      | inl first ↦
          let same : z ≡ x = some_is z x (rw first at e) in
          subst (λ (v : Sign). length (mark y) ≤ length (mark v)) same
          (leb-true _ _ (all-among (λ v. nat_le (length (mark v)) (length (mark z))) y xs parts.0 among))
      | inr fails ↦ longest-found p y xs x parts.1 (rw fails at e) among is
    ]

-- what stands first

stands-first : (sign : Sign) (rest : List ℕ) → stands_first (mark sign ++ rest) sign ≡ true
stands-first sign rest = rw (strip-again (mark sign) rest) refl

first-stands : (text : List ℕ) (sign : Sign) (o : Option (List ℕ)) → strip (mark sign) text ≡ o → is_some o ≡ true → (rest : List ℕ) × (strip (mark sign) text ≡ Some rest)
first-stands text sign (Some rest) e is = (rest, e)
first-stands text sign None e is = absurd (cc)

pub record SignCut (text : List ℕ) (sign : Sign) : Type 0 where
  pub rest : List ℕ
  pub front : strip (mark sign) text ≡ Some rest
  pub of_code : is_of_code sign ≡ true
  pub longest : (other : Sign) (more : List ℕ) → is_of_code other ≡ true → text ≡ mark other ++ more → length (mark other) ≤ length (mark sign)

pub sign_at-some : (text : List ℕ) (sign : Sign) → sign_at text ≡ Some sign → SignCut text sign
unfolding sign_at
sign_at-some text sign e =
    let found = first-stands text sign (strip (mark sign) text) refl (find-holds (stands_first text) signs sign e) in
    record {
      rest = found.0;
      front = found.1;
      of_code = all-among is_of_code sign signs all_of_code (find-among (stands_first text) signs sign e);
      longest = λ other more of_code laid.
          longest-found (stands_first text) other signs sign descends-signs e (among_signs other of_code)
          (subst (λ (x : List ℕ). stands_first x other ≡ true) (sym laid) (stands-first other more));
    }

pub sign_at-none : (text : List ℕ) → sign_at text ≡ None → NoSign text
unfolding sign_at
sign_at-none text none sign rest of_code laid =
    find-none (stands_first text) sign signs none (among_signs sign of_code)
    (subst (λ (x : List ℕ). stands_first x sign ≡ true) (sym laid) (stands-first sign rest))

no_sign : (text : List ℕ) (o : Option Sign) → sign_at text ≡ o → NoSign text → o ≡ None
no_sign text None e none = refl
no_sign text (Some sign) e none =
    let cut = sign_at-some text sign e in
    absurd (none sign cut.rest cut.of_code (strip-some (mark sign) text cut.rest cut.front))

pub none-sign_at : (text : List ℕ) → NoSign text → sign_at text ≡ None
none-sign_at text none = no_sign text (sign_at text) refl none

-- two signs of one length that stand first are one
same_front : (a b : Sign) (x y : List ℕ) → mark a ++ x ≡ mark b ++ y → length (mark a) ≡ length (mark b) → mark a ≡ mark b
same_front a b x y laid long =
    sym (take-append_seam (mark a) x) ∙ ap (λ n. take n (mark a ++ x)) long ∙ ap (take (length (mark b))) laid ∙ take-append_seam (mark b) y

again : (sign : Sign) (rest : List ℕ) (o : Option Sign) → sign_at (mark sign ++ rest) ≡ o → IsLongest sign rest → o ≡ Some sign
again sign rest None e longest = absurd (sign_at-none (mark sign ++ rest) e sign rest longest.of_code refl)
again sign rest (Some other) e longest =
    let cut = sign_at-some (mark sign ++ rest) other e in
    let laid : mark sign ++ rest ≡ mark other ++ cut.rest = strip-some (mark other) (mark sign ++ rest) cut.rest cut.front in
    let below : length (mark sign) ≤ length (mark other) = cut.longest sign rest longest.of_code refl in
    let above : length (mark other) ≤ length (mark sign) = longest.longest other cut.rest cut.of_code laid in
    let long : length (mark sign) ≡ length (mark other) = omega arith in
    ap (λ (x : Sign). Some x) (sym (same_sign sign other longest.of_code cut.of_code (same_front sign other rest cut.rest laid long)))

pub sign_at-again : (sign : Sign) (rest : List ℕ) → IsLongest sign rest → sign_at (mark sign ++ rest) ≡ Some sign
sign_at-again sign rest longest = again sign rest (sign_at (mark sign ++ rest)) refl longest

-- no sign of code begins as white space, a word or a text does

pub sign_no_white : (sign : Sign) (rest : List ℕ) → is_of_code sign ≡ true → begins_with class.White (mark sign ++ rest) ≡ false
unfolding mark is_of_code
sign_no_white s.OpenRound rest of_code = refl
sign_no_white s.CloseRound rest of_code = refl
sign_no_white s.OpenSquare rest of_code = refl
sign_no_white s.CloseSquare rest of_code = refl
sign_no_white s.OpenBrace rest of_code = refl
sign_no_white s.CloseBrace rest of_code = refl
sign_no_white s.Comma rest of_code = refl
sign_no_white s.Semicolon rest of_code = refl
sign_no_white s.Dot rest of_code = refl
sign_no_white s.QuestionDot rest of_code = refl
sign_no_white s.Question rest of_code = refl
sign_no_white s.QuestionQuestion rest of_code = refl
sign_no_white s.Colon rest of_code = refl
sign_no_white s.Assign rest of_code = refl
sign_no_white s.AddAssign rest of_code = refl
sign_no_white s.SubtractAssign rest of_code = refl
sign_no_white s.MultiplyAssign rest of_code = refl
sign_no_white s.DivideAssign rest of_code = refl
sign_no_white s.RemainderAssign rest of_code = refl
sign_no_white s.Equal rest of_code = refl
sign_no_white s.NotEqual rest of_code = refl
sign_no_white s.Less rest of_code = refl
sign_no_white s.Greater rest of_code = refl
sign_no_white s.LessOrEqual rest of_code = refl
sign_no_white s.GreaterOrEqual rest of_code = refl
sign_no_white s.Plus rest of_code = refl
sign_no_white s.Minus rest of_code = refl
sign_no_white s.Star rest of_code = refl
sign_no_white s.Slash rest of_code = refl
sign_no_white s.Percent rest of_code = refl
sign_no_white s.PlusPlus rest of_code = refl
sign_no_white s.MinusMinus rest of_code = refl
sign_no_white s.Not rest of_code = refl
sign_no_white s.And rest of_code = refl
sign_no_white s.Or rest of_code = refl
sign_no_white s.Arrow rest of_code = refl
sign_no_white s.InterpolationStart rest of_code = refl
sign_no_white s.InterpolationEnd rest of_code = cc
sign_no_white s.HoleOpen rest of_code = cc
sign_no_white s.HoleClose rest of_code = cc

pub sign_no_letter : (sign : Sign) (rest : List ℕ) → is_of_code sign ≡ true → begins_with class.Letter (mark sign ++ rest) ≡ false
unfolding mark is_of_code
sign_no_letter s.OpenRound rest of_code = refl
sign_no_letter s.CloseRound rest of_code = refl
sign_no_letter s.OpenSquare rest of_code = refl
sign_no_letter s.CloseSquare rest of_code = refl
sign_no_letter s.OpenBrace rest of_code = refl
sign_no_letter s.CloseBrace rest of_code = refl
sign_no_letter s.Comma rest of_code = refl
sign_no_letter s.Semicolon rest of_code = refl
sign_no_letter s.Dot rest of_code = refl
sign_no_letter s.QuestionDot rest of_code = refl
sign_no_letter s.Question rest of_code = refl
sign_no_letter s.QuestionQuestion rest of_code = refl
sign_no_letter s.Colon rest of_code = refl
sign_no_letter s.Assign rest of_code = refl
sign_no_letter s.AddAssign rest of_code = refl
sign_no_letter s.SubtractAssign rest of_code = refl
sign_no_letter s.MultiplyAssign rest of_code = refl
sign_no_letter s.DivideAssign rest of_code = refl
sign_no_letter s.RemainderAssign rest of_code = refl
sign_no_letter s.Equal rest of_code = refl
sign_no_letter s.NotEqual rest of_code = refl
sign_no_letter s.Less rest of_code = refl
sign_no_letter s.Greater rest of_code = refl
sign_no_letter s.LessOrEqual rest of_code = refl
sign_no_letter s.GreaterOrEqual rest of_code = refl
sign_no_letter s.Plus rest of_code = refl
sign_no_letter s.Minus rest of_code = refl
sign_no_letter s.Star rest of_code = refl
sign_no_letter s.Slash rest of_code = refl
sign_no_letter s.Percent rest of_code = refl
sign_no_letter s.PlusPlus rest of_code = refl
sign_no_letter s.MinusMinus rest of_code = refl
sign_no_letter s.Not rest of_code = refl
sign_no_letter s.And rest of_code = refl
sign_no_letter s.Or rest of_code = refl
sign_no_letter s.Arrow rest of_code = refl
sign_no_letter s.InterpolationStart rest of_code = refl
sign_no_letter s.InterpolationEnd rest of_code = cc
sign_no_letter s.HoleOpen rest of_code = cc
sign_no_letter s.HoleClose rest of_code = cc

pub sign_no_digit : (sign : Sign) (rest : List ℕ) → is_of_code sign ≡ true → begins_with class.Digit (mark sign ++ rest) ≡ false
unfolding mark is_of_code
sign_no_digit s.OpenRound rest of_code = refl
sign_no_digit s.CloseRound rest of_code = refl
sign_no_digit s.OpenSquare rest of_code = refl
sign_no_digit s.CloseSquare rest of_code = refl
sign_no_digit s.OpenBrace rest of_code = refl
sign_no_digit s.CloseBrace rest of_code = refl
sign_no_digit s.Comma rest of_code = refl
sign_no_digit s.Semicolon rest of_code = refl
sign_no_digit s.Dot rest of_code = refl
sign_no_digit s.QuestionDot rest of_code = refl
sign_no_digit s.Question rest of_code = refl
sign_no_digit s.QuestionQuestion rest of_code = refl
sign_no_digit s.Colon rest of_code = refl
sign_no_digit s.Assign rest of_code = refl
sign_no_digit s.AddAssign rest of_code = refl
sign_no_digit s.SubtractAssign rest of_code = refl
sign_no_digit s.MultiplyAssign rest of_code = refl
sign_no_digit s.DivideAssign rest of_code = refl
sign_no_digit s.RemainderAssign rest of_code = refl
sign_no_digit s.Equal rest of_code = refl
sign_no_digit s.NotEqual rest of_code = refl
sign_no_digit s.Less rest of_code = refl
sign_no_digit s.Greater rest of_code = refl
sign_no_digit s.LessOrEqual rest of_code = refl
sign_no_digit s.GreaterOrEqual rest of_code = refl
sign_no_digit s.Plus rest of_code = refl
sign_no_digit s.Minus rest of_code = refl
sign_no_digit s.Star rest of_code = refl
sign_no_digit s.Slash rest of_code = refl
sign_no_digit s.Percent rest of_code = refl
sign_no_digit s.PlusPlus rest of_code = refl
sign_no_digit s.MinusMinus rest of_code = refl
sign_no_digit s.Not rest of_code = refl
sign_no_digit s.And rest of_code = refl
sign_no_digit s.Or rest of_code = refl
sign_no_digit s.Arrow rest of_code = refl
sign_no_digit s.InterpolationStart rest of_code = refl
sign_no_digit s.InterpolationEnd rest of_code = cc
sign_no_digit s.HoleOpen rest of_code = cc
sign_no_digit s.HoleClose rest of_code = cc

pub sign_no_quote : (sign : Sign) (rest : List ℕ) → is_of_code sign ≡ true → strip (34 ∷ []) (mark sign ++ rest) ≡ None
unfolding mark is_of_code strip
sign_no_quote s.OpenRound rest of_code = refl
sign_no_quote s.CloseRound rest of_code = refl
sign_no_quote s.OpenSquare rest of_code = refl
sign_no_quote s.CloseSquare rest of_code = refl
sign_no_quote s.OpenBrace rest of_code = refl
sign_no_quote s.CloseBrace rest of_code = refl
sign_no_quote s.Comma rest of_code = refl
sign_no_quote s.Semicolon rest of_code = refl
sign_no_quote s.Dot rest of_code = refl
sign_no_quote s.QuestionDot rest of_code = refl
sign_no_quote s.Question rest of_code = refl
sign_no_quote s.QuestionQuestion rest of_code = refl
sign_no_quote s.Colon rest of_code = refl
sign_no_quote s.Assign rest of_code = refl
sign_no_quote s.AddAssign rest of_code = refl
sign_no_quote s.SubtractAssign rest of_code = refl
sign_no_quote s.MultiplyAssign rest of_code = refl
sign_no_quote s.DivideAssign rest of_code = refl
sign_no_quote s.RemainderAssign rest of_code = refl
sign_no_quote s.Equal rest of_code = refl
sign_no_quote s.NotEqual rest of_code = refl
sign_no_quote s.Less rest of_code = refl
sign_no_quote s.Greater rest of_code = refl
sign_no_quote s.LessOrEqual rest of_code = refl
sign_no_quote s.GreaterOrEqual rest of_code = refl
sign_no_quote s.Plus rest of_code = refl
sign_no_quote s.Minus rest of_code = refl
sign_no_quote s.Star rest of_code = refl
sign_no_quote s.Slash rest of_code = refl
sign_no_quote s.Percent rest of_code = refl
sign_no_quote s.PlusPlus rest of_code = refl
sign_no_quote s.MinusMinus rest of_code = refl
sign_no_quote s.Not rest of_code = refl
sign_no_quote s.And rest of_code = refl
sign_no_quote s.Or rest of_code = refl
sign_no_quote s.Arrow rest of_code = refl
sign_no_quote s.InterpolationStart rest of_code = refl
sign_no_quote s.InterpolationEnd rest of_code = cc
sign_no_quote s.HoleOpen rest of_code = cc
sign_no_quote s.HoleClose rest of_code = cc
