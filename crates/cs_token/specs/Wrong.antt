-- Where C# text can't go on, and what is wrong there.
use Rattle.std.specs.Prelude.{◌≡◌, ◌≢◌, ℕ, true, false, List, [], ◌∷◌, ◌++◌, Option, Some, None, codes}
use Rattle.text_core.specs.Decimal.{i32_of}
use Rattle.cs_token.specs.declared.around.Around.{Around}
use Rattle.cs_token.specs.declared.around.Around.TheVariants.{Interpolation}
use Rattle.cs_token.specs.declared.characters.Class.TheVariants as class
use Rattle.cs_token.specs.declared.fault.Cause.{Cause}
use Rattle.cs_token.specs.declared.fault.Cause.TheVariants.{BadCharacter, UnendedText, UnendedComment, NumberTooWide}
use Rattle.cs_token.specs.declared.token.Sign.{Sign}
use Rattle.cs_token.specs.declared.written.Form.TheVariants.{Quoted, Part}
use Rattle.cs_token.specs.Characters.{is_in, AreAll, IsRun, begins_with}
use Rattle.cs_token.specs.Lexemes.{is_code, is_in_line, has_end}
use Rattle.cs_token.specs.Signs.{mark, is_of_code}
use Rattle.cs_token.specs.Written.{IsWritten, NoUnit}

-- the line ends here, or the text does
abbrev pub EndsLine : List ℕ → Type 0
EndsLine rest = begins_with class.Inline rest ≡ false

-- no sign of code begins the text
abbrev pub NoSign : List ℕ → Type 0
NoSign text = (sign : Sign) (rest : List ℕ) → is_of_code sign ≡ true → text ≡ mark sign ++ rest → ⊥

-- where this is open, the text can't go on, for this cause: it is wrong behind the first list of characters, from the second on
pub data IsWrong : Option Around → Cause → List ℕ → List ℕ → Type 0 where
  -- the character begins nothing
  bad_character : (around : Option Around) (c : ℕ) (rest : List ℕ) → is_code around ≡ true →
      is_in class.White c ≡ false → is_in class.Word c ≡ false → c ≢ 34 → NoSign (c ∷ rest) →
      IsWrong around BadCharacter [] (c ∷ rest)
  -- in a text in double quotes the character writes nothing, and neither the text nor its line ends there
  bad_escape : (around : Option Around) (body said : List ℕ) (c : ℕ) (rest : List ℕ) → is_code around ≡ true →
      IsWritten Quoted body said → NoUnit Quoted (c ∷ rest) → c ≢ 34 → c ≢ 10 →
      IsWrong around BadCharacter (34 ∷ body) (c ∷ rest)
  -- the same in the literal text of an interpolated text, and no hole begins there
  bad_part : (c : ℕ) (rest : List ℕ) → NoUnit Part (c ∷ rest) → c ≢ 34 → c ≢ 10 → c ≢ 123 →
      IsWrong (Some Interpolation) BadCharacter [] (c ∷ rest)
  -- the line ends in a text in double quotes
  unended_text : (around : Option Around) (body said rest : List ℕ) → is_code around ≡ true →
      IsWritten Quoted body said → EndsLine rest → IsWrong around UnendedText [] (34 ∷ (body ++ rest))
  -- the line ends in an interpolated text, between tokens
  unended_line : (around : Option Around) (rest : List ℕ) → is_in_line around ≡ true → EndsLine rest →
      IsWrong around UnendedText [] rest
  -- the line ends in an interpolated text, in a comment
  unended_line_in_comment : (around : Option Around) (body rest : List ℕ) → is_code around ≡ true → is_in_line around ≡ true →
      AreAll class.Inline body → has_end body ≡ false → EndsLine rest →
      IsWrong around UnendedText [] (codes "/*" ++ (body ++ rest))
  -- no end of the comment follows
  unended_comment : (body : List ℕ) → has_end body ≡ false → IsWrong None UnendedComment [] (codes "/*" ++ body)
  -- digits, as many as there are, that say no number of 32 bits
  too_wide : (around : Option Around) (digits rest : List ℕ) → is_code around ≡ true →
      IsRun class.Digit digits → begins_with class.Digit rest ≡ false → i32_of digits ≡ None →
      IsWrong around NumberTooWide [] (digits ++ rest)
