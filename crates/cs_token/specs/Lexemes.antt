-- What can stand at a place of C# text: white space and comments, and the tokens.
use Rattle.std.specs.Prelude.{◌≡◌, ◌≢◌, ℕ, ◌≤◌, ◌<◌, ℤ, Bool, true, false, not, ◌||◌, ◌&&◌, ◌==◌, List, [], ◌∷◌, ◌++◌, length, Option, Some, None, is_some, codes}
use Rattle.std.specs.List.{list_all}
use Rattle.text_core.specs.Decimal.{i32_of}
use Rattle.cs_token.specs.declared.around.Around.{Around}
use Rattle.cs_token.specs.declared.around.Around.TheVariants.{Interpolation, Hole}
use Rattle.cs_token.specs.declared.characters.Class.TheVariants as class
use Rattle.cs_token.specs.declared.token.Sign.{Sign}
use Rattle.cs_token.specs.declared.token.Sign.TheVariants.{CloseBrace, HoleOpen, HoleClose, InterpolationEnd}
use Rattle.cs_token.specs.declared.token.TokenKind.{TokenKind}
use Rattle.cs_token.specs.declared.token.TokenKind.TheVariants as kind
use Rattle.cs_token.specs.declared.token.Word.{Word}
use Rattle.cs_token.specs.declared.written.Form.TheVariants.{Quoted, Part}
use Rattle.cs_token.specs.Characters.{is_in, AreAll, IsRun, IsName, begins_with}
use Rattle.cs_token.specs.Signs.{mark, is_of_code}
use Rattle.cs_token.specs.Words.{spelling}
use Rattle.cs_token.specs.Written.{IsWritten, NoUnit}

-- code stands here: all places but the literal text of an interpolated text
abbrev pub is_code : Option Around → Bool
is_code (Some Interpolation) = false
is_code _ = true

-- the line doesn't end here: inside an interpolated text
abbrev pub is_in_line : Option Around → Bool
is_in_line = is_some

-- no line feed where the line doesn't end
abbrev pub keeps_line : Option Around → List ℕ → Bool
keeps_line around text = not (is_in_line around) || list_all (is_in class.Inline) text

-- `*/` begins the text
abbrev pub begins_end : List ℕ → Bool
begins_end (c ∷ d ∷ text) = (c == 42) && (d == 47)
begins_end _ = false

-- `*/` stands somewhere in the text
abbrev pub has_end : List ℕ → Bool
has_end [] = false
has_end (c ∷ text) = begins_end (c ∷ text) || has_end text

-- white space or a comment, with this rest behind it
pub data IsGap (around : Option Around) : List ℕ → List ℕ → Type 0 where
  white : (c : ℕ) (rest : List ℕ) → is_in class.White c ≡ true → keeps_line around (c ∷ []) ≡ true → IsGap around (c ∷ []) rest
  -- `//`, to the line's end
  line : (body rest : List ℕ) → AreAll class.Inline body → begins_with class.Inline rest ≡ false → IsGap around (codes "//" ++ body) rest
  -- `/*`, to the first `*/`
  block : (body rest : List ℕ) → keeps_line around body ≡ true → has_end (body ++ codes "*") ≡ false →
      IsGap around (codes "/*" ++ (body ++ codes "*/")) rest

-- the sign stands before this rest, and neither a longer sign nor a comment begins there
pub record IsLongest (sign : Sign) (rest : List ℕ) : Type 0 where
  pub of_code : is_of_code sign ≡ true
  pub longest : (other : Sign) (more : List ℕ) → is_of_code other ≡ true → mark sign ++ rest ≡ mark other ++ more →
      length (mark other) ≤ length (mark sign)
  pub no_line : (more : List ℕ) → mark sign ++ rest ≡ codes "//" ++ more → ⊥
  pub no_block : (more : List ℕ) → mark sign ++ rest ≡ codes "/*" ++ more → ⊥

-- where this is open, this text stands as a token of that kind, or as none, with this rest behind it
pub data Stands : Option Around → Option TokenKind → List ℕ → List ℕ → Type 0 where
  gap : (around : Option Around) (text rest : List ℕ) → is_code around ≡ true →
      IsGap around text rest → Stands around None text rest
  -- a letter, then letters and digits, as many as there are, that are no word of their own
  name : (around : Option Around) (text rest : List ℕ) → is_code around ≡ true →
      IsName text → begins_with class.Word rest ≡ false → ((word : Word) → text ≢ spelling word) →
      Stands around (Some (kind.Name text)) text rest
  word : (around : Option Around) (w : Word) (rest : List ℕ) → is_code around ≡ true →
      begins_with class.Word rest ≡ false → Stands around (Some (kind.Word w)) (spelling w) rest
  -- digits, as many as there are, that say a number of 32 bits
  number : (around : Option Around) (n : ℤ) (digits rest : List ℕ) → is_code around ≡ true →
      IsRun class.Digit digits → begins_with class.Digit rest ≡ false → i32_of digits ≡ Some n →
      Stands around (Some (kind.Number n)) digits rest
  -- a double quote, written characters and a double quote
  text : (around : Option Around) (body said rest : List ℕ) → is_code around ≡ true →
      IsWritten Quoted body said → Stands around (Some (kind.Text said)) (34 ∷ (body ++ 34 ∷ [])) rest
  sign : (around : Option Around) (s : Sign) (rest : List ℕ) → is_code around ≡ true →
      IsLongest s rest → (around ≡ Some Hole → s ≢ CloseBrace) → Stands around (Some (kind.Sign s)) (mark s) rest
  -- the brace that isn't open in the hole ends it
  hole_close : (rest : List ℕ) → Stands (Some Hole) (Some (kind.Sign HoleClose)) (mark HoleClose) rest
  -- written characters, as many as there are, and not none
  part : (body said rest : List ℕ) → 0 < length said → IsWritten Part body said → NoUnit Part rest →
      Stands (Some Interpolation) (Some (kind.Part said)) body rest
  -- a single brace
  hole_open : (rest : List ℕ) → ((more : List ℕ) → rest ≢ codes "{" ++ more) →
      Stands (Some Interpolation) (Some (kind.Sign HoleOpen)) (mark HoleOpen) rest
  interpolation_end : (rest : List ℕ) →
      Stands (Some Interpolation) (Some (kind.Sign InterpolationEnd)) (mark InterpolationEnd) rest
