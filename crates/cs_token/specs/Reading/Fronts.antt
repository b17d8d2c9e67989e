-- How what stands at the front of a text is read.
use Rattle.std.specs.Prelude.{ℕ, ℤ, Bool, not, ◌&&◌, ◌==◌, List, [], ◌∷◌, length, Option, Some, None, is_some, Result, Ok, Err, codes, if◌then◌else◌}
use Rattle.text_core.specs.Decimal.{i32_of}
use Rattle.cs_token.specs.declared.around.Around.{Around}
use Rattle.cs_token.specs.declared.around.Around.TheVariants as around
use Rattle.cs_token.specs.declared.characters.Class.TheVariants as class
use Rattle.cs_token.specs.declared.fault.Cause.{Cause}
use Rattle.cs_token.specs.declared.fault.Cause.TheVariants.{BadCharacter, UnendedText, UnendedComment, NumberTooWide}
use Rattle.cs_token.specs.declared.front.Front.{Front}
use Rattle.cs_token.specs.declared.front.Front.TheVariants as front
use Rattle.cs_token.specs.declared.token.Sign.{Sign}
use Rattle.cs_token.specs.declared.token.Sign.TheVariants as s
use Rattle.cs_token.specs.declared.token.TokenKind.{TokenKind}
use Rattle.cs_token.specs.declared.token.TokenKind.TheVariants as kind
use Rattle.cs_token.specs.declared.token.Word.{Word}
use Rattle.cs_token.specs.declared.written.Form.TheVariants.{Quoted, Part}
use Rattle.cs_token.specs.Characters.{begins_with}
use Rattle.cs_token.specs.Signs.{mark}
use Rattle.cs_token.specs.Reading.Runs as runs
use Rattle.cs_token.specs.Reading.Runs.{past, strip}
use Rattle.cs_token.specs.Reading.Signs.{sign_at}
use Rattle.cs_token.specs.Reading.Words.{word_of}
use Rattle.cs_token.specs.Reading.Written.{said_at}

-- a token, or none for white space and a comment, and what stands behind it; or what is wrong, and the text from there on
abbrev pub Read : Type 0
Read = Result (Option TokenKind × List ℕ) (Cause × List ℕ)

-- what the code answers
abbrev pub read : Front → Read
read (front.Piece kind rest) = Ok (kind, rest.now)
read (front.Wrong cause from) = Err (cause, from.now)

-- behind this front, or else otherwise
abbrev pub behind : Option (List ℕ) → (List ℕ → Read) → Read → Read
behind (Some rest) found otherwise = found rest
behind None found otherwise = otherwise

-- nothing goes on
abbrev pub stopped_at : List ℕ → List ℕ → Read
stopped_at opening rest = if begins_with class.Inline rest then Err (BadCharacter, rest) else Err (UnendedText, opening)

-- behind the end of a comment
abbrev pub past_end : Bool → List ℕ → Option (List ℕ)
past_end in_line [] = None
past_end in_line (c ∷ text) =
    if is_some (strip (codes "*/") (c ∷ text)) then strip (codes "*/") (c ∷ text)
    else if in_line && (c == 10) then None
    else past_end in_line text

-- a comment, from its opening on
abbrev pub comment_at : Bool → List ℕ → List ℕ → Read
comment_at in_line opening body =
    behind (past_end in_line body) (λ rest. Ok (None, rest)) (if in_line then Err (UnendedText, opening) else Err (UnendedComment, opening))

-- a text in double quotes, from the opening one on
abbrev pub text_at : List ℕ → List ℕ → Read
text_at opening body =
    let text = said_at Quoted body in
    behind (strip (34 ∷ []) text.1) (λ rest. Ok (Some (kind.Text text.0), rest)) (stopped_at opening text.1)

-- in the literal text of an interpolated text
unfoldable pub part_at : List ℕ → Read
part_at text =
    let part = said_at Part text in
    if not (length part.0 == 0) then Ok (Some (kind.Part part.0), part.1)
    else behind (strip (34 ∷ []) part.1) (λ rest. Ok (Some (kind.Sign s.InterpolationEnd), rest))
    (behind (strip (123 ∷ []) part.1) (λ rest. Ok (Some (kind.Sign s.HoleOpen), rest))
    (stopped_at part.1 part.1))

-- a word, or a name
abbrev pub name_kind : Option Word → List ℕ → TokenKind
name_kind (Some word) name = kind.Word word
name_kind None name = kind.Name name

abbrev pub name_at : List ℕ → Read
name_at text = let name = runs.front class.Word text in Ok (Some (name_kind (word_of name) name), past class.Word text)

-- a number
abbrev pub number_kind : Option ℤ → List ℕ → List ℕ → Read
number_kind (Some number) text rest = Ok (Some (kind.Number number), rest)
number_kind None text rest = Err (NumberTooWide, text)

abbrev pub digits_at : List ℕ → Read
digits_at text = number_kind (i32_of (runs.front class.Digit text)) text (past class.Digit text)

-- a sign as it is meant here
abbrev pub sign_in : Option Around → Sign → Sign
sign_in (Some around.Hole) s.CloseBrace = s.HoleClose
sign_in around sign = sign

abbrev pub sign_read : Option Around → List ℕ → Option Sign → Read
sign_read around text (Some sign) =
    behind (strip (mark sign) text) (λ rest. Ok (Some (kind.Sign (sign_in around sign)), rest)) (stopped_at text text)
sign_read around text None = stopped_at text text

abbrev pub sign_here : Option Around → List ℕ → Read
sign_here around text = sign_read around text (sign_at text)

-- white space
abbrev pub white_at : Bool → List ℕ → Read
white_at in_line [] = Err (UnendedText, [])
white_at in_line (c ∷ rest) = if in_line && (c == 10) then Err (UnendedText, c ∷ rest) else Ok (None, rest)

-- in code
unfoldable pub code_at : Option Around → List ℕ → Read
code_at around text =
    if begins_with class.White text then white_at (is_some around) text
    else if begins_with class.Letter text then name_at text
    else if begins_with class.Digit text then digits_at text
    else behind (strip (34 ∷ []) text) (text_at text)
    (behind (strip (codes "//") text) (λ body. Ok (None, past class.Inline body))
    (behind (strip (codes "/*") text) (comment_at (is_some around) text)
    (sign_here around text)))

-- what stands at the front of a text, where this is opening round it
abbrev pub front_at : Option Around → List ℕ → Read
front_at (Some around.Interpolation) text = part_at text
front_at around text = code_at around text
