-- What stands at the front of content.
use Rattle.std.specs.Prelude.{ℕ, ◌+◌, ◌==◌, Bool, true, false, ◌&&◌, ◌||◌, List, [], ◌∷◌, length, take, drop, codes, Option, Some, None, if◌then◌else◌}
use Rattle.std.specs.Str.{bytes_eq}
use Rattle.cs_token.specs.declared.characters.Class.TheVariants as class
use Rattle.cs_token.specs.Characters.{is_in, begins_with}
use Rattle.razor_token.specs.declared.context.Context.{Context}
use Rattle.razor_token.specs.declared.context.Context.TheVariants as x
use Rattle.razor_token.specs.declared.found.Found.{Found}
use Rattle.razor_token.specs.declared.piece.PieceKind.TheVariants as k
use Rattle.razor_token.specs.declared.runs.RunKind.{RunKind}
use Rattle.razor_token.specs.declared.runs.RunKind.TheVariants as r
use Rattle.razor_token.specs.Runs.{run, begins, count_to}
use Rattle.razor_token.specs.Tags.{is_component, is_void}
use Rattle.razor_token.specs.Contexts.{stays, leaves, enters, enters_both, becomes}
use Rattle.razor_token.specs.Pieces.{piece, literal}
use Rattle.razor_token.specs.Directives.{named_directive, page_directive, implements_directive, is_directive}

-- a comment behind its first two characters, of which the end is so many characters away
abbrev pub comment_to : Option ℕ → Option Found
comment_to None = None
comment_to (Some count) = piece k.Comment (count + 2) stays

-- a letter or a digit
abbrev pub is_word : Option ℕ → Bool
is_word None = false
is_word (Some c) = is_in class.Word c

-- An at sign is literal text where a letter or a digit stands right before it and right behind it.
abbrev pub is_within_word : Option ℕ → List ℕ → Bool
is_within_word last behind = is_word last && begins_with class.Word behind

-- an expression behind an at sign: in brackets, or a name
abbrev pub shown_at : List ℕ → Option Found
shown_at text =
    if begins (codes "(") (drop 1 text) then piece k.At 1 (enters_both x.Closing x.Opening)
    else if begins_with class.Letter (drop 1 text) then piece k.At 1 (enters (x.Name None))
    else None

-- the words that begin code with markup
abbrev pub is_code_word : List ℕ → Bool
is_code_word word =
    bytes_eq word (codes "if") || bytes_eq word (codes "switch") || bytes_eq word (codes "for") || bytes_eq word (codes "foreach") || bytes_eq word (codes "while")

-- what a word behind an at sign means at the top of a file
abbrev pub top_word : List ℕ → List ℕ → Option Found
top_word word text =
    if bytes_eq word (codes "code") then piece k.MembersAt 5 (enters x.Members)
    else if bytes_eq word (codes "implements") then implements_directive text
    else if bytes_eq word (codes "page") then page_directive text
    else if is_directive word then named_directive (length word + 1) text
    else shown_at text

-- what stands behind an at sign, if it is a word
abbrev pub word_behind : List ℕ → List ℕ
word_behind text = let behind = drop 1 text in take (run r.Word behind) behind

-- no context is open
abbrev pub is_top : Option Context → Bool
is_top None = true
is_top (Some context) = false

-- an at sign before a word
abbrev pub word_at : Option Context → List ℕ → List ℕ → Option Found
word_at context word text =
    if is_code_word word then piece k.CodeAt 1 (enters (x.Head false))
    else if is_top context then top_word word text
    else shown_at text

-- an at sign that isn't literal text and begins no comment
unfoldable pub transition_at : Option Context → List ℕ → Option Found
transition_at context text =
    if begins (codes "{") (drop 1 text) then piece k.CodeAt 1 (enters (x.Head false)) else word_at context (word_behind text) text

-- an at sign
unfoldable pub at_sign : Option Context → Option ℕ → List ℕ → Option Found
at_sign context last text =
    if begins (codes "@@") text then piece (k.Literal (codes "@")) 2 stays
    else if begins (codes "@*") text then comment_to (count_to (codes "*@") (drop 2 text))
    else if is_within_word last (drop 1 text) then piece (k.Literal (codes "@")) 1 stays
    else transition_at context text

-- `<` and a name of so many characters
abbrev pub tag_of : ℕ → List ℕ → Option Found
tag_of count text =
    let name = take count (drop 1 text) in
    if count == 0 then None else piece (k.TagStart name) (count + 1) (enters (x.StartTag (is_component name) (is_void name)))

-- `</` and a name of so many characters
abbrev pub end_tag_of : ℕ → List ℕ → Option Found
end_tag_of count text = if count == 0 then None else piece (k.EndTagStart (take count (drop 2 text))) (count + 2) (becomes x.EndTag)

-- content of a tag stands there
abbrev pub is_element : Option Context → Bool
is_element (Some x.Element) = true
is_element _ = false

-- a `<`: a comment, an end tag, or a start tag
unfoldable pub tag_sign : Option Context → List ℕ → Option Found
tag_sign context text =
    if begins (codes "<!--") text then comment_to (count_to (codes "-->") (drop 2 text))
    else if begins (codes "</") text then (if is_element context then end_tag_of (run r.TagName (drop 2 text)) text else None)
    else tag_of (run r.TagName (drop 1 text)) text

-- the content behind `@:` stands there
abbrev pub is_line : Option Context → Bool
is_line (Some x.Line) = true
is_line _ = false

-- the characters of literal text there
abbrev pub content_run : Option Context → RunKind
content_run context = if is_line context then r.InLine else r.Content

-- content of the innermost context or of the file, with this character before it
unfoldable pub content_at : Option Context → Option ℕ → List ℕ → Option Found
content_at context last text =
    if begins (codes "@") text then at_sign context last text
    else if begins (codes "<") text then tag_sign context text
    else literal (run (content_run context) text) text

-- content behind `@:`, which ends before a line feed
unfoldable pub line_at : Option ℕ → List ℕ → Option Found
line_at last text =
    if begins (10 ∷ []) text then piece k.LineEnd 0 leaves else content_at (Some x.Line) last text
