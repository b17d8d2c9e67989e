-- Characters of one kind, and runs of them.
use Rattle.std.specs.Prelude.{ℕ, ◌+◌, Bool, not, ◌&&◌, ◌||◌, ◌==◌, List, [], ◌∷◌, length, Option, Some, None, option_map, is_some, if◌then◌else◌}
use Rattle.cs_token.specs.declared.characters.Class.TheVariants as class
use Rattle.cs_token.specs.Characters.{is_in}
use Rattle.cs_token.specs.Reading.Runs.{strip}
use Rattle.razor_token.specs.declared.runs.RunKind.{RunKind}
use Rattle.razor_token.specs.declared.runs.RunKind.TheVariants as r

-- of the kind
abbrev pub is_of : RunKind → ℕ → Bool
is_of r.TagName c = is_in class.Word c || (c == 45)
is_of r.AttributeName c = is_in class.Word c || (c == 45) || (c == 58) || (c == 46)
is_of r.Word c = is_in class.Word c
is_of r.White c = is_in class.White c
is_of r.Blank c = (c == 32) || (c == 9) || (c == 13)
is_of r.Content c = not ((c == 64) || (c == 60))
is_of r.InLine c = not ((c == 64) || (c == 60) || (c == 10))
is_of r.DoubleQuoted c = not ((c == 64) || (c == 34))
is_of r.SingleQuoted c = not ((c == 64) || (c == 39))
is_of r.PageText c = not ((c == 34) || (c == 10))

-- how many characters of the kind stand at the front
abbrev pub run : RunKind → List ℕ → ℕ
run kind [] = 0
run kind (c ∷ text) = if is_of kind c then run kind text + 1 else 0

-- these characters stand at the front
abbrev pub begins : List ℕ → List ℕ → Bool
begins front text = is_some (strip front text)

-- how many characters stand up to the first of these, themselves among them
abbrev pub count_to : List ℕ → List ℕ → Option ℕ
count_to end [] = None
count_to end (c ∷ text) = if begins end (c ∷ text) then Some (length end) else option_map (λ n. n + 1) (count_to end text)

-- of a value without quotes: neither white space, a quote, `@`, `=`, `<`, `>` nor a backquote
abbrev pub is_bare : ℕ → Bool
is_bare c = not (is_in class.White c || (c == 34) || (c == 39) || (c == 64) || (c == 61) || (c == 60) || (c == 62) || (c == 96))

-- how many characters of such a value stand at the front; it ends before `/>`
abbrev pub bare_run : List ℕ → ℕ
bare_run [] = 0
bare_run (c ∷ text) = if is_bare c && not (begins (47 ∷ 62 ∷ []) (c ∷ text)) then bare_run text + 1 else 0
