-- From a file's name to a stem, and from its text to the text that is read.
use Rattle.std.specs.Prelude.{ℕ, ◌-◌, ◌&&◌, ◌==◌, List, [], ◌∷◌, length, take, drop, codes, if◌then◌else◌}
use Rattle.std.specs.List.{list_any}
use Rattle.std.specs.Str.{bytes_eq}

-- what stands behind the last slash
abbrev pub behind_slash : List ℕ → List ℕ
behind_slash [] = []
behind_slash (c ∷ name) = if list_any (λ d. d == 47) (c ∷ name) then behind_slash name else c ∷ name

-- what stands before a last `.razor`, or nothing where the name doesn't end so
abbrev pub before_ending : List ℕ → List ℕ
before_ending name = if bytes_eq (drop (length name - 6) name) (codes ".razor") then take (length name - 6) name else []

-- the stem of a file's name
unfoldable pub stem : List ℕ → List ℕ
stem name = before_ending (behind_slash name)

-- without a mark U+FEFF at its head
abbrev pub without_mark : List ℕ → List ℕ
without_mark [] = []
without_mark (c ∷ text) = if c == 65279 then text else c ∷ text

-- a carriage return before a line feed is left out
abbrev pub with_feeds : List ℕ → List ℕ
with_feeds [] = []
with_feeds (c ∷ []) = c ∷ []
with_feeds (c ∷ d ∷ text) = if (c == 13) && (d == 10) then with_feeds (d ∷ text) else c ∷ with_feeds (d ∷ text)

-- the text that is read
unfoldable pub text_read : List ℕ → List ℕ
text_read text = with_feeds (without_mark text)
