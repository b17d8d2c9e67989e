-- Texts as bytes: the length of the text in UTF-8, and the UTF-8.
use Rattle.std.specs.Prelude.{◌≡◌, ℕ, false, List, ◌++◌, length, take, drop, Result, Ok, Err, nat_lt, if◌then◌else◌, encode_utf8_all}
use Rattle.std.specs.Str.{chars, is_utf8}
use Rattle.text_core.specs.declared.wire_fault.WireFault.{WireFault}
use Rattle.text_core.specs.declared.wire_fault.WireFault.TheVariants.{BadLength, Short, BadUtf8, Oom}
use Rattle.text_core.specs.LengthGroups.{groups, length_at}

-- the bytes of a text: its length in at most four groups, and its UTF-8
unfoldable pub text_bytes : List ℕ → List ℕ
text_bytes text = groups 3 (length (encode_utf8_all text)) ++ encode_utf8_all text

-- the text of so many bytes at the front, and what follows it
abbrev pub content_at : ℕ → List ℕ → Result (List ℕ × List ℕ) WireFault
content_at size bytes =
    if nat_lt (length bytes) size then Err Short
    else if is_utf8 (take size bytes) then Ok (chars (take size bytes), drop size bytes)
    else Err BadUtf8

-- what these bytes say behind their length, if they begin with one
abbrev pub behind_length : Result (ℕ × List ℕ) WireFault → Result (List ℕ × List ℕ) WireFault
behind_length (Ok found) = content_at found.0 found.1
behind_length (Err fault) = Err fault

-- the text whose bytes stand at the front, and what follows it; or what is wrong there
unfoldable pub text_at : List ℕ → Result (List ℕ × List ℕ) WireFault
text_at bytes = behind_length (length_at 3 false bytes)

-- a call failed by the fault that was read, or for want of memory
abbrev pub Fails : {X : Type 0} → WireFault → Result X WireFault → Type 0
Fails BadLength read = read ≡ Err BadLength
Fails Short read = read ≡ Err Short
Fails BadUtf8 read = read ≡ Err BadUtf8
Fails Oom read = Unit {0}

-- a call gave what was read, seen by view
abbrev pub Gives : {X Y : Type 0} → (X → Y) → Result X WireFault → Result Y WireFault → Type 0
Gives view (Ok given) read = read ≡ Ok (view given)
Gives view (Err fault) read = Fails fault read
