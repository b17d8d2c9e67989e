-- Reading a schedule part by part.
use Rattle.std.proofs.Common.{◌≡◌, ℕ, ◌+◌, suc, Bool, true, false, List, [], ◌∷◌, ◌++◌, length, Some, None, Result, Ok, Err, refl, String, arith}
use Rattle.std.specs.declared.alloc.Global.{Global}
use Rattle.std.specs.declared.option.Option.{Option}
use Rattle.std.specs.Prelude.{IsUtf8}
use Rattle.std.specs.Str.{is_utf8}
use Rattle.std.proofs.lemmas.Str.{is_utf8-from_IsUtf8, IsUtf8-from_is_utf8}
use Rattle.serde_json.specs.Data.{Data}
use Rattle.serde_json.specs.Read.{read}
use Rattle.serde_json.specs.View.{members_view}
use Rattle.serde_json.specs.declared.value.Value.{Value}
use Rattle.schedule_replay.specs.Schedule.{count, json_of}

-- an object has as many members as its map has entries
pub count-view : (members : List (String Global × Value)) → count (members_view members) ≡ length members
count-view [] = refl
count-view (member ∷ members) = let rest = count-view members in omega (arith, rest)

-- bytes that are JSON, and bytes that are none
pub json-read : (bytes : List ℕ) (found : Data) → IsUtf8 bytes → read bytes ≡ Some found → json_of bytes ≡ Some found
json-read bytes found text is = rw (is_utf8-from_IsUtf8 bytes text) is

json-tested : (bytes : List ℕ) (test : Bool) → is_utf8 bytes ≡ test → (IsUtf8 bytes → read bytes ≡ None) → json_of bytes ≡ None
json-tested bytes true is refused = rw is (refused (IsUtf8-from_is_utf8 bytes is))
json-tested bytes false is refused = rw is refl

pub json-refused : (bytes : List ℕ) → (IsUtf8 bytes → read bytes ≡ None) → json_of bytes ≡ None
json-refused bytes refused = json-tested bytes (is_utf8 bytes) refl refused
