-- The members of the library.
use Rattle.std.specs.Prelude.{ℕ, pos, ◌+◌, ◌-◌, ◌^◌, min, nat_le, ◌==◌, if◌then◌else◌, List, [], ◌∷◌, ◌++◌, length, count_by, slice_set, insert, remove, true, false}
use Rattle.cs_ast.specs.Texts.{text_of}
use Rattle.cs_ast.specs.declared.value.Value.{Value}
use Rattle.cs_ast.specs.declared.value.Value.TheVariants as v
use Rattle.cs_ast.specs.declared.code.LibraryMember.{LibraryMember}
use Rattle.cs_ast.specs.declared.code.LibraryMember.TheVariants as member
use Rattle.cs_meaning.specs.State.{State}
use Rattle.cs_meaning.specs.Outcome.{Outcome, gives, stuck, Meaning, and_then, found}
use Rattle.cs_meaning.specs.Kinds.{string_of, is_null, items_of, callback_of}
use Rattle.cs_meaning.specs.NewValues.{made}
use Rattle.cs_meaning.specs.Reading.{used, place_of}

-- the only argument, the two or the three
abbrev pub one_of : List Value → State → Outcome Value
one_of (x ∷ []) s = gives x s
one_of _ s = stuck

abbrev pub two_of : List Value → State → Outcome (Value × Value)
two_of (x ∷ y ∷ []) s = gives (x, y) s
two_of _ s = stuck

abbrev pub three_of : List Value → State → Outcome (Value × Value × Value)
three_of (x ∷ y ∷ z ∷ []) s = gives (x, y, z) s
three_of _ s = stuck

-- a count as a number, or the greatest number where it is greater
abbrev pub counted : ℕ → Meaning
counted n s = gives (v.Int (pos (min n (2 ^ 31 - 1)))) s

-- the UTF-16 units of a text: two for a character from U+10000 on, one for any other
abbrev pub utf16_units : List ℕ → ℕ
utf16_units text = length text + count_by (λ character. nat_le 65536 character) text

abbrev pub length_of : Value → Meaning
length_of x s = and_then (used x (string_of x) s) (λ text s1. counted (utf16_units text) s1)

-- a number, true, false or a text as a text, which is a new one
abbrev pub to_text : Value → Meaning
to_text x s = and_then (used x (text_of x) s) (λ text s1. made (v.Text text) s1)

-- null, or a text without characters
abbrev pub is_null_or_empty : Value → Meaning
is_null_or_empty x s = if is_null x then gives (v.Bool true) s else and_then (found (string_of x) s) (λ text s1. gives (v.Bool (length text == 0)) s1)

abbrev pub count_of : Value → Meaning
count_of x s = and_then (used x (items_of x) s) (λ items s1. counted (length items) s1)

abbrev pub list_add : Value → Value → Meaning
list_add x item s = and_then (used x (items_of x) s) (λ items s1. made (v.List (items ++ item ∷ [])) s1)

-- before the item at this index, or at the end
abbrev pub list_insert : Value → Value → Value → Meaning
list_insert x place item s = and_then (used x (items_of x) s) (λ items s1. and_then (place_of (length items + 1) place s1) (λ at s2. made (v.List (insert items at item)) s2))

abbrev pub list_remove : Value → Value → Meaning
list_remove x place s = and_then (used x (items_of x) s) (λ items s1. and_then (place_of (length items) place s1) (λ at s2. made (v.List (remove items at)) s2))

abbrev pub list_set : Value → Value → Value → Meaning
list_set x place item s = and_then (used x (items_of x) s) (λ items s1. and_then (place_of (length items) place s1) (λ at s2. made (v.List (slice_set items at item)) s2))

-- whether a callback is set
abbrev pub has_delegate : Value → Meaning
has_delegate x s = if is_null x then gives (v.Bool false) s else and_then (found (callback_of x) s) (λ it s1. gives (v.Bool true) s1)

-- the text of a change, which stands for the change itself
abbrev pub change_value : Value → Meaning
change_value x s = and_then (used x (string_of x) s) (λ text s1. gives x s1)

-- a member over its target, if it has one, and its arguments
abbrev pub library : LibraryMember → List Value → Meaning
library member.Length xs s = and_then (one_of xs s) length_of
library member.ToText xs s = and_then (one_of xs s) to_text
library member.IsNullOrEmpty xs s = and_then (one_of xs s) is_null_or_empty
library member.EmptyList xs s = if length xs == 0 then made (v.List []) s else stuck
library member.Count xs s = and_then (one_of xs s) count_of
library member.Add xs s = and_then (two_of xs s) (λ it. list_add it.0 it.1)
library member.Insert xs s = and_then (three_of xs s) (λ it. list_insert it.0 it.1 it.2)
library member.RemoveAt xs s = and_then (two_of xs s) (λ it. list_remove it.0 it.1)
library member.SetItem xs s = and_then (three_of xs s) (λ it. list_set it.0 it.1 it.2)
library member.HasDelegate xs s = and_then (one_of xs s) has_delegate
library member.ChangeValue xs s = and_then (one_of xs s) change_value
