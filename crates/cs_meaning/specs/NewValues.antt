-- New texts, lists and records, and what they cost.
use Rattle.std.specs.Prelude.{ℕ, ◌/◌, ◌++◌, nat_lt, if◌then◌else◌, List, [], ◌∷◌, Option, Some, None}
use Rattle.cs_ast.specs.Sizes.{size_of}
use Rattle.cs_ast.specs.Texts.{text_of}
use Rattle.cs_ast.specs.declared.value.Value.{Value}
use Rattle.cs_ast.specs.declared.value.Value.TheVariants as v
use Rattle.cs_meaning.specs.declared.fault.Fault.TheVariants.{ValueTooLarge}
use Rattle.cs_meaning.specs.Outcome.{gives, faults, Meaning, and_then, charged, found}

-- a new value costs one unit for each 64 of its size, and then it must not be too large
abbrev pub made : Value → Meaning
made x s = charged (size_of x / 64) s (λ s1. if nat_lt 1048576 (size_of x) then faults ValueTooLarge s1 else gives x s1)

-- a new text, where there is one
abbrev pub new_text : Option (List ℕ) → Meaning
new_text text s = and_then (found text s) (λ it s1. made (v.Text it) s1)

-- the second text behind the first, where both are there
abbrev pub appended : Option (List ℕ) → Option (List ℕ) → Option (List ℕ)
appended (Some text) (Some more) = Some (text ++ more)
appended _ _ = None

-- what these values show, one behind the other, where each shows a text
unfoldable pub texts_of : List Value → Option (List ℕ)
texts_of [] = Some []
texts_of (x ∷ xs) = appended (text_of x) (texts_of xs)
