-- Calls of methods, callbacks and fragments.
use Rattle.std.specs.Prelude.{ℕ, if◌then◌else◌, List, [], ◌∷◌, ◌++◌, slice_get, Option, Some, None}
use Rattle.cs_ast.specs.declared.value.Value.{Value}
use Rattle.cs_ast.specs.declared.value.Value.TheVariants as v
use Rattle.cs_meaning.specs.State.{with_receiver}
use Rattle.cs_meaning.specs.Outcome.{gives, Meaning, and_then, found}
use Rattle.cs_meaning.specs.Kinds.{is_null, fragment_of, callback_of}
use Rattle.cs_meaning.specs.Reading.{used}
use Rattle.cs_meaning.specs.Scopes.{nothing, all_of}

-- what a body means by its number, as code of an instance, over locals of its own
abbrev pub Running : Type 0
Running = ℕ → ℕ → List Value → Meaning

-- the locals of a body that gets these arguments: one local at least, null where there is no argument
abbrev pub filled : List Value → List Value
filled [] = v.Null ∷ []
filled (x ∷ xs) = x ∷ xs

-- a call of a method of the same instance
abbrev pub called : Running → ℕ → ℕ → List Meaning → Meaning
called run who number arguments s = and_then (all_of arguments s) (λ xs s1. run who number (filled xs) s1)

-- a value in front of others, where all are there
abbrev pub in_front : Option Value → Option (List Value) → Option (List Value)
in_front (Some x) (Some xs) = Some (x ∷ xs)
in_front _ _ = None

-- the locals at these positions
unfoldable pub picked : List Value → List ℕ → Option (List Value)
picked locals [] = Some []
picked locals (at ∷ positions) = in_front (slice_get locals at) (picked locals positions)

-- a method or lambda as a value, with the locals that it captures as they are now
abbrev pub callback : ℕ → ℕ → List ℕ → Meaning
callback who number positions s = and_then (found (picked s.locals positions) s) (λ captures s1. gives (v.Callback who number captures) s1)

-- a callback runs in its receiver, over its captures and its argument; one that isn't set does nothing
abbrev pub invoked : Running → Value → Value → Meaning
invoked run x argument s =
    if is_null x then nothing s
    else and_then (found (callback_of x) s) (λ it s1. and_then (run it.0 it.1 (it.2 ++ argument ∷ []) (with_receiver it.0 s1)) (λ y s2. nothing s2))

-- a fragment with one more captured value
abbrev pub with_capture : Value → Value → Meaning
with_capture x more s = and_then (used x (fragment_of x) s) (λ it s1. gives (v.Fragment it.0 it.1 (it.2 ++ more ∷ [])) s1)
