-- Parts of records at positions, and locals picked out.
use Rattle.std.proofs.Common.{◌≡◌, ℕ, suc, List, [], ◌∷◌, ◌++◌, length, refl, sym, ap, append_assoc, arith}
use Rattle.std.specs.Prelude.{nat_lt, if◌then◌else◌, slice_set, option_map, Option, Some, None, true, false}
use Rattle.std.specs.Prelude.{Bool as Truth}
use Rattle.cs_ast.specs.declared.value.Value.{Value}
use Rattle.cs_meaning.specs.Reading.{with_parts}
use Rattle.cs_meaning.specs.Calls.{in_front}

either : (b : Truth) (o : Option (List Value)) → o ≡ None → (if b then o else None) ≡ None
either true o e = e
either false o e = refl

-- as many positions as values are wanted
pub parts_differ : (positions : List ℕ) (values parts : List Value) → (length positions ≡ length values → ⊥) → with_parts positions values parts ≡ None
unfolding with_parts
parts_differ [] [] parts differ = absurd (differ refl)
parts_differ [] (x ∷ values) parts differ = refl
parts_differ (at ∷ positions) [] parts differ = refl
parts_differ (at ∷ positions) (x ∷ values) parts differ =
    either (nat_lt at (length parts)) (with_parts positions values (slice_set parts at x)) (parts_differ positions values (slice_set parts at x) (λ e. differ (ap suc e)))

-- one picked value more in front
pub picked_behind : (front : List Value) (x : Value) (rest : Option (List Value)) → option_map (λ (l : List Value). front ++ l) (in_front (Some x) rest) ≡ option_map (λ (l : List Value). (front ++ x ∷ []) ++ l) rest
picked_behind front x None = refl
picked_behind front x (Some xs) = ap (λ (l : List Value). Some l) (sym (append_assoc front (x ∷ []) xs))
