-- The equations of what goes by recursion: lists of code, turns and calls.
use Rattle.std.proofs.Common.{◌≡◌, ℕ, zero, suc, ◌+◌, ◌-◌, ◌<◌, ◌≤◌, List, [], ◌∷◌, refl, ap, arith}
use Rattle.std.specs.Prelude.{slice_get, Some}
use Rattle.cs_ast.specs.Bodies.{code_at}
use Rattle.cs_ast.specs.Texts.{text_of}
use Rattle.cs_ast.specs.declared.value.Value.{Value}
use Rattle.cs_ast.specs.declared.code.Code.{Code}
use Rattle.cs_meaning.specs.declared.fault.Fault.TheVariants.{FuelSpent, CallDepth}
use Rattle.cs_meaning.specs.State.{Fields, State, with_local, spent}
use Rattle.cs_meaning.specs.Outcome.{gives, faults, Meaning, and_then, chosen}
use Rattle.cs_meaning.specs.Kinds.{truth_of}
use Rattle.cs_meaning.specs.NewValues.{appended, texts_of}
use Rattle.cs_meaning.specs.Scopes.{nothing, all_of, in_order, scoped, behind_turn, turns, each_of}
use Rattle.cs_meaning.specs.Calls.{in_front, picked}
use Rattle.cs_meaning.specs.Meaning.{Setting, setting, meaning_by, entered, call, running, meaning}

pub all_none : (s : State) → all_of [] s ≡ gives [] s
unfolding all_of
all_none s = refl

pub all_more : (one : Meaning) (others : List Meaning) (s : State) → all_of (one ∷ others) s ≡ and_then (one s) (λ x s1. and_then (all_of others s1) (λ xs s2. gives (x ∷ xs) s2))
unfolding all_of
all_more one others s = refl

pub in_order_none : (s : State) → in_order [] s ≡ nothing s
unfolding in_order
in_order_none s = refl

pub in_order_more : (one : Meaning) (others : List Meaning) (s : State) → in_order (one ∷ others) s ≡ and_then (one s) (λ x s1. in_order others s1)
unfolding in_order
in_order_more one others s = refl

pub texts_none : texts_of [] ≡ Some []
unfolding texts_of
texts_none = refl

pub texts_more : (x : Value) (xs : List Value) → texts_of (x ∷ xs) ≡ appended (text_of x) (texts_of xs)
unfolding texts_of
texts_more x xs = refl

pub picked_none : (locals : List Value) → picked locals [] ≡ Some []
unfolding picked
picked_none locals = refl

pub picked_more : (locals : List Value) (at : ℕ) (positions : List ℕ) → picked locals (at ∷ positions) ≡ in_front (slice_get locals at) (picked locals positions)
unfolding picked
picked_more locals at positions = refl

pub each_none : (body : Meaning) (s : State) → each_of [] body s ≡ nothing s
unfolding each_of
each_none body s = refl

pub each_more : (x : Value) (xs : List Value) (body : Meaning) (s : State) → each_of (x ∷ xs) body s ≡ behind_turn (scoped (λ s1. body (with_local x s1)) s) (λ s1. each_of xs body s1)
unfolding each_of
each_more x xs body s = refl

pub turns_none : (most : ℕ) (test body step : Meaning) (s : State) → most ≡ 0 → turns most test body step s ≡ faults FuelSpent (spent s)
unfolding turns
turns_none zero test body step s h = refl
turns_none (suc more) test body step s h = absurd (omega arith)

less : (n : ℕ) → n ≡ suc n - 1
less n = omega arith

pub turns_more : (most : ℕ) (test body step : Meaning) (s : State) → 0 < most → turns most test body step s ≡ and_then (test s) (λ x s1. chosen (truth_of x) (behind_turn (scoped body s1) (λ s2. and_then (step s2) (λ y s3. turns (most - 1) test body step s3))) (nothing s1))
unfolding turns
turns_more zero test body step s h = absurd (omega arith)
turns_more (suc more) test body step s h = ap (λ (n : ℕ). and_then (test s) (λ x s1. chosen (truth_of x) (behind_turn (scoped body s1) (λ s2. and_then (step s2) (λ y s3. turns n test body step s3))) (nothing s1))) (less more)

deep : (parameters : Fields) (bodies : List (ℕ × Code)) (calls who number : ℕ) (locals : List Value) (s : State) → calls ≡ 0 → call parameters bodies calls who number locals s ≡ faults CallDepth s
unfolding call
deep parameters bodies zero who number locals s e = refl
deep parameters bodies (suc calls) who number locals s e = absurd (omega arith)

-- a call where the calls are as deep as they may be
pub deep_call : (around : Setting) (who number : ℕ) (locals : List Value) (s : State) → 100 ≤ around.depth → running around who number locals s ≡ faults CallDepth s
deep_call around who number locals s h = deep around.parameters around.bodies (100 - around.depth) who number locals s (omega arith)

within : (parameters : Fields) (bodies : List (ℕ × Code)) (calls inside who number : ℕ) (locals : List Value) (s : State) → calls ≡ inside + 1 → call parameters bodies calls who number locals s ≡ entered parameters bodies (meaning_by parameters bodies (call parameters bodies inside) who) locals (code_at bodies number) s
unfolding call
within parameters bodies zero inside who number locals s e = absurd (omega arith)
within parameters bodies (suc calls) inside who number locals s e = ap (λ (n : ℕ). entered parameters bodies (meaning_by parameters bodies (call parameters bodies n) who) locals (code_at bodies number) s) (omega arith)

-- any other: the body, one deeper
pub call_within : (around : Setting) (who number : ℕ) (locals : List Value) (s : State) → around.depth < 100 → running around who number locals s ≡ entered around.parameters around.bodies (meaning (setting who around.parameters around.bodies (around.depth + 1))) locals (code_at around.bodies number) s
call_within around who number locals s h = within around.parameters around.bodies (100 - around.depth) (100 - (around.depth + 1)) who number locals s (omega arith)
