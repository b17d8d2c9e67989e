-- Values behind values.
use Rattle.std.proofs.Common.{◌≡◌, ◌∙◌, refl, sym, ap, ℕ, suc, ◌+◌, ◌<◌, List, [], ◌∷◌, ◌++◌, length, drop, get_or, append_assoc, arith}
use Rattle.std.proofs.Math.Seq.{drop-cons}
use Rattle.cs_ast.specs.declared.value.Value.{Value}
use Rattle.cs_meaning.specs.declared.fault.Fault.{Fault}
use Rattle.cs_meaning.specs.State.{State}
use Rattle.cs_meaning.specs.Outcome.{Outcome, gives, breaks, continues, returns, faults, stuck, and_then}
use Rattle.frame_program.specs.declared.compiled.CompiledField.{CompiledField}
use Rattle.first_rendering.specs.First.{initial_value, initial_values}

-- values behind those that are there
abbrev pub behind : List Value → Outcome (List Value) → Outcome (List Value)
behind values outcome = and_then outcome (λ more s. gives (values ++ more) s)

pub behind-none : (outcome : Outcome (List Value)) → behind [] outcome ≡ outcome
behind-none (gives x s) = refl
behind-none (breaks s) = refl
behind-none (continues s) = refl
behind-none (returns x s) = refl
behind-none (faults fault s) = refl
behind-none stuck = refl

behind-one : (values : List Value) (x : Value) (outcome : Outcome (List Value)) → behind values (and_then outcome (λ xs s. gives (x ∷ xs) s)) ≡ behind (values ++ x ∷ []) outcome
behind-one values x (gives xs s) = ap (λ (all : List Value). gives all s) (sym (append_assoc values (x ∷ []) xs))
behind-one values x (breaks s) = refl
behind-one values x (continues s) = refl
behind-one values x (returns y s) = refl
behind-one values x (faults fault s) = refl
behind-one values x stuck = refl

-- the values of the fields that are left behind one, by what it gives
abbrev from_one : Outcome Value → List CompiledField → Outcome (List Value)
from_one outcome others = and_then outcome (λ x s. and_then (initial_values others s.left) (λ xs s1. gives (x ∷ xs) s1))

module _ (fields : List CompiledField) (i : ℕ) (one : CompiledField) (within : i < length fields) (is : one ≡ get_or fields i one) (values : List Value) (left : ℕ) where
  next : initial_values (drop i fields) left ≡ from_one (initial_value one.cs_type one.initial left) (drop (i + 1) fields)
  next =
      let step : drop i fields ≡ one ∷ drop (suc i) fields = drop-cons fields i one within ∙ ap (λ (x : CompiledField). x ∷ drop (suc i) fields) (sym is) in
      let same : suc i ≡ i + 1 = omega arith in
      ap (λ (xs : List CompiledField). initial_values xs left) step ∙ ap (λ (k : ℕ). from_one (initial_value one.cs_type one.initial left) (drop k fields)) same

  pub one-more : (x : Value) (s : State) (next_left : ℕ) (after : List Value) → initial_value one.cs_type one.initial left ≡ gives x s → s.left ≡ next_left → after ≡ values ++ x ∷ []
      → behind after (initial_values (drop (i + 1) fields) next_left) ≡ behind values (initial_values (drop i fields) left)
  one-more x s next_left after gave units more =
      ap (λ (all : List Value). behind all (initial_values (drop (i + 1) fields) next_left)) more
      ∙ ap (λ (n : ℕ). behind (values ++ x ∷ []) (initial_values (drop (i + 1) fields) n)) (sym units)
      ∙ sym (behind-one values x (initial_values (drop (i + 1) fields) s.left))
      ∙ ap (λ (o : Outcome Value). behind values (from_one o (drop (i + 1) fields))) (sym gave)
      ∙ ap (behind values) (sym next)

  pub one-fault : (f : Fault) (s : State) → initial_value one.cs_type one.initial left ≡ faults f s → behind values (initial_values (drop i fields) left) ≡ faults f s
  one-fault f s met = ap (behind values) next ∙ ap (λ (o : Outcome Value). behind values (from_one o (drop (i + 1) fields))) met

  pub one-stuck : initial_value one.cs_type one.initial left ≡ stuck → behind values (initial_values (drop i fields) left) ≡ stuck
  one-stuck sticks = ap (behind values) next ∙ ap (λ (o : Outcome Value). behind values (from_one o (drop (i + 1) fields))) sticks
