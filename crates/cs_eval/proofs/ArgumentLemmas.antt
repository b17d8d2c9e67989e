-- Lists of arguments taken apart.
use Rattle.std.proofs.Common.{◌≡◌, ℕ, List, [], ◌∷◌, length, refl, ap, sym, arith}
use Rattle.std.specs.Prelude.{slice_index_or, remove}
use Rattle.cs_ast.specs.declared.value.Value.{Value}
use Rattle.cs_meaning.specs.State.{State}
use Rattle.cs_meaning.specs.Outcome.{gives, stuck}
use Rattle.cs_meaning.specs.Library.{one_of, two_of, three_of}

pub one_some : (xs : List Value) (x : Value) (s : State) → length xs ≡ 1 → x ≡ slice_index_or xs 0 x → one_of xs s ≡ gives x s
one_some [] x s n e = absurd (omega arith)
one_some (y ∷ []) x s n e = ap (λ (z : Value). gives z s) (sym e)
one_some (y ∷ z ∷ more) x s n e = absurd (omega arith)

pub one_none : (xs : List Value) (s : State) → (length xs ≡ 1 → ⊥) → one_of xs s ≡ stuck
one_none [] s n = refl
one_none (y ∷ []) s n = absurd (n (omega arith))
one_none (y ∷ z ∷ more) s n = refl

pub two_some : (xs : List Value) (x y : Value) (s : State) → length xs ≡ 2 → y ≡ slice_index_or xs 1 y → x ≡ slice_index_or (remove xs 1) 0 x → two_of xs s ≡ gives (x, y) s
two_some [] x y s n e f = absurd (omega arith)
two_some (a ∷ []) x y s n e f = absurd (omega arith)
two_some (a ∷ b ∷ []) x y s n e f = ap (λ (z : Value × Value). gives z s) (λ i. (sym f i, sym e i))
two_some (a ∷ b ∷ d ∷ more) x y s n e f = absurd (omega arith)

pub two_none : (xs : List Value) (s : State) → (length xs ≡ 2 → ⊥) → two_of xs s ≡ stuck
two_none [] s n = refl
two_none (a ∷ []) s n = refl
two_none (a ∷ b ∷ []) s n = absurd (n (omega arith))
two_none (a ∷ b ∷ d ∷ more) s n = refl

pub three_some : (xs : List Value) (x y z : Value) (s : State) → length xs ≡ 3 → z ≡ slice_index_or xs 2 z → y ≡ slice_index_or (remove xs 2) 1 y → x ≡ slice_index_or (remove (remove xs 2) 1) 0 x → three_of xs s ≡ gives (x, y, z) s
three_some [] x y z s n e f g = absurd (omega arith)
three_some (a ∷ []) x y z s n e f g = absurd (omega arith)
three_some (a ∷ b ∷ []) x y z s n e f g = absurd (omega arith)
three_some (a ∷ b ∷ d ∷ []) x y z s n e f g = ap (λ (w : Value × Value × Value). gives w s) (λ i. (sym g i, sym f i, sym e i))
three_some (a ∷ b ∷ d ∷ h ∷ more) x y z s n e f g = absurd (omega arith)

pub three_none : (xs : List Value) (s : State) → (length xs ≡ 3 → ⊥) → three_of xs s ≡ stuck
three_none [] s n = refl
three_none (a ∷ []) s n = refl
three_none (a ∷ b ∷ []) s n = refl
three_none (a ∷ b ∷ d ∷ []) s n = absurd (n (omega arith))
three_none (a ∷ b ∷ d ∷ h ∷ more) s n = refl
