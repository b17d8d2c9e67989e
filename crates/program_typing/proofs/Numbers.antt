-- The numbers of components one behind another, and types that know what has them.
use Rattle.std.proofs.Common.{◌≡◌, ℕ, zero, suc, ◌+◌, ◌≤◌, List, [], ◌∷◌, ◌++◌, map, ap, ◌∙◌, arith}
use Rattle.std.proofs.lemmas.List.Sums.{sum_by-cons}
use Rattle.std.specs.Prelude.{true, slice_get, take, Some}
use Rattle.cs_typing.specs.Types.{Types}
use Rattle.razor_ast.specs.declared.component.Component.{Component}
use Rattle.razor_rules.specs.Numbers.{span, first_number}
use Rattle.page_meaning.specs.Placed.{Placed}
use Rattle.page_typing.specs.Numbering.{Between}
use Rattle.page_typing.specs.Resolving.{AllKnown, AllFitting}
use Rattle.page_typing.proofs.ProgramNumbers.{From, behind_entry}

-- the component behind one begins behind its numbers
pub first_next : (components : List Component) (position : ℕ) (one : Component) → slice_get components position ≡ Some one → first_number components (position + 1) ≡ first_number components position + span one
first_next [] position one e = absurd (cc)
first_next (first ∷ others) zero one e =
    let same : first ≡ one = cc in
    let numbers : span first ≡ span one = ap (λ (z : Component). span z) same in
    omega (arith, numbers)
first_next (first ∷ others) (suc position) one e =
    let inner : first_number others (position + 1) ≡ first_number others position + span one = first_next others position one e in
    let number : suc position + 1 ≡ suc (position + 1) = omega arith in
    let left : first_number (first ∷ others) (suc position + 1) ≡ span first + first_number others (position + 1) = ap (first_number (first ∷ others)) number ∙ sum_by-cons (λ (x : ℕ). x) (span first) (map span (take (position + 1) others)) in
    let right : first_number (first ∷ others) (suc position) ≡ span first + first_number others position = sum_by-cons (λ (x : ℕ). x) (span first) (map span (take position others)) in
    omega (arith, inner, left, right)

from_wider : (types : Types) (low high : ℕ) (xs : List (ℕ × Placed)) → low ≤ high → From types low xs → From types high xs
from_wider types low high xs h f = record { bodies = λ n k. f.bodies n (omega (arith, h, k)); templates = λ n k. f.templates n (omega (arith, h, k)) }

-- behind several entries
pub behind_entries : (types : Types) (low high : ℕ) (xs ys : List (ℕ × Placed)) → Between low high xs → From types low (xs ++ ys) → From types high ys
behind_entries types low high [] ys h f = from_wider types low high ys h f
behind_entries types low high (one ∷ others) ys h f = behind_entries types (one.0 + 1) high others ys h.1 (behind_entry types low one (others ++ ys) h.0 f)

pub known_first : (types : Types) (xs ys : List (ℕ × Placed)) → AllKnown types (xs ++ ys) → AllKnown types xs
known_first types [] ys h = tt
known_first types (x ∷ xs) ys h = (h.0, known_first types xs ys h.1)

pub known_second : (types : Types) (xs ys : List (ℕ × Placed)) → AllKnown types (xs ++ ys) → AllKnown types ys
known_second types [] ys h = h
known_second types (x ∷ xs) ys h = known_second types xs ys h.1

pub fitting_both : (types : Types) (xs ys : List (ℕ × Placed)) → AllFitting types true xs → AllFitting types true ys → AllFitting types true (xs ++ ys)
fitting_both types [] ys h g = g
fitting_both types (x ∷ xs) ys h g = (h.0, fitting_both types xs ys h.1 g)
