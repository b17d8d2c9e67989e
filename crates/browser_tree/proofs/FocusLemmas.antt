-- Lists that are taken apart and put together again.
use Rattle.std.proofs.Common.{arith, ◌≡◌, ◌∙◌, refl, ap, sym, subst, ℕ, zero, suc, ◌<◌, ◌≤◌, ◌⊎◌, inl, inr, List, [], ◌∷◌, ◌++◌, take, drop, length, reverse, slice_set}
use Rattle.std.specs.List.{insert, remove}
use Rattle.std.proofs.lemmas.List.{append_assoc, append-nil, reverse-append, take_all, drop_all}
use Rattle.std.proofs.Math.Seq.{take-append_seam, drop-append_seam}
use Rattle.edit_meaning.specs.declared.browser_node.BrowserNode.{BrowserNode}

-- an item taken out and another put in at its place
pub put-back : {X : Type 0} (xs : List X) (i : ℕ) (y : X) → i < length xs → insert (remove xs i) i y ≡ slice_set xs i y
put-back [] i y within = absurd (omega arith)
put-back (x ∷ xs) zero y within = refl
put-back (x ∷ xs) (suc i) y within = ap (λ it. x ∷ it) (put-back xs i y (omega arith))

-- one more node taken from the end
pub taken_last : {X : Type 0} (front : List X) (last : X) (tail : List X) → (front ++ last ∷ []) ++ reverse tail ≡ front ++ reverse (tail ++ last ∷ [])
taken_last front last tail = append_assoc front (last ∷ []) (reverse tail) ∙ ap (λ it. front ++ it) (sym (reverse-append tail (last ∷ [])))

-- what the front and the rest of a list are, where the front has the wanted length or is all
pub front_is : {X : Type 0} (front rest all : List X) (place : ℕ) → front ++ rest ≡ all → length front ≤ place → (place ≤ length front) ⊎ (rest ≡ []) → take place all ≡ front
front_is front rest all place same short (inl long) =
    let just : place ≡ length front = omega arith
    in subst (λ n. take n all ≡ front) (sym just) (subst (λ it. take (length front) it ≡ front) same (take-append_seam front rest))
front_is front rest all place same short (inr none) =
    subst (λ it. take place it ≡ front) (sym (append-nil front) ∙ ap (λ it. front ++ it) (sym none) ∙ same) (take_all place front short)

pub rest_is : {X : Type 0} (front rest all : List X) (place : ℕ) → front ++ rest ≡ all → length front ≤ place → (place ≤ length front) ⊎ (rest ≡ []) → drop place all ≡ rest
rest_is front rest all place same short (inl long) =
    let just : place ≡ length front = omega arith
    in subst (λ n. drop n all ≡ rest) (sym just) (subst (λ it. drop (length front) it ≡ rest) same (drop-append_seam front rest))
rest_is front rest all place same short (inr none) =
    subst (λ it. drop place it ≡ rest) (sym (append-nil front) ∙ ap (λ it. front ++ it) (sym none) ∙ same) (drop_all place front short ∙ sym none)
