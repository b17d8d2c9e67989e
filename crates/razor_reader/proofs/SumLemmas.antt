-- Whether more than 200 are counted, so far and in all.
use Rattle.std.proofs.Common.{◌≡◌, ℕ, ◌+◌, ◌<◌, ◌≤◌, List, [], ◌∷◌, ◌++◌, length, take, reverse, get_or, refl, sym, ap, ◌∙◌, arith}
use Rattle.std.proofs.lemmas.Bool.{lt-ltb, le-ltb}
use Rattle.std.proofs.lemmas.List.{reverse-append, take_more, take_all}
use Rattle.std.proofs.lemmas.List.Sums.{sum_by-cons, sum_by-append, sum_by-take-le}
use Rattle.std.specs.Prelude.{true, false, sum, nat_lt}

sum_reverse : (xs : List ℕ) → sum (reverse xs) ≡ sum xs
sum_reverse [] = refl
sum_reverse (x ∷ xs) =
    let more = sum_reverse xs in
    let laid : sum (reverse (x ∷ xs)) ≡ sum (reverse xs ++ x ∷ []) = ap sum (reverse-append (x ∷ []) xs) in
    let parts = sum_by-append (λ (z : ℕ). z) (reverse xs) (x ∷ []) in
    let one = sum_by-cons (λ (z : ℕ). z) x [] in
    let all = sum_by-cons (λ (z : ℕ). z) x xs in
    laid ∙ parts ∙ omega (arith, one, all, more)

pub too_deep_now : (xs : List ℕ) (i total : ℕ) → i < length xs → total ≡ sum (take i xs) → 200 < total + get_or xs i 0 → true ≡ nat_lt 200 (sum (reverse xs))
too_deep_now xs i total h e f =
    let next : sum (take (i + 1) xs) ≡ sum (take i xs ++ get_or xs i 0 ∷ []) = ap sum (take_more xs i 0 h) in
    let parts = sum_by-append (λ (z : ℕ). z) (take i xs) (get_or xs i 0 ∷ []) in
    let one = sum_by-cons (λ (z : ℕ). z) (get_or xs i 0) [] in
    let whole = sum_by-take-le (λ (z : ℕ). z) xs (i + 1) in
    let over : 200 < sum (reverse xs) = omega (arith, next, parts, one, whole, sum_reverse xs) in
    sym (lt-ltb _ _ over)

pub not_too_deep : (xs : List ℕ) (total : ℕ) → total ≡ sum (take (length xs) xs) → total ≤ 200 → false ≡ nat_lt 200 (sum (reverse xs))
not_too_deep xs total e h =
    let whole : sum (take (length xs) xs) ≡ sum xs = ap sum (take_all (length xs) xs (omega arith)) in
    let under : sum (reverse xs) ≤ 200 = omega (arith, whole, sum_reverse xs) in
    sym (le-ltb _ _ under)
