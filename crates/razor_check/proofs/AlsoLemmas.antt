-- What is found in lists, one after the other.
use Rattle.std.proofs.Common.{◌≡◌, ℕ, ◌+◌, ◌<◌, ◌≤◌, List, [], ◌∷◌, ◌++◌, length, get_or, drop, map, ap, sym, ◌∙◌}
use Rattle.std.specs.Prelude.{Option}
use Rattle.std.specs.List.{flat_map}
use Rattle.std.proofs.lemmas.List.{append-nil, at_drop_all, drop_more}
use Rattle.razor_rules.specs.declared.finding.Broken.{Broken}
use Rattle.razor_rules.specs.Findings.{also}
use Rattle.razor_rules.proofs.FirstLaws.{also_append, also_nothing}

-- what is found in one list alone
pub also_alone : (before : Option Broken) (xs : List Broken) → also before (xs ++ []) ≡ also before xs
also_alone before xs = ap (also before) (append-nil xs)

-- what is found in the rest of a list: what its first is found to break, and then the others
pub rest_found : {A : Type 0} (rules : A → List Broken) (before : Option Broken) (xs : List A) (i : ℕ) (x : A) → i < length xs → x ≡ get_or xs i x →
    also before (flat_map rules (drop i xs)) ≡ also (also before (rules x)) (flat_map rules (drop (i + 1) xs))
rest_found rules before xs i x within is =
    ap (λ ys. also before (flat_map rules ys)) (drop_more xs i x within ∙ ap (λ y. y ∷ drop (i + 1) xs) (sym is))
    ∙ also_append before (rules x) (flat_map rules (drop (i + 1) xs))

-- behind the last nothing more is found
pub all_found : {A : Type 0} (rules : A → List Broken) (before : Option Broken) (xs : List A) (i : ℕ) → length xs ≤ i → also before (flat_map rules (drop i xs)) ≡ before
all_found rules before xs i over = at_drop_all (λ ys. also before (flat_map rules ys)) xs i over ∙ also_nothing before

-- the same of what the elements of a list stand for
pub rest_mapped : {A B : Type 0} (view : A → B) (rules : B → List Broken) (before : Option Broken) (xs : List A) (i : ℕ) (x : A) → i < length xs → x ≡ get_or xs i x →
    also before (flat_map rules (map view (drop i xs))) ≡ also (also before (rules (view x))) (flat_map rules (map view (drop (i + 1) xs)))
rest_mapped view rules before xs i x within is =
    ap (λ ys. also before (flat_map rules (map view ys))) (drop_more xs i x within ∙ ap (λ y. y ∷ drop (i + 1) xs) (sym is))
    ∙ also_append before (rules (view x)) (flat_map rules (map view (drop (i + 1) xs)))

pub all_mapped : {A B : Type 0} (view : A → B) (rules : B → List Broken) (before : Option Broken) (xs : List A) (i : ℕ) → length xs ≤ i → also before (flat_map rules (map view (drop i xs))) ≡ before
all_mapped view rules before xs i over = at_drop_all (λ ys. also before (flat_map rules (map view ys))) xs i over ∙ also_nothing before
