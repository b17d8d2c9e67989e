-- Entries that are copied in their order.
use Rattle.std.proofs.Common.{◌≡◌, ◌∙◌, refl, sym, ap, subst, ℕ, List, [], ◌∷◌, ◌++◌}
use Rattle.std.specs.List.{AllByRecursion}
use Rattle.std.specs.List.Sorted.{IsStrictlySortedBy}
use Rattle.std.specs.Map.{keys_of}
use Rattle.std.specs.BTreeMap.{insert_entry}
use Rattle.std.specs.Ordering.{nat_cmp, match_ordering, ordering_reverse}
use Rattle.std.specs.declared.cmp.Ordering.TheVariants.{Less}
use Rattle.std.proofs.lemmas.Cmp.{nat_cmp_total}
use Rattle.std.proofs.lemmas.List.{append_assoc}

below : {X : Type 0} (key : ℕ) (front : List (ℕ × X)) (entry : ℕ × X) (rest : List (ℕ × X))
    → AllByRecursion (λ y. nat_cmp key y ≡ Less) (keys_of (front ++ entry ∷ rest)) → nat_cmp key entry.0 ≡ Less
below key [] entry rest all = all.0
below key (first ∷ front) entry rest all = below key front entry rest all.1

-- an entry whose key is behind all the others goes to the end
inserted_last : {X : Type 0} (front : List (ℕ × X)) (entry : ℕ × X) (rest : List (ℕ × X))
    → IsStrictlySortedBy nat_cmp (keys_of (front ++ entry ∷ rest)) → insert_entry nat_cmp front entry.0 entry.1 ≡ front ++ entry ∷ []
unfolding IsStrictlySortedBy
inserted_last [] entry rest sorted = refl
inserted_last (first ∷ front) entry rest sorted =
    ap (λ order. match_ordering order (entry ∷ first ∷ front) ((first.0, entry.1) ∷ front) (first ∷ insert_entry nat_cmp front entry.0 entry.1))
    (nat_cmp_total.antisymm entry.0 first.0 ∙ ap ordering_reverse (below first.0 front entry rest sorted.0))
    ∙ ap (λ it. first ∷ it) (inserted_last front entry rest sorted.1)

-- an entry more is copied
pub copied_more : {X : Type 0} (copied rest all : List (ℕ × X)) (entry : ℕ × X)
    → IsStrictlySortedBy nat_cmp (keys_of all) → copied ++ entry ∷ rest ≡ all → insert_entry nat_cmp copied entry.0 entry.1 ++ rest ≡ all
copied_more copied rest all entry sorted same =
    ap (λ it. it ++ rest) (inserted_last copied entry rest (subst (λ it. IsStrictlySortedBy nat_cmp (keys_of it)) (sym same) sorted))
    ∙ append_assoc copied (entry ∷ []) rest ∙ same
