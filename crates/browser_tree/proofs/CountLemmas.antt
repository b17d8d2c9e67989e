-- How many edits of a type lists have.
use Rattle.std.proofs.Common.{arith, ◌≡◌, ◌∙◌, refl, ap, sym, subst, not, slice_index_or, [], ℕ, ◌+◌, ◌<◌, ◌≤◌, ◌^◌, ◌==◌, List, ◌∷◌, ◌++◌, length}
use Rattle.std.proofs.lemmas.List.{length-append}
use Rattle.std.proofs.lemmas.List.Elements.{filter-append}
use Rattle.std.proofs.lemmas.List.Filters.{length-filter_both}
use Rattle.std.specs.List.{filter}
use Rattle.frame_core.specs.declared.batch.EditList.{EditList}
use Rattle.frame_core.specs.declared.edit.Edit.{Edit}
use Rattle.frame_core.specs.Batch.{edits_of, edits_within}
use Rattle.frame_core.specs.EditTypes.{type_of, of_type}

pub of_type-append : (number : ℕ) (xs ys : List Edit) → of_type number (xs ++ ys) ≡ of_type number xs + of_type number ys
of_type-append number xs ys = ap length (filter-append (λ edit. type_of edit == number) xs ys) ∙ length-append _ _

pub of_type_first : (number : ℕ) (list : EditList) (lists : List EditList) → of_type number (edits_of (list ∷ lists)) ≡ of_type number list.edits + of_type number (edits_of lists)
of_type_first number list lists = of_type-append number list.edits (edits_of lists)

pub of_type_within : (number : ℕ) (edits : List Edit) → of_type number edits ≤ length edits
of_type_within number edits =
    let both : of_type number edits + length (filter (λ edit. not (type_of edit == number)) edits) ≡ length edits
    = length-filter_both (λ edit. type_of edit == number) (λ edit. not (type_of edit == number)) (λ edit. refl) edits
    in omega arith

-- where all edits are few, so are those of a type that are counted and those in the next list
pub few_in_front : (number count : ℕ) (list : EditList) (lists all : List EditList)
    → count + of_type number (edits_of (list ∷ lists)) ≡ of_type number (edits_of all) → edits_within all < 2 ^ 32 → count + of_type number list.edits < 2 ^ 32
few_in_front number count list lists all same few =
    let first : of_type number (edits_of (list ∷ lists)) ≡ of_type number list.edits + of_type number (edits_of lists) = of_type_first number list lists
    in let within : of_type number (edits_of all) ≤ edits_within all = of_type_within number (edits_of all)
    in omega arith

pub few_in_rest : (number count : ℕ) (list : EditList) (rest all : List EditList)
    → list ≡ slice_index_or rest 0 list → 1 ≤ length rest → count + of_type number (edits_of rest) ≡ of_type number (edits_of all) → edits_within all < 2 ^ 32 → count + of_type number list.edits < 2 ^ 32
few_in_rest number count list [] all is long same few = absurd (omega arith)
few_in_rest number count list (first ∷ rest) all is long same few =
    subst (λ it. count + of_type number it.edits < 2 ^ 32) (sym is) (few_in_front number count first rest all same few)
