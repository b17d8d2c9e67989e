-- The names that are cut are written as such names are.
use Rattle.std.proofs.Common.{◌≡◌, ℕ, ◌+◌, Bool, true, false, List, [], ◌∷◌, take, refl, sym, ap, ◌∙◌, subst, add-one, eqb-true}
use Rattle.std.specs.Prelude.{◌==◌}
use Rattle.std.specs.List.{list_all}
use Rattle.std.proofs.lemmas.Bool.{false≢true}
use Rattle.cs_token.specs.Reading.Runs.{strip}
use Rattle.razor_token.specs.declared.runs.RunKind.{RunKind}
use Rattle.razor_token.specs.declared.runs.RunKind.TheVariants as r
use Rattle.razor_token.specs.Runs.{is_of, run}
use Rattle.razor_token.specs.TagFronts.{name_count}
use Rattle.printed_pieces.specs.Names.{IsTagName, tag_name, IsAttributeName, plain, marked}

take-more : (n c : ℕ) (text : List ℕ) → take (n + 1) (c ∷ text) ≡ c ∷ take n text
take-more n c text = ap (λ m. take m (c ∷ text)) (add-one n)

-- a run is of its kind
run-all : (kind : RunKind) (text : List ℕ) → list_all (is_of kind) (take (run kind text) text) ≡ true
run-all kind [] = refl
run-all kind (c ∷ text) = go (is_of kind c) refl (run-all kind text)
  where
    go : (b : Bool) → is_of kind c ≡ b → list_all (is_of kind) (take (run kind text) text) ≡ true → list_all (is_of kind) (take (run kind (c ∷ text)) (c ∷ text)) ≡ true
    go true e all =
        let long : run kind (c ∷ text) ≡ run kind text + 1 = rw e refl in
        ap (λ m. list_all (is_of kind) (take m (c ∷ text))) long ∙ ap (list_all (is_of kind)) (take-more (run kind text) c text) ∙ rw (e, all) refl
    go false e all = let none : run kind (c ∷ text) ≡ 0 = rw e refl in ap (λ m. list_all (is_of kind) (take m (c ∷ text))) none

-- a run that isn't empty, by its first character
run-some : (kind : RunKind) (text : List ℕ) (P : List ℕ → Type 0) → (run kind text == 0) ≡ false
    → ((c : ℕ) (rest : List ℕ) → is_of kind c ≡ true → list_all (is_of kind) rest ≡ true → P (c ∷ rest)) → P (take (run kind text) text)
run-some kind [] P some made = absurd (false≢true (sym some))
run-some kind (c ∷ text) P some made = go (is_of kind c) refl
  where
    go : (b : Bool) → is_of kind c ≡ b → P (take (run kind (c ∷ text)) (c ∷ text))
    go true e =
        let long : run kind (c ∷ text) ≡ run kind text + 1 = rw e refl in
        subst P (sym (ap (λ m. take m (c ∷ text)) long ∙ take-more (run kind text) c text)) (made c (take (run kind text) text) e (run-all kind text))
    go false e = let none : run kind (c ∷ text) ≡ 0 = rw e refl in absurd (false≢true (sym some ∙ ap (λ m. m == 0) none))

pub tag-sound : (text : List ℕ) → (run r.TagName text == 0) ≡ false → IsTagName (take (run r.TagName text) text)
tag-sound text some = run-some r.TagName text IsTagName some (λ c rest is all. tag_name c rest is all)

plain-count : (c : ℕ) (text : List ℕ) → (c == 64) ≡ false → name_count (c ∷ text) ≡ run r.AttributeName (c ∷ text)
unfolding strip
plain-count c text e = rw e refl

marked-count : (text : List ℕ) → name_count (64 ∷ text) ≡ run r.AttributeName text + 1
unfolding strip
marked-count text = refl

none-count : name_count [] ≡ 0
unfolding strip
none-count = refl

pub attribute-sound : (text : List ℕ) → (name_count text == 0) ≡ false → IsAttributeName (take (name_count text) text)
attribute-sound [] some = absurd (false≢true (sym some ∙ ap (λ m. m == 0) none-count))
attribute-sound (c ∷ text) some = go (c == 64) refl
  where
    at : IsAttributeName (take (name_count (64 ∷ text)) (64 ∷ text))
    at = subst IsAttributeName (sym (ap (λ m. take m (64 ∷ text)) (marked-count text) ∙ take-more (run r.AttributeName text) 64 text)) (marked (take (run r.AttributeName text) text) (run-all r.AttributeName text))

    go : (b : Bool) → (c == 64) ≡ b → IsAttributeName (take (name_count (c ∷ text)) (c ∷ text))
    go true e = subst (λ d. IsAttributeName (take (name_count (d ∷ text)) (d ∷ text))) (sym (eqb-true c 64 e)) at
    go false e =
        let count = plain-count c text e in
        subst (λ m. IsAttributeName (take m (c ∷ text))) (sym count) (run-some r.AttributeName (c ∷ text) IsAttributeName (ap (λ m. m == 0) (sym count) ∙ some) (λ d rest is all. plain d rest is all))
