-- The last character of literal text is that of what is written of it.
use Rattle.std.proofs.Common.{◌≡◌, ℕ, Bool, true, false, List, [], ◌∷◌, ◌++◌, Some, refl, sym, ap, ◌∙◌, append_assoc, append-nil, eqb-true}
use Rattle.std.specs.Prelude.{◌==◌, if◌then◌else◌}
use Rattle.std.specs.List.{flat_map}
use Rattle.std.proofs.lemmas.List.{reverse-append}
use Rattle.razor_token.specs.Cutting.{first_of, last_of}
use Rattle.razor_print.specs.Parts.{doubled}

last-end : (front : List ℕ) (d : ℕ) → last_of (front ++ d ∷ []) ≡ Some d
last-end front d = ap first_of (reverse-append front (d ∷ []))

-- a text that isn't empty, by its last character
record Ended (text : List ℕ) : Type 0 where
  front : List ℕ
  last : ℕ
  is : front ++ last ∷ [] ≡ text

ended : (c : ℕ) (text : List ℕ) → Ended (c ∷ text)
ended c [] = record { front = []; last = c; is = refl }
ended c (d ∷ text) = let found = ended d text in record { front = c ∷ found.front; last = found.last; is = ap (λ z. c ∷ z) found.is }

flat-end : (front : List ℕ) (d : ℕ) → flat_map doubled (front ++ d ∷ []) ≡ flat_map doubled front ++ doubled d
flat-end [] d = append-nil (doubled d)
flat-end (c ∷ front) d = ap (λ z. doubled c ++ z) (flat-end front d) ∙ sym (append_assoc (doubled c) (flat_map doubled front) (doubled d))

-- it is the last one of what is written too
record DoubledEnd (d : ℕ) : Type 0 where
  front : List ℕ
  is : doubled d ≡ front ++ d ∷ []

doubled-end : (d : ℕ) → DoubledEnd d
doubled-end d = go (d == 64) refl
  where
    go : (b : Bool) → (d == 64) ≡ b → DoubledEnd d
    go true e = record { front = 64 ∷ []; is = ap (λ (z : Bool). if z then 64 ∷ 64 ∷ [] else d ∷ []) e ∙ ap (λ z. 64 ∷ z ∷ []) (sym (eqb-true d 64 e)) }
    go false e = record { front = []; is = ap (λ (z : Bool). if z then 64 ∷ 64 ∷ [] else d ∷ []) e }

pub said-last : (before : List ℕ) (c : ℕ) (text : List ℕ) → last_of (before ++ flat_map doubled (c ∷ text)) ≡ last_of (c ∷ text)
said-last before c text =
    let h = ended c text in
    let d = doubled-end h.last in
    let written : flat_map doubled (c ∷ text) ≡ (flat_map doubled h.front ++ d.front) ++ h.last ∷ [] =
    ap (flat_map doubled) (sym h.is) ∙ flat-end h.front h.last ∙ ap (λ z. flat_map doubled h.front ++ z) d.is ∙ sym (append_assoc (flat_map doubled h.front) d.front (h.last ∷ [])) in
    ap (λ z. last_of (before ++ z)) written ∙ ap last_of (sym (append_assoc before (flat_map doubled h.front ++ d.front) (h.last ∷ [])))
    ∙ last-end (before ++ (flat_map doubled h.front ++ d.front)) h.last ∙ sym (last-end h.front h.last) ∙ ap last_of h.is
