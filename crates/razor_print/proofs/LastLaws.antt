-- A text with one character more.
use Rattle.std.proofs.Common.{◌≡◌, ℕ, List, [], ◌∷◌, ◌++◌, true, false, refl, ap, ◌∙◌}
use Rattle.std.specs.Prelude.{Bool, ◌||◌, ◌==◌}
use Rattle.std.specs.List.{list_any}
use Rattle.std.proofs.lemmas.List.{reverse-append}
use Rattle.std.proofs.lemmas.List.Folds.{list_any-append}
use Rattle.cs_token.specs.declared.characters.Class.TheVariants as class
use Rattle.cs_token.specs.Characters.{is_in}
use Rattle.razor_token.specs.ContentFronts.{is_word}
use Rattle.razor_token.specs.Cutting.{first_of, last_of}

pub word_more : (text : List ℕ) (c : ℕ) → is_word (last_of (text ++ c ∷ [])) ≡ is_in class.Word c
word_more text c = ap (λ x. is_word (first_of x)) (reverse-append text (c ∷ []))

or_false : (b : Bool) → (b || false) ≡ b
or_false true = refl
or_false false = refl

pub any_more : (wanted : ℕ) (text : List ℕ) (c : ℕ) → list_any (λ x. x == wanted) (text ++ c ∷ []) ≡ (list_any (λ x. x == wanted) text || (c == wanted))
any_more wanted text c = list_any-append (λ x. x == wanted) text (c ∷ []) ∙ ap (λ b. list_any (λ x. x == wanted) text || b) (or_false (c == wanted))
