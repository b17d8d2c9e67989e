-- The last of some tokens.
use Rattle.std.proofs.Common.{◌≡◌, List, [], ◌∷◌, ◌++◌, refl, sym, ap, ◌∙◌}
use Rattle.std.specs.Prelude.{Bool, true, false, if◌then◌else◌, Option, Some, None, option_map}
use Rattle.cs_token.specs.declared.token.Token.{Token}
use Rattle.razor_reader.specs.declared.mark.Mark.{Mark}
use Rattle.razor_reader.specs.Marks.{is_token}
use Rattle.razor_reader.specs.TokenReading.{before_last}

-- what stands before a last token
pub last_whole : (mark : Mark) (inner : List Token) (last : Token) → before_last mark (inner ++ last ∷ []) ≡ (if is_token mark last.kind then Some inner else None)
last_whole mark [] last = refl
last_whole mark (t ∷ []) last = go (is_token mark last.kind)
  where
    go : (b : Bool) → ◌≡◌ {A = Option (List Token)} (option_map (λ inner. t ∷ inner) (if b then Some [] else None)) (if b then Some (t ∷ []) else None)
    go true = refl
    go false = refl
last_whole mark (t ∷ u ∷ inner) last = ap (option_map (λ l. t ∷ l)) (last_whole mark (u ∷ inner) last) ∙ go (is_token mark last.kind)
  where
    go : (b : Bool) → ◌≡◌ {A = Option (List Token)} (option_map (λ l. t ∷ l) (if b then Some (u ∷ inner) else None)) (if b then Some (t ∷ u ∷ inner) else None)
    go true = refl
    go false = refl

pub before_last_is : (mark : Mark) (ts inner : List Token) (last : Token) → ts ≡ inner ++ last ∷ [] → is_token mark last.kind ≡ true → before_last mark ts ≡ Some inner
before_last_is mark ts inner last e i = ap (before_last mark) e ∙ last_whole mark inner last ∙ ap (λ b. if b then Some inner else None) i

pub before_none_is : (mark : Mark) (ts inner : List Token) (last : Token) → ts ≡ inner ++ last ∷ [] → is_token mark last.kind ≡ false → before_last mark ts ≡ None
before_none_is mark ts inner last e i = ap (before_last mark) e ∙ last_whole mark inner last ∙ ap (λ b. if b then Some inner else None) i
