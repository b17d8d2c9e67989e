-- Each text spells tokens or goes wrong.
use Rattle.std.proofs.Common.{◌≡◌, ◌⊎◌, ℕ, zero, suc, ◌<◌, ◌≤◌, List, [], ◌∷◌, length, Ok, Err, refl, arith, inl, inr}
use Rattle.text_core.specs.declared.place.Place.{Place}
use Rattle.cs_token.specs.declared.around.Opened.{Opened}
use Rattle.cs_token.specs.declared.fault.Cause.{Cause}
use Rattle.cs_token.specs.declared.fault.Cause.TheVariants.{UnendedText}
use Rattle.cs_token.specs.declared.token.Token.{Token}
use Rattle.cs_token.specs.Places.{first_place}
use Rattle.cs_token.specs.Spelling.{innermost, Spells, GoesWrong}
use Rattle.cs_token.specs.Reading.Fronts.{Read, front_at}
use Rattle.cs_token.proofs.LexLemmas.{Reached, reached-first, reached-more, reached-end, reached-unended, goes-wrong, front-shorter}

abbrev pub Decided : List ℕ → Type 0
Decided text = ((tokens : List Token) × Spells text tokens) ⊎ ((cause : Cause) × ((place : Place) × GoesWrong text cause place))

-- where every shorter rest decides, this one does
decided-front : (text : List ℕ) (tokens : List Token) (opened : List Opened) (place : Place) (rest : List ℕ) → Reached text tokens opened place rest → 0 < length rest
    → ((tokens : List Token) (opened : List Opened) (place : Place) (later : List ℕ) → length later < length rest → Reached text tokens opened place later → Decided text)
    → (read : Read) → front_at (innermost opened) rest ≡ read → Decided text
decided-front text tokens opened place rest reached some less (Ok x) e =
    less _ _ _ x.1 (front-shorter (innermost opened) rest x.0 x.1 some e) (reached-more text tokens opened place rest x.0 x.1 reached some e)
decided-front text tokens opened place rest reached some less (Err x) e =
    inr (x.0, (_, goes-wrong text tokens opened place rest x.0 x.1 reached some e))

decided-from : (n : ℕ) (text : List ℕ) (tokens : List Token) (opened : List Opened) (place : Place) (rest : List ℕ) → length rest ≤ n → Reached text tokens opened place rest → Decided text
decided-from n text tokens [] place [] short reached = inl (tokens, reached-end text tokens [] place [] reached refl refl)
decided-from n text tokens (o ∷ opened) place [] short reached = inr (UnendedText, (_, reached-unended text tokens (o ∷ opened) place [] reached refl (omega arith)))
decided-from zero text tokens opened place (c ∷ rest) short reached = absurd (omega arith)
decided-from (suc n) text tokens opened place (c ∷ rest) short reached =
    decided-front text tokens opened place (c ∷ rest) reached (omega arith)
    (λ tokens opened place later shorter there. decided-from n text tokens opened place later (omega arith) there)
    (front_at (innermost opened) (c ∷ rest)) refl

pub decided : (text : List ℕ) → Decided text
decided text = decided-from (length text) text [] [] first_place text (omega arith) (reached-first text)
