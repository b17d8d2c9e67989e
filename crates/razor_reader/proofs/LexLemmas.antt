-- Which tokens a text is read as.
use Rattle.std.proofs.Common.{◌≡◌, ℕ, List, refl, ap, inl, inr}
use Rattle.std.specs.Prelude.{Option, Some, None}
use Rattle.text_core.specs.declared.place.Place.{Place}
use Rattle.cs_token.specs.declared.fault.Cause.{Cause}
use Rattle.cs_token.specs.declared.token.Token.{Token}
use Rattle.cs_token.specs.Spelling.{Spells, GoesWrong}
use Rattle.cs_token.proofs.DecidedLemmas.{Decided, decided}
use Rattle.cs_token.proofs.LawLemmas.{one_list, wrong_spells_nothing}
use Rattle.razor_reader.specs.TextReading.{spelled_tokens}

pub spelled_is : (text : List ℕ) (ts : List Token) → Spells text ts → Some ts ≡ spelled_tokens text
unfolding spelled_tokens
spelled_is text ts h = go (decided text)
  where
    go : (d : Decided text) → Some ts ≡ elim d [ inl x ↦ Some x.0 | inr x ↦ None ]
    go (inl x) = ap Some (one_list text ts x.0 h x.1)
    go (inr x) = absurd (wrong_spells_nothing text x.0 x.1.0 ts x.1.1 h)

pub wrong_is : (text : List ℕ) (cause : Cause) (place : Place) → GoesWrong text cause place → None ≡ spelled_tokens text
unfolding spelled_tokens
wrong_is text cause place h = go (decided text)
  where
    go : (d : Decided text) → ◌≡◌ {A = Option (List Token)} None (elim d [ inl x ↦ Some x.0 | inr x ↦ None ])
    go (inl x) = absurd (wrong_spells_nothing text cause place x.0 h x.1)
    go (inr x) = refl
