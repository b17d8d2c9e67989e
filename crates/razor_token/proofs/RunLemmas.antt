-- Runs of characters, and what stands at a front.
use Rattle.std.proofs.Common.{◌≡◌, ℕ, ◌≤◌, List, length, true, Some, None, refl, ap, ◌∙◌, arith, length-append}
use Rattle.std.specs.declared.option.Option.{Option}
use Rattle.std.specs.Prelude.{is_some}
use Rattle.cs_token.specs.Reading.Runs.{strip}
use Rattle.cs_token.proofs.RunLemmas.{strip-some}
use Rattle.razor_token.specs.Runs.{begins}

begun : (front text : List ℕ) (o : Option (List ℕ)) → strip front text ≡ o → is_some o ≡ true → length front ≤ length text
begun front text (Some rest) e is = let laid = ap length (strip-some front text rest e) ∙ length-append front rest in omega arith
begun front text None e is = cc

-- what stands at the front is no longer than the text
pub begins_within : (front text : List ℕ) → begins front text ≡ true → length front ≤ length text
begins_within front text is = begun front text (strip front text) refl is
