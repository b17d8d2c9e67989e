-- What C# finds at the front of a text.
use Rattle.std.proofs.Common.{◌≡◌, ℕ, ◌-◌, ◌<◌, List, [], ◌∷◌, length, Some, None, Ok, Err, refl, ap, sym, arith}
use Rattle.std.specs.declared.option.Option.{Option}
use Rattle.cs_token.specs.declared.around.Around.{Around}
use Rattle.cs_token.specs.declared.fault.Cause.{Cause}
use Rattle.cs_token.specs.declared.fault.Cause.TheVariants.{UnendedText}
use Rattle.cs_token.specs.declared.token.TokenKind.{TokenKind}
use Rattle.cs_token.specs.Wrong as w
use Rattle.cs_token.specs.Reading.Fronts.{front_at}
use Rattle.cs_token.proofs.ExactLemmas.{wrong-again, nothing_there}
use Rattle.cs_token.proofs.LexLemmas.{front-shorter}
use Rattle.razor_token.specs.CodeFronts.{front_of, code_front}

front_nothing : (around : Option Around) → front_at around [] ≡ Err (UnendedText, [])
front_nothing None = nothing_there None
front_nothing (Some a) = wrong-again (Some a) UnendedText [] [] (w.unended_line (Some a) [] refl refl)

shorter : (around : Option Around) (text : List ℕ) (kind : Option TokenKind) (rest : List ℕ) → front_at around text ≡ Ok (kind, rest) → length rest < length text
shorter around [] kind rest e = let none = front_nothing around in cc
shorter around (c ∷ text) kind rest e = front-shorter around (c ∷ text) kind rest (omega arith) e

-- behind a token the text is shorter
pub front_shorter : (around : Option Around) (text : List ℕ) (kind : Option TokenKind) (rest : List ℕ) → Ok (kind, rest) ≡ front_at around text → length rest < length text
front_shorter around text kind rest e = shorter around text kind rest (sym e)

-- a token is found
pub front_some : (around : Option Around) (text : List ℕ) (kind : Option TokenKind) (rest : List ℕ) → Ok (kind, rest) ≡ front_at around text
    → Some (record { token = kind; count = length text - length rest }) ≡ code_front around text
unfolding code_front
front_some around text kind rest e = ap (front_of text) e

-- nothing is found
pub front_none : (around : Option Around) (text : List ℕ) (wrong : Cause × List ℕ) → Err wrong ≡ front_at around text → None ≡ code_front around text
unfolding code_front
front_none around text wrong e = ap (front_of text) e
