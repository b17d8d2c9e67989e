-- What a write may answer.
use Rattle.std.specs.Prelude.{◌≡◌, ℕ, ◌<◌, ◌≤◌, List, ◌++◌, length, take, ⊤}
use Rattle.std.specs.Option.{option_map}
use Rattle.std.specs.declared.option.Option.{Option}
use Rattle.outside.specs.declared.sink.Wrote.{Wrote}
use Rattle.outside.specs.declared.sink.Wrote.TheVariants.{Took, Failed, Oom}
use Rattle.outside.specs.Faults.{Rose}

-- these bytes came behind those that are told
abbrev pub Adds : Option (List ℕ) → Option (List ℕ) → List ℕ → Type 0
Adds old new bytes = new ≡ option_map (λ written. written ++ bytes) old

-- as many bytes of the piece as the answer says were taken, from its front
abbrev pub Takes : Option (List ℕ) → Option (List ℕ) → List ℕ → Wrote → Type 0
Takes old new piece (Took n) = (n ≤ length piece) × Adds old new (take n piece)
Takes old new piece Failed = new ≡ old
Takes old new piece Oom = new ≡ old

-- this holds where the answer is a fault: `Failed`, or nothing taken of a piece that isn't empty
abbrev pub OnFault : Wrote → List ℕ → Type 0 → Type 0
OnFault (Took n) piece P = n ≡ 0 → 0 < length piece → P
OnFault Failed piece P = P
OnFault Oom piece P = ⊤

-- the count never falls, and a fault is answered only where it rose
pub record WriteHasCause (before now : ℕ) (piece : List ℕ) (answer : Wrote) : Type 0 where
  pub later : before ≤ now
  pub fault : OnFault answer piece (Rose before now)
