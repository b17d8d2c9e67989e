use Rattle.std.proofs.Common.{◌≡◌, ◌++◌, take, drop}
use Rattle.cs_token.specs.Reading.Runs.{front, past}
use Rattle.cs_token.proofs.characters.split.Given as goal

abbrev pub invariant-loop-at : goal.invariant-loop-at
invariant-loop-at l =
    (take l.at l.text ++ front l.class (drop l.at l.text) ≡ front l.class l.text)
    × (past l.class (drop l.at l.text) ≡ past l.class l.text)
