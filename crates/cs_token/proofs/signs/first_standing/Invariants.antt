use Rattle.std.proofs.Common.{◌≡◌, drop}
use Rattle.std.specs.List.{find}
use Rattle.cs_token.specs.Reading.Signs.{stands_first}
use Rattle.cs_token.proofs.signs.first_standing.Given as goal

-- none of the signs so far stands first
abbrev pub invariant-loop-sign : goal.invariant-loop-sign
invariant-loop-sign l = find (stands_first l.text) (drop l.sign-index l.signs) ≡ find (stands_first l.text) l.signs
