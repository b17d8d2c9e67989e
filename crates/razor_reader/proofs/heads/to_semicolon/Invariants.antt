use Rattle.std.proofs.Common.{◌≡◌, take, drop}
use Rattle.razor_reader.specs.HeadReading.{to_semicolon}
use Rattle.razor_reader.proofs.HeadLoops.{with_head}
use Rattle.razor_reader.proofs.heads.to_semicolon.Given as goal

-- the tokens so far go before the first half of what is left
abbrev pub invariant-loop-at : goal.invariant-loop-at
invariant-loop-at l = to_semicolon l.tokens ≡ with_head (take l.at l.tokens) (to_semicolon (drop l.at l.tokens))
