use Rattle.std.proofs.Common.{◌≡◌, ◌++◌, length}
use Rattle.cs_token.specs.Reading.Written.{said_at}
use Rattle.cs_token.proofs.written.said.Given as goal

-- the characters so far, and those that the rest says, are those that the text says
abbrev pub invariant-loop-character : goal.invariant-loop-character
invariant-loop-character l = said_at l.form l.text ≡ (l.found ++ (said_at l.form l.rest).0, (said_at l.form l.rest).1)

abbrev pub decreases-loop-character : goal.decreases-loop-character
decreases-loop-character l = length l.rest
