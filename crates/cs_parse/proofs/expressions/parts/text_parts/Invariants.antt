use Rattle.std.proofs.Common.{◌≡◌, ◌≤◌, length}
use Rattle.cs_parse.specs.Frames.{text_from}
use Rattle.cs_parse.proofs.expressions.parts.text_parts.Given as goal

abbrev pub invariant-loop-text : goal.invariant-loop-text
invariant-loop-text l =
    record {
      same : text_from l.place l.fn.found l.fn.tokens ≡ text_from l.place l.parts l.left;
      fewer : length l.left ≤ length l.fn.tokens;
    }

abbrev pub decreases-loop-text : goal.decreases-loop-text
decreases-loop-text l = length l.left
