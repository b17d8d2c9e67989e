use Rattle.std.proofs.Common.{◌≡◌, drop, length}
use Rattle.cs_meaning.specs.Reading.{with_parts}
use Rattle.cs_eval.proofs.reading.with_parts.Given as goal

-- the positions and values still to come give of these parts what all give of the first ones
abbrev pub invariant-loop-i : goal.invariant-loop-i
invariant-loop-i l =
    record {
      as_many : length l.positions ≡ length l.values;
      same : with_parts l.positions l.values l.initial.parts ≡ with_parts (drop l.i l.positions) (drop l.i l.values) l.parts;
    }
