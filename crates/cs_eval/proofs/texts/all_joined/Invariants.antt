use Rattle.std.proofs.Common.{◌≡◌, drop, Some}
use Rattle.cs_meaning.specs.NewValues.{appended, texts_of}
use Rattle.cs_eval.proofs.texts.all_joined.Given as goal

-- what the values so far show, and what the others show behind it
abbrev pub invariant-loop-value : goal.invariant-loop-value
invariant-loop-value l = texts_of l.values ≡ appended (Some l.text) (texts_of (drop l.value-index l.values))
