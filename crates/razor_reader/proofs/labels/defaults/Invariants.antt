use Rattle.std.proofs.Common.{◌≡◌, ◌+◌, ◌≤◌, drop}
use Rattle.cs_grammar.specs.Statements.{defaults}
use Rattle.razor_reader.proofs.labels.defaults.Given as goal

-- what is counted so far, and what is left
abbrev pub invariant-loop-label : goal.invariant-loop-label
invariant-loop-label l =
    record {
      small : l.count ≤ l.label-index;
      same : defaults l.labels ≡ l.count + defaults (drop l.label-index l.labels);
    }
