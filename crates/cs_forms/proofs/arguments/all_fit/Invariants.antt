use Rattle.std.proofs.Common.{◌≡◌, length}
use Rattle.cs_rules.specs.Expressions.{all_fit}
use Rattle.cs_forms.proofs.arguments.all_fit.Given as goal

-- all so far fit
abbrev pub invariant-loop-cs_type : goal.invariant-loop-cs_type
invariant-loop-cs_type l = all_fit l.wanted l.xs ≡ all_fit l.types l.values

abbrev pub decreases-loop-cs_type : goal.decreases-loop-cs_type
decreases-loop-cs_type l = length l.types
