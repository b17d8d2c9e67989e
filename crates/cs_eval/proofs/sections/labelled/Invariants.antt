use Rattle.std.proofs.Common.{◌≡◌, drop}
use Rattle.std.specs.Prelude.{find}
use Rattle.std.specs.List.{list_any}
use Rattle.cs_meaning.specs.Equality.{is_same}
use Rattle.cs_meaning.specs.Sections.{sections_of}
use Rattle.cs_eval.proofs.sections.labelled.Given as goal

-- no section so far has the value
abbrev pub invariant-loop-section : goal.invariant-loop-section
invariant-loop-section l = find (λ it. list_any (is_same l.value) it.constants) (sections_of l.sections) ≡ find (λ it. list_any (is_same l.value) it.constants) (sections_of (drop l.section-index l.sections))
