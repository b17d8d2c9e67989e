use Rattle.std.proofs.Common.{◌≡◌, drop, map}
use Rattle.std.specs.Prelude.{find}
use Rattle.std.specs.List.{list_any}
use Rattle.cs_meaning.specs.Equality.{is_same}
use Rattle.frame_run.specs.Sections.{labels}
use Rattle.frame_run.proofs.sections.labelled.Given as goal

-- no section so far has the value
abbrev pub invariant-loop-section : goal.invariant-loop-section
invariant-loop-section l = find (λ it. list_any (is_same l.value) it.constants) (map labels l.sections) ≡ find (λ it. list_any (is_same l.value) it.constants) (map labels (drop l.section-index l.sections))
