use Rattle.std.proofs.Common.{◌≡◌, drop, map}
use Rattle.std.specs.Prelude.{find}
use Rattle.frame_run.specs.Sections.{labels}
use Rattle.frame_run.proofs.sections.default_section.Given as goal

-- no section so far has `default`
abbrev pub invariant-loop-section : goal.invariant-loop-section
invariant-loop-section l = find (λ it. it.otherwise) (map labels l.sections) ≡ find (λ it. it.otherwise) (map labels (drop l.section-index l.sections))
