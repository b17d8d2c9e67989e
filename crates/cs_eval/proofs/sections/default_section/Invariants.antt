use Rattle.std.proofs.Common.{◌≡◌, drop}
use Rattle.std.specs.Prelude.{find}
use Rattle.cs_meaning.specs.Sections.{sections_of}
use Rattle.cs_eval.proofs.sections.default_section.Given as goal

-- no section so far has `default`
abbrev pub invariant-loop-section : goal.invariant-loop-section
invariant-loop-section l = find (λ it. it.otherwise) (sections_of l.sections) ≡ find (λ it. it.otherwise) (sections_of (drop l.section-index l.sections))
