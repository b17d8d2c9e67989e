use Rattle.std.proofs.Common.{◌≡◌, ◌+◌, ◌∙◌, ap, sym, drop}
use Rattle.std.specs.Prelude.{Option}
use Rattle.std.specs.List.{flat_map}
use Rattle.razor_rules.specs.declared.finding.Broken.{Broken}
use Rattle.razor_rules.specs.Findings.{also, broken_unless, found}
use Rattle.razor_check.proofs.AlsoLemmas.{rest_found, all_found}
use Rattle.razor_check.specs.Elements.{part_rules}
use Rattle.razor_check.proofs.elements.value_rules.Goals as goal

pub loop-part-preserved : goal.loop-part-preserved
loop-part-preserved c =
    c.loop-part.invariant
    ∙ rest_found (part_rules c.args.g.now) c.loop-part.found.first c.args.parts.now c.loop-part.part-index c.part-item.result c.loop-part-test.true c.part-item.is
    ∙ ap (λ (o : Option Broken). also o (flat_map (part_rules c.args.g.now) (drop (c.loop-part.part-index + 1) c.args.parts.now))) (sym c.in_ok-part_rules.ensures)

pub returns : goal.returns
returns c = sym (c.loop-part.invariant ∙ all_found (part_rules c.args.g.now) c.loop-part.found.first c.args.parts.now c.loop-part.part-index c.loop-part-test.false)
