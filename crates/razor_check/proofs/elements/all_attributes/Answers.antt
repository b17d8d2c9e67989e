use Rattle.std.proofs.Common.{◌≡◌, ◌+◌, ◌∙◌, ap, sym, drop}
use Rattle.std.specs.Prelude.{Option}
use Rattle.std.specs.List.{flat_map}
use Rattle.razor_rules.specs.declared.finding.Broken.{Broken}
use Rattle.razor_rules.specs.Findings.{also}
use Rattle.razor_check.proofs.AlsoLemmas.{rest_found, all_found}
use Rattle.razor_rules.specs.declared.ground.Ground.{Ground}
use Rattle.razor_check.specs.Elements.{attribute_rules}
use Rattle.razor_check.proofs.elements.all_attributes.Goals as goal

pub loop-one-preserved : goal.loop-one-preserved
loop-one-preserved c =
    record {
      same = c.in_ok-attribute_rules.ensures.same ∙ c.loop-one.invariant.same;
      does =
          c.loop-one.invariant.does
          ∙ rest_found (λ one. attribute_rules c.args.home.now.members.now c.args.g.now one.kind one.name) c.loop-one.found.first c.args.attributes.now c.loop-one.one-index c.one-item.result c.loop-one-test.true c.one-item.is
          ∙ ap (λ (o : Option Broken). also o (flat_map (λ one. attribute_rules c.args.home.now.members.now c.args.g.now one.kind one.name) (drop (c.loop-one.one-index + 1) c.args.attributes.now)))
          (sym (c.in_ok-attribute_rules.ensures.does ∙ ap (λ (g : Ground). also c.loop-one.found.first (attribute_rules c.args.home.now.members.now g c.one-item.result.kind c.one-item.result.name)) c.loop-one.invariant.same));
    }

pub returns-clause-does : goal.returns-clause-does
returns-clause-does c =
    sym (c.loop-one.invariant.does ∙ all_found (λ one. attribute_rules c.args.home.now.members.now c.args.g.now one.kind one.name) c.loop-one.found.first c.args.attributes.now c.loop-one.one-index c.loop-one-test.false)
