use Rattle.std.proofs.Common.{◌≡◌, ◌+◌, ◌∙◌, ap, sym, drop}
use Rattle.std.specs.Prelude.{Option}
use Rattle.std.specs.List.{flat_map}
use Rattle.razor_rules.specs.declared.finding.Broken.{Broken}
use Rattle.razor_rules.specs.Findings.{also, broken_unless, found}
use Rattle.razor_check.proofs.AlsoLemmas.{rest_found, all_found}
use Rattle.cs_rules.specs.declared.rule.Rule.TheVariants.{UnknownParameter}
use Rattle.razor_rules.specs.Tags.{fragment_attribute}
use Rattle.razor_check.proofs.tags.fragment_attributes.Goals as goal

pub loop-one-preserved : goal.loop-one-preserved
loop-one-preserved c =
    c.loop-one.invariant
    ∙ rest_found fragment_attribute c.loop-one.found.first c.args.attributes.now c.loop-one.one-index c.one-item.result c.loop-one-test.true c.one-item.is
    ∙ ap (λ (o : Option Broken). also o (flat_map fragment_attribute (drop (c.loop-one.one-index + 1) c.args.attributes.now)))
    (sym (c.add_unless.ensures ∙ ap (λ f. also c.loop-one.found.first (broken_unless f UnknownParameter c.one-item.result.place)) c.is_context-fine.ensures))

pub returns : goal.returns
returns c = sym (c.loop-one.invariant ∙ all_found fragment_attribute c.loop-one.found.first c.args.attributes.now c.loop-one.one-index c.loop-one-test.false)
