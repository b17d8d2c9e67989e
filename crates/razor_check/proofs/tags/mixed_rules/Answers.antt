use Rattle.std.proofs.Common.{◌≡◌, ◌∷◌, [], ◌∙◌, ap, sym}
use Rattle.text_core.specs.declared.place.Place.{Place}
use Rattle.cs_rules.specs.declared.rule.Rule.TheVariants.{MixedContent}
use Rattle.razor_rules.specs.Findings.{also, broken}
use Rattle.razor_rules.specs.Templates.{part_of}
use Rattle.razor_rules.proofs.FirstLaws.{also_nothing}
use Rattle.rule_findings.specs.declared.findings.Findings.{Findings}
use Rattle.razor_parts.specs.Views.{home_of, tagged_view}
use Rattle.razor_check.proofs.CountedLemmas.{mixed_at, mixed_none}
use Rattle.razor_check.proofs.tags.mixed_rules.Goals as goal

pub returns-then-not-branch-2 : goal.returns-then-not-branch-2
returns-then-not-branch-2 c =
    c.add.ensures
    ∙ ap (λ (place : Place). also c.loop-one.found.first (broken MixedContent place ∷ [])) c.place_of.ensures
    ∙ ap (λ (found : Findings). also found.first (broken MixedContent (part_of (home_of c.args.home.now) c.one-item.result).place ∷ [])) c.loop-one.invariant.found
    ∙ ap (also c.args.found.now.first)
    (sym (c.loop-one.invariant.rest
    ∙ mixed_at (part_of (home_of c.args.home.now)) c.args.nodes.now c.loop-one.one-index c.one-item.result c.loop-one-test.true c.one-item.is (tagged_view c.args.home.now.records.now c.args.around)
    (sym c.in_ok-is_blank.ensures ∙ c.if-not-branch.true) (sym c.in_ok-is_fragment_tag.ensures ∙ c.if-not-branch-2.true)))

pub returns : goal.returns
returns c =
    sym (ap (also c.args.found.now.first)
    (c.loop-one.invariant.rest ∙ mixed_none (part_of (home_of c.args.home.now)) c.args.nodes.now c.loop-one.one-index (tagged_view c.args.home.now.records.now c.args.around) c.loop-one-test.false)
    ∙ also_nothing c.args.found.now.first
    ∙ ap (λ (found : Findings). found.first) (sym c.loop-one.invariant.found))
