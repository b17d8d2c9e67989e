use Rattle.std.proofs.Common.{◌≡◌, ◌∙◌, ap, sym, map, take, drop, ◌++◌, ◌+◌}
use Rattle.std.proofs.lemmas.List.{append-nil, at_drop_all}
use Rattle.razor_rules.specs.Findings.{also, broken_unless}
use Rattle.razor_rules.specs.Names.{repeated}
use Rattle.razor_rules.proofs.FirstLaws.{also_nothing}
use Rattle.rule_findings.specs.Views.{text_of, ident_of}
use Rattle.rule_findings.proofs.NameLemmas.{repeated_more}
use Rattle.rule_findings.proofs.names.repeated_behind.Goals as goal

pub loop-at-init : goal.loop-at-init
loop-at-init c =
    ap (λ b. also c.args.found.now.first (repeated c.args.rule b (map ident_of c.args.names.now))) (sym (append-nil (map text_of c.args.before.now)))

pub loop-at-preserved : goal.loop-at-preserved
loop-at-preserved c =
    c.loop-at.invariant
    ∙ repeated_more c.args.rule c.loop-at.found.first (map text_of c.args.before.now) c.args.names.now c.loop-at.at c.index-names-at.result c.loop-at-test.true c.index-names-at.is
    ∙ ap (λ o. also o (repeated c.args.rule (map text_of c.args.before.now ++ map text_of (take (c.loop-at.at + 1) c.args.names.now)) (map ident_of (drop (c.loop-at.at + 1) c.args.names.now))))
    (sym (c.add_unless.ensures ∙ ap (λ f. also c.loop-at.found.first (broken_unless f c.args.rule c.index-names-at.result.place)) c.is_free-free.ensures))

pub returns : goal.returns
returns c =
    sym (c.loop-at.invariant
    ∙ at_drop_all (λ names. also c.loop-at.found.first (repeated c.args.rule (map text_of c.args.before.now ++ map text_of (take c.loop-at.at c.args.names.now)) (map ident_of names))) c.args.names.now c.loop-at.at c.loop-at-test.false
    ∙ also_nothing c.loop-at.found.first)
