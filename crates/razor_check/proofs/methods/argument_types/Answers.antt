use Rattle.std.proofs.Common.{◌≡◌, ◌+◌, ◌∙◌, ap, sym, drop}
use Rattle.std.specs.Prelude.{Option}
use Rattle.std.specs.List.{flat_map}
use Rattle.razor_rules.specs.declared.finding.Broken.{Broken}
use Rattle.razor_rules.specs.Findings.{also, broken_unless, found}
use Rattle.razor_check.proofs.AlsoLemmas.{rest_found, all_found}
use Rattle.razor_rules.specs.WrittenTypes.{argument_type}
use Rattle.razor_check.proofs.methods.argument_types.Goals as goal

pub loop-one-preserved : goal.loop-one-preserved
loop-one-preserved c =
    c.loop-one.invariant
    ∙ rest_found (λ one. found (argument_type c.args.home.now.records.now one.cs_type)) c.loop-one.found.first c.args.arguments.now c.loop-one.one-index c.one-item.result c.loop-one-test.true c.one-item.is
    ∙ ap (λ (o : Option Broken). also o (flat_map (λ one. found (argument_type c.args.home.now.records.now one.cs_type)) (drop (c.loop-one.one-index + 1) c.args.arguments.now)))
    (sym (c.in_ok-note_type.ensures (argument_type c.args.home.now.records.now c.one-item.result.cs_type) c.argument_type.ensures))

pub returns : goal.returns
returns c = sym (c.loop-one.invariant ∙ all_found (λ one. found (argument_type c.args.home.now.records.now one.cs_type)) c.loop-one.found.first c.args.arguments.now c.loop-one.one-index c.loop-one-test.false)
