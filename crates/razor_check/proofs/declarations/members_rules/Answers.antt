use Rattle.std.proofs.Common.{◌≡◌, ◌+◌, ◌∙◌, ap, sym, drop}
use Rattle.std.specs.Prelude.{Option}
use Rattle.std.specs.List.{flat_map}
use Rattle.razor_rules.specs.declared.finding.Broken.{Broken}
use Rattle.razor_rules.specs.Findings.{also}
use Rattle.razor_check.proofs.AlsoLemmas.{rest_found, all_found}
use Rattle.razor_rules.specs.Declarations.{member_rules}
use Rattle.razor_parts.specs.Views.{home_of}
use Rattle.razor_check.specs.Members.{among}
use Rattle.razor_check.proofs.declarations.members_rules.Goals as goal

pub loop-member-preserved : goal.loop-member-preserved
loop-member-preserved c =
    record {
      same = c.in_ok-member_rules.ensures.same ∙ c.loop-member.invariant.same;
      does =
          c.loop-member.invariant.does
          ∙ rest_found (λ one. member_rules (home_of c.args.home.now) c.args.home.now.invoking (among c.args.circular.now) one.kind) c.loop-member.found.first c.args.home.now.members.now c.loop-member.member-index c.member-item.result c.loop-member-test.true c.member-item.is
          ∙ ap (λ (o : Option Broken). also o (flat_map (λ one. member_rules (home_of c.args.home.now) c.args.home.now.invoking (among c.args.circular.now) one.kind) (drop (c.loop-member.member-index + 1) c.args.home.now.members.now))) (sym c.in_ok-member_rules.ensures.does);
    }

pub returns-clause-does : goal.returns-clause-does
returns-clause-does c =
    sym (c.loop-member.invariant.does
    ∙ all_found (λ one. member_rules (home_of c.args.home.now) c.args.home.now.invoking (among c.args.circular.now) one.kind) c.loop-member.found.first c.args.home.now.members.now c.loop-member.member-index c.loop-member-test.false)
