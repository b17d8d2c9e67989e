use Rattle.std.proofs.Common.{◌≡◌, drop, map}
use Rattle.std.specs.List.{flat_map}
use Rattle.razor_rules.specs.Findings.{also}
use Rattle.razor_rules.specs.Declarations.{member_rules}
use Rattle.rule_findings.specs.Views.{text_of}
use Rattle.razor_parts.specs.Views.{home_of}
use Rattle.razor_check.specs.Members as members
use Rattle.razor_check.specs.Members.{among}
use Rattle.razor_check.proofs.declarations.members_rules.Given as goal

-- what was found so far, and what is found in the rest
abbrev pub invariant-loop-member : goal.invariant-loop-member
invariant-loop-member l =
    record {
      same : l.scope ≡ l.fn.scope;
      does : also l.fn.found.first (members.members_rules (home_of l.home) l.home.invoking (among l.circular) (map text_of l.earlier))
          ≡ also l.found.first (flat_map (λ one. member_rules (home_of l.home) l.home.invoking (among l.circular) one.kind) (drop l.member-index l.home.members.now));
    }
