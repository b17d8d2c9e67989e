use Rattle.std.proofs.Common.{◌≡◌, drop}
use Rattle.razor_rules.specs.Numbers.{first_number}
use Rattle.razor_rules.specs.Programs.{first_in, files_rules, first_broken}
use Rattle.razor_check.specs.Files.{IsTop, facts}
use Rattle.razor_check.specs.Members.{among}
use Rattle.razor_check.proofs.programs.first_finding.Given as goal

-- the files so far break no rule
abbrev pub invariant-loop-position : goal.invariant-loop-position
invariant-loop-position l =
    record {
      top : IsTop l.facts.records l.g;
      number : l.first ≡ first_number l.components l.position;
      none : first_broken l.components (facts l.facts) ≡ first_in l.position (files_rules l.components (among l.facts.circular) l.position (drop l.position l.components) l.rest);
    }
