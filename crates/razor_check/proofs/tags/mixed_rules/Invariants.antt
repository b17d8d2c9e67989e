use Rattle.std.proofs.Common.{◌≡◌, drop, map}
use Rattle.razor_rules.specs.Tags.{counted, mixed_rules}
use Rattle.razor_rules.specs.Templates.{part_of}
use Rattle.razor_parts.specs.Views.{home_of, tagged_view}
use Rattle.razor_check.proofs.tags.mixed_rules.Given as goal

-- those so far are white space or tags of fragments
abbrev pub invariant-loop-one : goal.invariant-loop-one
invariant-loop-one l =
    record {
      found : l.found ≡ l.fn.found;
      rest : mixed_rules (tagged_view l.home.records.now l.around) (counted (map (part_of (home_of l.home)) l.nodes))
          ≡ mixed_rules (tagged_view l.home.records.now l.around) (counted (map (part_of (home_of l.home)) (drop l.one-index l.nodes)));
    }
