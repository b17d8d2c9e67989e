use Rattle.std.proofs.Common.{◌≡◌, drop, map}
use Rattle.razor_rules.specs.Tags.{first_place, counted}
use Rattle.razor_rules.specs.Templates.{part_of}
use Rattle.razor_parts.specs.Views.{home_of}
use Rattle.razor_parts.proofs.tags.first_place.Given as goal

-- those so far are white space
abbrev pub invariant-loop-one : goal.invariant-loop-one
invariant-loop-one l =
    first_place (counted (map (part_of (home_of l.home)) l.nodes)) l.place ≡ first_place (counted (map (part_of (home_of l.home)) (drop l.one-index l.nodes))) l.place
