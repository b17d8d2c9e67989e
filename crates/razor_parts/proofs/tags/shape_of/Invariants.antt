use Rattle.std.proofs.Common.{◌≡◌, drop, map}
use Rattle.std.specs.Prelude.{◌&&◌, ◌||◌}
use Rattle.std.specs.List.{list_all, list_any}
use Rattle.razor_rules.specs.Tags.{is_fragment_tag, counted}
use Rattle.razor_rules.specs.Templates.{part_of}
use Rattle.razor_parts.specs.Views.{home_of, tagged_view}
use Rattle.razor_parts.proofs.tags.shape_of.Given as goal

-- those so far, and the rest
abbrev pub invariant-loop-one : goal.invariant-loop-one
invariant-loop-one l =
    record {
      all : (l.all && list_all (is_fragment_tag (tagged_view l.home.records.now l.around)) (counted (map (part_of (home_of l.home)) (drop l.one-index l.nodes))))
          ≡ list_all (is_fragment_tag (tagged_view l.home.records.now l.around)) (counted (map (part_of (home_of l.home)) l.nodes));
      any : (l.any || list_any (is_fragment_tag (tagged_view l.home.records.now l.around)) (counted (map (part_of (home_of l.home)) (drop l.one-index l.nodes))))
          ≡ list_any (is_fragment_tag (tagged_view l.home.records.now l.around)) (counted (map (part_of (home_of l.home)) l.nodes));
    }
