use Rattle.std.proofs.Common.{◌≡◌, ◌++◌, drop, map}
use Rattle.std.specs.List.{flat_map}
use Rattle.razor_rules.specs.Tags.{if_named, counted}
use Rattle.razor_rules.specs.Templates.{part_of}
use Rattle.rule_findings.specs.Views.{ident_of}
use Rattle.razor_parts.specs.Views.{home_of}
use Rattle.razor_parts.proofs.tags.push_tag_names.Given as goal

-- the names so far, and those of the rest
abbrev pub invariant-loop-one : goal.invariant-loop-one
invariant-loop-one l =
    map ident_of l.fn.names.items ++ flat_map (λ one. if_named one.place one.tag) (counted (map (part_of (home_of l.home)) l.nodes))
    ≡ map ident_of l.names.items ++ flat_map (λ one. if_named one.place one.tag) (counted (map (part_of (home_of l.home)) (drop l.one-index l.nodes)))
