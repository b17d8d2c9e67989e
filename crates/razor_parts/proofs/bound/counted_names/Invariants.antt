use Rattle.std.proofs.Common.{◌≡◌, ◌++◌, drop, map}
use Rattle.std.specs.List.{flat_map}
use Rattle.razor_rules.specs.Names.{name_at}
use Rattle.razor_rules.specs.Elements.{names, names_as}
use Rattle.razor_parts.specs.Views.{home_of}
use Rattle.razor_parts.proofs.bound.counted_names.Given as goal

-- the names so far, and those of the rest
abbrev pub invariant-loop-one : goal.invariant-loop-one
invariant-loop-one l =
    names (home_of l.home) l.element l.attributes
    ≡ l.all.items ++ flat_map (λ one. map (name_at one.place) (names_as (home_of l.home) l.element l.attributes one.kind one.name)) (drop l.one-index l.attributes)
