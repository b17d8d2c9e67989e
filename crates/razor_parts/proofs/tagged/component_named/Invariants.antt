use Rattle.std.proofs.Common.{◌≡◌, drop}
use Rattle.razor_rules.specs.Parameters.{component_named}
use Rattle.razor_parts.proofs.tagged.component_named.Given as goal

-- none so far has the name
abbrev pub invariant-loop-component : goal.invariant-loop-component
invariant-loop-component l = component_named l.components l.name ≡ component_named (drop l.component-index l.components) l.name
