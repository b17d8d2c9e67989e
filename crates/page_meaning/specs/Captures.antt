-- The locals that a lambda or a fragment uses from outside it.
use Rattle.std.specs.Prelude.{ℕ, ◌&&◌, ◌||◌, Bool, List, [], ◌∷◌, map, filter}
use Rattle.cs_ast.specs.declared.scope.Named.{Named}
use Rattle.cs_ast.specs.declared.scope.Scope.{Scope}
use Rattle.cs_effects.specs.declared.deed.Deed.{Deed}
use Rattle.cs_rules.specs.Names.{is_local, with_local}
use Rattle.razor_rules.specs.TemplateDeeds.{reading, changing}

-- the locals in a scope that are used by what does these deeds, in the order of their declaration
abbrev pub used : (Deed → Bool) → Scope → List Named
used does s = filter (λ one. is_local one.kind && (does (reading one.name) || does (changing one.name))) s.names

-- their positions among the locals
abbrev pub positions_of : List Named → List ℕ
positions_of locals = map (λ one. one.place) locals

-- a scope with these as its next locals
abbrev pub with_captured : List Named → Scope → Scope
with_captured [] s = s
with_captured (one ∷ others) s = with_captured others (with_local s one.name one.cs_type)
