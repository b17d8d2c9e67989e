-- What code in a template is judged by.
use Rattle.std.specs.Prelude.{ℕ, Bool, false, List, [], ◌∷◌, ◌++◌, if◌then◌else◌, Option, Some, None}
use Rattle.cs_ast.specs.declared.cs_type.CsType.{CsType}
use Rattle.cs_ast.specs.declared.identifier.Ident.{Ident}
use Rattle.cs_ast.specs.declared.scope.Scope.{Scope}
use Rattle.cs_rules.specs.Judged.{Judged, fine, ◌>>=◌}
use Rattle.cs_rules.specs.Names.{is_new, with_local}
use Rattle.cs_forbidden.specs.declared.forbidden.Mark.{Mark}
use Rattle.cs_forbidden.specs.declared.forbidden.Mark.TheVariants.{Steady, Changed}
use Rattle.cs_forbidden.specs.declared.forbidden.Forbidden.{Forbidden}
use Rattle.razor_rules.specs.declared.ground.Ground.{Ground}
use Rattle.razor_rules.specs.Restrictions.{in_lambda, in_template}
use Rattle.razor_rules.specs.Scopes.{Home, member_scope}

-- at the top of a template, where these bodies change a field or invoke a callback
abbrev pub top : Home → List ℕ → Ground
top home impure = record { scope = member_scope home; marks = []; forbidden = in_template [] impure; in_switch = false }

-- in a fragment: all locals are outside of it
abbrev pub in_fragment : Ground → Ground
in_fragment g = record g { forbidden = record g.forbidden { outside = g.marks }; in_switch = false }

-- in the body of a loop, or in a section of a `switch`
abbrev pub in_loop : Ground → Ground
in_loop g = record g { in_switch = false }

-- behind the declaration of a local with this mark
abbrev pub behind_local : Ground → Scope → Mark → Ground
behind_local g s mark = record g { scope = s; marks = g.marks ++ mark ∷ [] }

-- the mark of a local that is assigned in its scope, or isn't
abbrev pub mark_of : Bool → Mark
mark_of assigned = if assigned then Changed else Steady

-- a new local of a type, if there is one
abbrev pub with_new : Option CsType → Ident → Bool → Ground → Judged Ground
with_new None name assigned g = fine g
with_new (Some cs_type) name assigned g = do
  new ← is_new g.scope name
  fine (behind_local g (with_local g.scope name.name cs_type) (mark_of assigned))

-- what is forbidden in a lambda, which is run later
abbrev pub forbidden_in_lambda : Ground → Forbidden
forbidden_in_lambda g = in_lambda g.marks
