-- How the checker goes from part to part of a template: no part of what it promises.
use Rattle.std.specs.Prelude.{◌≡◌, Bool, true, false, List, length, take}
use Rattle.cs_ast.specs.declared.cs_type.CsType.{CsType}
use Rattle.cs_ast.specs.declared.expression.Expr.{Expr}
use Rattle.cs_ast.specs.declared.identifier.Ident.{Ident}
use Rattle.cs_ast.specs.declared.expression.Stmt.{Stmt}
use Rattle.cs_forbidden.specs.Trees.{statement}
use Rattle.cs_rules.specs.Judged.{Judged, fine, breaks, ◌>>=◌}
use Rattle.cs_rules.specs.Names.{is_new}
use Rattle.cs_rules.specs.Expressions.{items_of}
use Rattle.razor_rules.specs.declared.ground.Ground.{Ground}
use Rattle.razor_rules.specs.Parts.{Part, next}
use Rattle.razor_rules.specs.Templates.{declared_by}
use Rattle.razor_rules.specs.Values.{value}

-- locals were declared behind those that were there, and nothing else changed
pub record Kept (before behind : Ground) : Type 0 where
  pub names : take (length before.scope.names) behind.scope.names ≡ before.scope.names
  pub marks : take (length before.marks) behind.marks ≡ before.marks
  pub rest : behind ≡ record before { scope = record before.scope { names = behind.scope.names }; marks = behind.marks }

-- whether no rule is broken
abbrev pub is_fine : {A : Type 0} → Judged A → Bool
is_fine (fine x) = true
is_fine (breaks rule place) = false

-- the ground that is reached, or else the one before
abbrev pub ground_or : Judged Ground → Ground → Ground
ground_or (fine g) before = g
ground_or (breaks rule place) before = before

-- the ground behind a part, for those that follow it
abbrev pub behind_part : Part → List Part → Ground → Judged Ground
behind_part one others g = one.behind g >>= λ s. fine (next one.declares others g s)

-- behind a statement
abbrev pub behind_statement : Stmt → List Part → Ground → Judged Ground
behind_statement one others g = (statement g.forbidden one g.scope >>= λ it. fine it.scope) >>= λ s. fine (next (declared_by one) others g s)

-- the type of the items of the list of a `foreach`, whose local is new
abbrev pub item_type : Ident → Expr → Ground → Judged CsType
item_type name list g = do
  new ← is_new g.scope name
  x ← value g list
  items_of x.place x.expr_type
